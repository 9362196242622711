-- Worked examples of files of keys.
use Rattle.std.specs.Prelude.{◌≡◌, ◌++◌, [], ◌∷◌, Some, codes, refl}
use Rattle.clerks.specs.declared.clerk.Role.TheVariants.{Desk, Lending}
use Rattle.clerks.specs.declared.clerk.Clerk.{Clerk}
use Rattle.front.specs.Keys.{line_of, text_of}

abbrev ann : Clerk
ann = record { name = Some (codes "ann"); role = Desk; key = codes "k7Gd02mQ" }

abbrev kiosk : Clerk
kiosk = record { name = Some (codes "kiosk1"); role = Lending; key = codes "AAAA1111bbbb" }

line_ann : line_of ann ≡ codes "ann desk k7Gd02mQ"
line_ann = refl

line_kiosk : line_of kiosk ≡ codes "kiosk1 lending AAAA1111bbbb"
line_kiosk = refl

text_both : text_of (ann ∷ kiosk ∷ []) ≡ codes "ann desk k7Gd02mQ" ++ (10 ∷ (codes "kiosk1 lending AAAA1111bbbb" ++ (10 ∷ [])))
text_both = refl
