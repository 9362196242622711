-- Worked examples of clerks: whose key it is, what they may send, and under which key.
use Rattle.std.specs.Prelude.{◌≡◌, List, [], ◌∷◌, map, codes, Some, None, option_map, true, false, refl}
use Rattle.terms.specs.Forms.{is_outside_key, is_clerk_name, is_clerk_key}
use Rattle.terms.specs.declared.command.Command.TheVariants.{CheckOut, CheckIn, Renew, Page, Pay, Waive, Ask}
use Rattle.terms.specs.declared.question.Question.TheVariants.{Copy, Copies, Borrower, Account, FindBarcode, Today}
use Rattle.clerks.specs.Clerks.{may_send, key_given_by, sole_clerk, clerk_of}
use Rattle.clerks.specs.declared.clerk.Role.TheVariants as role
use Rattle.clerks.specs.declared.clerk.Clerk.{Clerk}

-- Two clerks, and a machine that only lends.
abbrev three : List Clerk
three = record { name = Some (codes "ann"); role = role.Desk; key = codes "annkey000001" }
    ∷ record { name = Some (codes "bo"); role = role.Desk; key = codes "bokey0000001" }
    ∷ record { name = Some (codes "kiosk"); role = role.Lending; key = codes "kioskkey0001" } ∷ []

-- A key is that of the clerk who has it, and of nobody else.
keys_of_clerks : map (λ shown. option_map (λ c. c.name) (clerk_of (codes shown) three)) ("annkey000001" ∷ "kioskkey0001" ∷ "annkey00000" ∷ "Annkey000001" ∷ [])
    ≡ Some (Some (codes "ann")) ∷ Some (Some (codes "kiosk")) ∷ None ∷ None ∷ []
unfolding clerk_of
keys_of_clerks = refl

-- Of two clerks with one key the first has it.
first_with_a_key : option_map (λ c. c.role) (clerk_of (codes "annkey000001") (record { name = None; role = role.Lending; key = codes "annkey000001" } ∷ three))
    ≡ Some role.Lending
unfolding clerk_of
first_with_a_key = refl

-- What a machine may send that only lends.
sent_by_lending : map (may_send role.Lending) (CheckOut 1 10 1 ∷ CheckIn 10 1 ∷ Renew 1 ∷ Page 1 ∷ Ask (Copy 10) ∷ Ask (Borrower 1)
    ∷ Ask (FindBarcode (codes "30000100000010")) ∷ Ask Today ∷ [])
    ≡ true ∷ true ∷ true ∷ true ∷ true ∷ true ∷ true ∷ true ∷ []
sent_by_lending = refl

not_sent_by_lending : map (may_send role.Lending) (Pay 1 10 ∷ Waive 1 10 ∷ Ask (Account 1 0) ∷ Ask (Copies 100 0) ∷ []) ≡ false ∷ false ∷ false ∷ false ∷ []
not_sent_by_lending = refl

-- And what a clerk of the desk may.
sent_by_desk : map (may_send role.Desk) (CheckOut 1 10 1 ∷ Waive 1 10 ∷ Ask (Account 1 0) ∷ []) ≡ true ∷ true ∷ true ∷ []
sent_by_desk = refl

-- A clerk's request has the name before the key; that of a desk with one key hasn't.
keys_given : key_given_by (Some (codes "ann")) (codes "r1") ∷ key_given_by (Some (codes "ann")) (codes "r 1") ∷ key_given_by None (codes "r1") ∷ []
    ≡ Some (codes "ann/r1") ∷ None ∷ Some (codes "r1") ∷ []
unfolding is_outside_key
keys_given = refl

-- A key has a clerk's name if that has at most sixteen letters and digits.
keys_of_long_names : map is_clerk_key (codes "abcdefghijklmnop/r1" ∷ codes "abcdefghijklmnopq/r1" ∷ codes "ann/" ∷ []) ≡ true ∷ false ∷ false ∷ []
unfolding is_outside_key is_clerk_name is_clerk_key
keys_of_long_names = refl

sole_clerk_sends_everything : may_send (sole_clerk (codes "deskkey00001")).role (Waive 1 10) ∷ [] ≡ true ∷ []
sole_clerk_sends_everything = refl
