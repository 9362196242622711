-- Files of keys, line by line.
use Rattle.std.proofs.Common.{◌≡◌, ◌∙◌, ◌<◌, ◌≤◌, ◌+◌, ◌*◌, ◌-◌, ℕ, refl, sym, ap, subst, List, [], ◌∷◌, ◌++◌, length, get_or, take, drop}
use Rattle.std.proofs.Common.{Option, Some, None, Result, Ok, Err, All, IfSome, Bor, arith, option_map, IsErrAnd, ◌⊎◌, inl, inr}
use Rattle.std.proofs.lemmas.List.{append_assoc, append-nil, append_cancel_left, length-append, length-take, take-append-drop, take_all}
use Rattle.std.proofs.lemmas.List.Elements.{All-nil, All-head, All-tail, All-push, All-get_or}
use Rattle.std.proofs.lemmas.List.Quantifiers.{all_pairs_push}
use Rattle.std.proofs.Math.Seq.{get_or-append_seam, take-append-add}
use Rattle.std.proofs.Math.ListN.{get_or-append}
use Rattle.clerks.specs.declared.list.TheConstants.{MOST_CLERKS}
use Rattle.clerks.specs.declared.clerk.Clerk.{Clerk}
use Rattle.front.specs.declared.keys.TheConstants.{LONGEST_FILE}
use Rattle.front.specs.declared.keys.KeysFault.{KeysFault}
use Rattle.front.specs.declared.keys.KeysFault.TheVariants.{Line, Read, Memory}
use Rattle.front.specs.Keys.{line_of, text_of, IsClerk, Differ, AreClerks, IsFile, IsWrongAfter, IsFirstWrong, IsNoFile, AreReadOnce, ReadsKeys}
use Rattle.front.specs.KeyReading.{IsCut, IsNoLine, Takes, Reads}
use Rattle.front.proofs.KeyLines.{cut_once, line_no_newline, line_short, line_once}

-- ---- one clerk more

nil_good : AreClerks []
nil_good = record { each = All-nil IsClerk; differ = λ i j d before within. absurd (omega arith); few = omega arith }

last_clerk : (above : List Clerk) (clerk : Clerk) → AreClerks (above ++ clerk ∷ []) → IsClerk clerk
last_clerk above clerk good =
    subst IsClerk (get_or-append_seam above clerk [] clerk)
    (All-get_or IsClerk (above ++ clerk ∷ []) (length above) clerk (omega (arith, length-append above (clerk ∷ []))) good.each)

last_differs : (above : List Clerk) (clerk : Clerk) → AreClerks (above ++ clerk ∷ []) → All (λ one. Differ one clerk) above
last_differs above clerk good k d less =
    let pair = good.differ k (length above) d less (omega (arith, length-append above (clerk ∷ []))) in
    subst (λ (other : Clerk). Differ (get_or above k d) other) (get_or-append_seam above clerk [] d)
    (subst (λ (one : Clerk). Differ one (get_or (above ++ clerk ∷ []) (length above) d)) (get_or-append above (clerk ∷ []) d k less) pair)

one_more : (above : List Clerk) (clerk : Clerk) → AreClerks above → IsClerk clerk → All (λ one. Differ one clerk) above → length above < MOST_CLERKS → AreClerks (above ++ clerk ∷ [])
one_more above clerk good h new few =
    record {
      each = All-push IsClerk above clerk good.each h;
      differ = all_pairs_push Differ above clerk good.differ new;
      few = omega (arith, few, length-append above (clerk ∷ []));
    }

-- The clerks of a file's first lines.
front_good : (above more : List Clerk) → AreClerks (above ++ more) → AreClerks above
front_good above more good =
    record {
      each = λ k d less. subst IsClerk (get_or-append above more d k less) (good.each k d (omega (arith, less, length-append above more)));
      differ = λ i j d before within.
          let first : i < length above = omega (arith, before, within) in
          let pair = good.differ i j d before (omega (arith, within, length-append above more)) in
          subst (λ (other : Clerk). Differ (get_or above i d) other) (get_or-append above more d j within)
          (subst (λ (one : Clerk). Differ one (get_or (above ++ more) j d)) (get_or-append above more d i first) pair);
      few = omega (arith, good.few, length-append above more);
    }

-- ---- the next line

pub other_line : (above : List Clerk) (bytes line rest : List ℕ) → IsCut bytes (Some (line, rest)) → IsNoLine line → IsWrongAfter above bytes
other_line above bytes line rest cut none =
    record {
      none = λ clerk more good e.
          let h = last_clerk above clerk good in
          none clerk h (cut_once 10 line (line_of clerk) rest more cut.1 (line_no_newline clerk h) (sym cut.0 ∙ e)).0;
    }

pub known_clerk : (above : List Clerk) (bytes line rest : List ℕ) (clerk : Clerk) → IsCut bytes (Some (line, rest)) → IsClerk clerk → line ≡ line_of clerk
    → (All (λ one. Differ one clerk) above → ⊥) → IsWrongAfter above bytes
known_clerk above bytes line rest clerk cut h is known =
    record {
      none = λ other more good e.
          let g = last_clerk above other good in
          let same_line = (cut_once 10 line (line_of other) rest more cut.1 (line_no_newline other g) (sym cut.0 ∙ e)).0 in
          let same : other ≡ clerk = line_once other clerk g h (sym same_line ∙ is) in
          known (subst (λ (it : Clerk). All (λ one. Differ one it) above) same (last_differs above other good));
    }

pub taken : (above all : List Clerk) (bytes line rest : List ℕ) (clerk : Clerk) → IsCut bytes (Some (line, rest)) → IsClerk clerk → line ≡ line_of clerk
    → All (λ one. Differ one clerk) above → length above < MOST_CLERKS → all ≡ above ++ clerk ∷ [] → Takes above bytes all rest
taken above all bytes line rest clerk cut h is new few more =
    record {
      clerk = clerk;
      more = more;
      line = cut.0 ∙ ap (λ (t : List ℕ). t ++ (10 ∷ rest)) is;
      good = λ good. subst AreClerks (sym more) (one_more above clerk good h new few);
    }

-- ---- from line to line

text_more : (above : List Clerk) (clerk : Clerk) (rest : List ℕ) → text_of (above ++ clerk ∷ []) ++ rest ≡ text_of above ++ (line_of clerk ++ (10 ∷ rest))
text_more [] clerk rest = append_assoc (line_of clerk) (10 ∷ []) rest
text_more (first ∷ above) clerk rest =
    append_assoc (line_of first) (10 ∷ text_of (above ++ clerk ∷ [])) rest
    ∙ (ap (λ (t : List ℕ). line_of first ++ (10 ∷ t)) (text_more above clerk rest)
    ∙ sym (append_assoc (line_of first) (10 ∷ text_of above) (line_of clerk ++ (10 ∷ rest))))

-- The clerks so far are those of the lines so far.
pub record HasTaken (bytes : List ℕ) (above : List Clerk) (rest : List ℕ) : Type 0 where
  pub good : AreClerks above
  pub some : 0 < length above
  pub text : bytes ≡ text_of above ++ rest

next_good : (above all : List Clerk) (bytes rest next : List ℕ) → AreClerks above → bytes ≡ text_of above ++ rest → Takes above rest all next → HasTaken bytes all next
next_good above all bytes rest next good text t =
    record {
      good = t.good good;
      some = omega (arith, ap length t.more, length-append above (t.clerk ∷ []));
      text = text ∙ (ap (λ (r : List ℕ). text_of above ++ r) t.line
          ∙ (sym (text_more above t.clerk next) ∙ ap (λ (cs : List Clerk). text_of cs ++ next) (sym t.more)));
    }

pub first_taken : (all : List Clerk) (bytes next : List ℕ) → Takes [] bytes all next → HasTaken bytes all next
first_taken all bytes next t = next_good [] all bytes bytes next nil_good refl t

pub more_taken : (above all : List Clerk) (bytes rest next : List ℕ) → HasTaken bytes above rest → Takes above rest all next → HasTaken bytes all next
more_taken above all bytes rest next h t = next_good above all bytes rest next h.good h.text t

pub shorter : (above all : List Clerk) (rest next : List ℕ) → Takes above rest all next → length next < length rest
shorter above all rest next t = omega (arith, ap length t.line, length-append (line_of t.clerk) (10 ∷ next))

pub all_taken : (bytes : List ℕ) (above : List Clerk) (rest : List ℕ) → HasTaken bytes above rest → length rest ≡ 0 → Reads bytes (Ok above)
all_taken bytes above [] h none = record { form = record { good = h.good; some = h.some }; text = h.text ∙ append-nil (text_of above) }
all_taken bytes above (b ∷ rest) h none = absurd (omega (arith, none))

abbrev WhyNot : List Clerk → List ℕ → KeysFault → Type 0
WhyNot above rest fault =
    (n : ℕ) → ◌≡◌ {A = Result (Bor (List ℕ)) KeysFault} (Err fault) (Err (Line n)) → (n ≡ length above + 1) × IsWrongAfter above rest

abbrev NotRead : KeysFault → Type 0
NotRead fault = ◌≡◌ {A = Result (Bor (List ℕ)) KeysFault} (Err fault) (Err Read) → ⊥

refused : (bytes : List ℕ) (above : List Clerk) (rest : List ℕ) (fault : KeysFault) → AreClerks above → bytes ≡ text_of above ++ rest → (rest ≡ [] → above ≡ [])
    → WhyNot above rest fault → NotRead fault → Reads bytes (Err fault)
refused bytes above rest (Line n) good text goes_on wrong read =
    record { above = above; rest = rest; good = good; text = text; count = (wrong n refl).0; wrong = (wrong n refl).1; goes_on = goes_on }
refused bytes above rest Read good text goes_on wrong read = absurd (read refl)
refused bytes above rest Memory good text goes_on wrong read = tt

pub first_refused : (bytes : List ℕ) (fault : KeysFault) → WhyNot [] bytes fault → NotRead fault → Reads bytes (Err fault)
first_refused bytes fault wrong read = refused bytes [] bytes fault nil_good refl (λ none. refl) wrong read

pub next_refused : (bytes : List ℕ) (above : List Clerk) (rest : List ℕ) (fault : KeysFault) → HasTaken bytes above rest → (length rest ≡ 0 → ⊥)
    → WhyNot above rest fault → NotRead fault → Reads bytes (Err fault)
next_refused bytes above rest fault h some wrong read = refused bytes above rest fault h.good h.text (λ none. absurd (some (ap length none))) wrong read

pub passed_on : (bytes : List ℕ) (r : Result (List Clerk) KeysFault) (fault : KeysFault) → IsErrAnd r (λ e. e ≡ fault) → Reads bytes (Err fault) → Reads bytes r
passed_on bytes (Ok clerks) fault same h = absurd same
passed_on bytes (Err other) fault same h = subst (λ (e : KeysFault). Reads bytes (Err e)) (sym same) h

-- ---- whole files

text_short : (clerks : List Clerk) → All IsClerk clerks → length (text_of clerks) ≤ 58 * length clerks
text_short [] each = omega arith
text_short (clerk ∷ clerks) each =
    omega (
      arith,
      length-append (line_of clerk) (10 ∷ text_of clerks),
      line_short clerk (All-head IsClerk clerk clerks each),
      text_short clerks (All-tail IsClerk clerk clerks each),
    )

fits : (clerks : List Clerk) → AreClerks clerks → length (text_of clerks) ≤ LONGEST_FILE
fits clerks good = omega (arith, text_short clerks good.each, good.few)

-- The file of some clerks begins with the lines of no others.
begins : (above clerks : List Clerk) (rest : List ℕ) → All IsClerk above → All IsClerk clerks → text_of above ++ rest ≡ text_of clerks
    → (after : List Clerk) × (clerks ≡ above ++ after) × (rest ≡ text_of after)
begins [] clerks rest ha hc e = (clerks, refl, e)
begins (one ∷ above) [] rest ha hc e =
    absurd (omega (arith, ap length e, length-append (line_of one ++ (10 ∷ text_of above)) rest, length-append (line_of one) (10 ∷ text_of above)))
begins (one ∷ above) (other ∷ clerks) rest ha hc e =
    let one_is = All-head IsClerk one above ha in
    let other_is = All-head IsClerk other clerks hc in
    let cut = cut_once 10 (line_of one) (line_of other) (text_of above ++ rest) (text_of clerks) (line_no_newline one one_is) (line_no_newline other other_is)
    (sym (append_assoc (line_of one) (10 ∷ text_of above) rest) ∙ e) in
    let same : one ≡ other = line_once one other one_is other_is cut.0 in
    let more = begins above clerks rest (All-tail IsClerk one above ha) (All-tail IsClerk other clerks hc) cut.1 in
    let others : clerks ≡ above ++ more.0 = more.1 in
    (more.0, (cc), more.2)

no_text : (clerks : List Clerk) → [] ≡ text_of clerks → clerks ≡ []
no_text [] e = refl
no_text (clerk ∷ clerks) e = absurd (omega (arith, ap length e, length-append (line_of clerk) (10 ∷ text_of clerks)))

read_once : (bytes : List ℕ) (one other : List Clerk) → IsFile bytes one → IsFile bytes other → one ≡ other
read_once bytes one other h g =
    let more = begins one other [] h.form.good.each g.form.good.each (append-nil (text_of one) ∙ (sym h.text ∙ g.text)) in
    let none : more.0 ≡ [] = no_text more.0 more.2 in
    sym (more.1 ∙ (ap (λ (cs : List Clerk). one ++ cs) none ∙ append-nil one))

not_past : (above after : List Clerk) (rest : List ℕ) → IsWrongAfter above rest → (rest ≡ [] → above ≡ []) → AreClerks (above ++ after) → 0 < length (above ++ after)
    → rest ≡ text_of after → ⊥
not_past above [] rest wrong goes_on good some e =
    let none : above ≡ [] = goes_on e in
    let nothing : length (above ++ []) ≡ 0 = ap (λ (cs : List Clerk). length (cs ++ [])) none in
    omega (arith, some, nothing)
not_past above (clerk ∷ after) rest wrong goes_on good some e =
    wrong.none clerk (text_of after) (front_good (above ++ clerk ∷ []) after (subst AreClerks (sym (append_assoc above (clerk ∷ []) after)) good)) e

no_file : (bytes : List ℕ) (n : ℕ) → IsFirstWrong bytes n → IsNoFile bytes
no_file bytes n h =
    record {
      none = λ clerks file.
          let more = begins h.above clerks h.rest h.good.each file.form.good.each (sym h.text ∙ file.text) in
          not_past h.above more.0 h.rest h.wrong h.goes_on (subst AreClerks more.1 file.form.good)
          (subst (λ (cs : List Clerk). 0 < length cs) more.1 file.form.some) more.2;
    }

-- Of two lists of clerks with whose lines the same bytes begin, one begins with the other.
abbrev Continues : List Clerk → List ℕ → List Clerk → List ℕ → Type 0
Continues one rest other more = (after : List Clerk) × (other ≡ one ++ after) × (rest ≡ text_of after ++ more)

abbrev OneContinues : List Clerk → List ℕ → List Clerk → List ℕ → Type 0
OneContinues one rest other more = Continues one rest other more ⊎ Continues other more one rest

compared : (one other : List Clerk) (rest more : List ℕ) → All IsClerk one → All IsClerk other → text_of one ++ rest ≡ text_of other ++ more
    → OneContinues one rest other more
compared [] other rest more ha hb e = inl (other, refl, e)
compared (a ∷ one) [] rest more ha hb e = inr (a ∷ one, refl, sym e)
compared (a ∷ one) (b ∷ other) rest more ha hb e =
    let a_is = All-head IsClerk a one ha in
    let b_is = All-head IsClerk b other hb in
    let cut = cut_once 10 (line_of a) (line_of b) (text_of one ++ rest) (text_of other ++ more) (line_no_newline a a_is) (line_no_newline b b_is)
    (sym (append_assoc (line_of a) (10 ∷ text_of one) rest) ∙ (e ∙ append_assoc (line_of b) (10 ∷ text_of other) more)) in
    let same : a ≡ b = line_once a b a_is b_is cut.0 in
    go same (compared one other rest more (All-tail IsClerk a one ha) (All-tail IsClerk b other hb) cut.1)
  where
    go : a ≡ b → OneContinues one rest other more → OneContinues (a ∷ one) rest (b ∷ other) more
    go same (inl h) = let others : other ≡ one ++ h.0 = h.1 in inl (h.0, (cc), h.2)
    go same (inr h) = let ones : one ≡ other ++ h.0 = h.1 in inr (h.0, (cc), h.2)

as_many : (one other : List Clerk) (rest more : List ℕ) → IsWrongAfter one rest → AreClerks other → Continues one rest other more → length one ≡ length other
as_many one other rest more wrong good ([], is, e) = ap length (sym (is ∙ append-nil one))
as_many one other rest more wrong good (clerk ∷ after, is, e) =
    absurd (wrong.none clerk (text_of after ++ more)
    (front_good (one ++ clerk ∷ []) after (subst AreClerks (is ∙ sym (append_assoc one (clerk ∷ []) after)) good))
    (e ∙ append_assoc (line_of clerk) (10 ∷ text_of after) more))

wrong_once : (bytes : List ℕ) (n m : ℕ) → IsFirstWrong bytes n → IsFirstWrong bytes m → n ≡ m
wrong_once bytes n m h g =
    h.count ∙ (ap (λ (k : ℕ). k + 1) (go (compared h.above g.above h.rest g.rest h.good.each g.good.each (sym h.text ∙ g.text))) ∙ sym g.count)
  where
    go : OneContinues h.above h.rest g.above g.rest → length h.above ≡ length g.above
    go (inl more) = as_many h.above g.above h.rest g.rest h.wrong g.good more
    go (inr more) = sym (as_many g.above h.above g.rest h.rest g.wrong h.good more)

pub are_read_once : (bytes : List ℕ) → AreReadOnce bytes
are_read_once bytes =
    record {
      clerks = read_once bytes;
      line = wrong_once bytes;
      not_both = λ clerks n file wrong. (no_file bytes n wrong).none clerks file;
    }

-- ---- bytes that were read up to the limit

-- What is wrong in the first bytes is wrong in all.
wrong_in_all : (all above_bytes rest : List ℕ) (above : List Clerk) → above_bytes ≡ text_of above ++ rest → above_bytes ≡ take (LONGEST_FILE + 1) all
    → IsWrongAfter above rest → IsWrongAfter above (rest ++ drop (LONGEST_FILE + 1) all)
wrong_in_all all bytes rest above text cut wrong =
    record {
      none = λ clerk more good e.
          let line = line_of clerk ++ (10 ∷ []) in
          let full = text_of above ++ line in
          let whole : text_of (above ++ clerk ∷ []) ≡ full =
          sym (append-nil (text_of (above ++ clerk ∷ []))) ∙ text_more above clerk [] in
          let small : length full ≤ LONGEST_FILE = omega (arith, ap length whole, fits (above ++ clerk ∷ []) good) in
          let n : ℕ = LONGEST_FILE + 1 - length full in
          let sum : length full + n ≡ LONGEST_FILE + 1 = omega (arith, small) in
          let all_is : all ≡ full ++ more =
          sym (take-append-drop (LONGEST_FILE + 1) all)
          ∙ (ap (λ (t : List ℕ). t ++ drop (LONGEST_FILE + 1) all) (sym cut ∙ text)
          ∙ (append_assoc (text_of above) rest (drop (LONGEST_FILE + 1) all)
          ∙ (ap (λ (t : List ℕ). text_of above ++ t) (e ∙ sym (append_assoc (line_of clerk) (10 ∷ []) more)) ∙ sym (append_assoc (text_of above) line more)))) in
          let bytes_are : bytes ≡ full ++ take n more =
          cut ∙ (ap (λ (k : ℕ). take k all) (sym sum) ∙ (ap (take (length full + n)) all_is ∙ take-append-add full more n)) in
          wrong.none clerk (take n more) good
          (append_cancel_left (text_of above) rest (line_of clerk ++ (10 ∷ take n more))
          (sym text ∙ (bytes_are ∙ (append_assoc (text_of above) line (take n more) ∙ ap (λ (t : List ℕ). text_of above ++ t) (append_assoc (line_of clerk) (10 ∷ []) (take n more))))));
    }

no_front : (a b : List ℕ) → a ++ b ≡ [] → a ≡ []
no_front [] b e = refl
no_front (x ∷ a) b e = absurd (omega (arith, ap length e))

first_in_all : (all bytes : List ℕ) (n : ℕ) → bytes ≡ take (LONGEST_FILE + 1) all → IsFirstWrong bytes n → IsFirstWrong all n
first_in_all all bytes n cut h =
    record {
      above = h.above;
      rest = h.rest ++ drop (LONGEST_FILE + 1) all;
      good = h.good;
      text = sym (take-append-drop (LONGEST_FILE + 1) all)
          ∙ (ap (λ (t : List ℕ). t ++ drop (LONGEST_FILE + 1) all) (sym cut ∙ h.text) ∙ append_assoc (text_of h.above) h.rest (drop (LONGEST_FILE + 1) all));
      count = h.count;
      wrong = wrong_in_all all bytes h.rest h.above h.text cut h.wrong;
      goes_on = λ none. h.goes_on (no_front h.rest (drop (LONGEST_FILE + 1) all) none);
    }

file_of_all : (all bytes : List ℕ) (clerks : List Clerk) → bytes ≡ take (LONGEST_FILE + 1) all → IsFile bytes clerks → IsFile all clerks
file_of_all all bytes clerks cut h =
    let short : length all ≤ LONGEST_FILE + 1 =
    omega (arith, fits clerks h.form.good, ap length h.text, ap length cut, length-take (LONGEST_FILE + 1) all) in
    record { form = h.form; text = sym (take_all (LONGEST_FILE + 1) all short) ∙ (sym cut ∙ h.text) }

pub told : (known : Option (List ℕ)) (bytes : List ℕ) (r : Result (List Clerk) KeysFault) → IfSome known (λ all. bytes ≡ take (LONGEST_FILE + 1) all)
    → Reads bytes r → ReadsKeys known r
told None bytes (Ok clerks) cut h = (h.form, tt)
told (Some all) bytes (Ok clerks) cut h = (h.form, (file_of_all all bytes clerks cut h).text)
told None bytes (Err (Line n)) cut h = (omega (arith, h.count), omega (arith, h.count, h.good.few), tt)
told (Some all) bytes (Err (Line n)) cut h =
    let first = first_in_all all bytes n cut h in
    (omega (arith, h.count), omega (arith, h.count, h.good.few), (first, no_file all n first))
told known bytes (Err Read) cut h = absurd h
told known bytes (Err Memory) cut h = tt

pub unread : (known : Option (List ℕ)) (fault : KeysFault) → ((n : ℕ) → ◌≡◌ {A = Result (List ℕ) KeysFault} (Err fault) (Err (Line n)) → ⊥) → ReadsKeys known (Err fault)
unread known (Line n) not_line = absurd (not_line n refl)
unread known Read not_line = tt
unread known Memory not_line = tt

pub started : (known : Option (List ℕ)) (n : ℕ) (new : List ℕ) → IfSome (option_map (take n) known) (λ xs. new ≡ [] ++ xs) → IfSome known (λ all. new ≡ take n all)
started None n new h = tt
started (Some all) n new h = h
