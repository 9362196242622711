-- The records of a file, and the bad ones among them.
use Rattle.std.proofs.Common.{◌≡◌, ◌≢◌, inl, inr, ◌∙◌, ◌+◌, ◌++◌, ℕ, Bool, true, false, refl, sym, ap, subst}
use Rattle.std.proofs.Common.{List, [], ◌∷◌, length, Option, Some, None, arith}
use Rattle.std.proofs.lemmas.List.{append-nil, length-append}
use Rattle.csv.specs.Machine.{next_record}
use Rattle.csv.specs.Reading.{Reached, ReadRecord, default_config, records_from, source_of, strip_bom}
use Rattle.csv.specs.declared.parser.State.{State}
use Rattle.csv.specs.declared.parser.State.TheVariants as st
use Rattle.csv.specs.declared.reader.Reader.{Reader}
use Rattle.csv.proofs.ReadFacts.{rows-end, rows-more}
use Rattle.std.specs.Prelude.{option_map}
use Rattle.front.specs.Copies.{Fields, HaveRows, IsFileOf, records_in}
use Rattle.front.specs.CopyReading.{IsPlain}
use Rattle.front.specs.Checking.{IsGood, IsBadRow, HaveBadRows, AreChecked, HasChecked, Counts, IsRestChecking, IsCheckOf, IsChecking, TellsBad}
use Rattle.front.specs.Checking.{ChecksAgree, end_after, HasHeader as HeaderIs}
use Rattle.front.specs.declared.copies.FileRow.{FileRow}
use Rattle.front.specs.declared.copies.CopyEnd.{CopyEnd}
use Rattle.front.specs.declared.copies.CopyEnd.TheVariants.{Bad}
use Rattle.front.specs.declared.checking.BadRow.{BadRow}
use Rattle.front.specs.declared.checking.RowFlaw.{RowFlaw}
use Rattle.front.specs.declared.checking.RowFlaw.TheVariants.{Header}
use Rattle.front.specs.declared.checking.CopyCheck.{CopyCheck}
use Rattle.front.specs.declared.checking.CheckEnd.{CheckEnd}
use Rattle.front.specs.declared.checking.CheckEnd.TheVariants.{Whole, Read, Memory}
use Rattle.front.proofs.CopyFiles.{HasHeader, clash, joined, next_end, splits}

-- records that grow at their end, by a good one or a bad one
good_more : (before : ℕ) (others : List Fields) (bad : List BadRow) (f : Fields) → HaveBadRows before others bad → IsGood (before + length others) f
    → HaveBadRows before (others ++ f ∷ []) bad
good_more before [] [] f h good = (subst (λ n. IsGood n f) (omega arith) good, tt)
good_more before [] (b ∷ bad) f h good = absurd h
good_more before (g ∷ others) [] f h good = (h.0, good_more (before + 1) others [] f h.1 (subst (λ n. IsGood n f) (omega arith) good))
good_more before (g ∷ others) (b ∷ bad) f (inl h) good =
    inl (h.0, good_more (before + 1) others (b ∷ bad) f h.1 (subst (λ n. IsGood n f) (omega arith) good))
good_more before (g ∷ others) (b ∷ bad) f (inr h) good =
    inr (h.0, good_more (before + 1) others bad f h.1 (subst (λ n. IsGood n f) (omega arith) good))

bad_more : (before : ℕ) (others : List Fields) (bad : List BadRow) (f : Fields) (row : BadRow) → HaveBadRows before others bad
    → IsBadRow (before + length others) f row
    → HaveBadRows before (others ++ f ∷ []) (bad ++ row ∷ [])
bad_more before [] [] f row h it = inr (subst (λ n. IsBadRow n f row) (omega arith) it, tt)
bad_more before [] (b ∷ bad) f row h it = absurd h
bad_more before (g ∷ others) [] f row h it = inl (h.0, bad_more (before + 1) others [] f row h.1 (subst (λ n. IsBadRow n f row) (omega arith) it))
bad_more before (g ∷ others) (b ∷ bad) f row (inl h) it =
    inl (h.0, bad_more (before + 1) others (b ∷ bad) f row h.1 (subst (λ n. IsBadRow n f row) (omega arith) it))
bad_more before (g ∷ others) (b ∷ bad) f row (inr h) it =
    inr (h.0, bad_more (before + 1) others bad f row h.1 (subst (λ n. IsBadRow n f row) (omega arith) it))

-- one record more was counted
one_more : (others : List Fields) (bad new : List BadRow) (good now : ℕ) (f : Fields) → AreChecked others bad good → Counts f good bad now new
    → AreChecked (others ++ f ∷ []) new now
one_more others bad new good now f h (inl t) =
    let size : length (others ++ f ∷ []) ≡ length others + 1 = length-append others (f ∷ []) in
    let same = ap (λ (xs : List BadRow). length xs) t.1 in
    let had = h.many in
    let is = t.0 in
    record {
      rows = subst (λ xs. HaveBadRows 0 (others ++ f ∷ []) xs) (sym t.1) (good_more 0 others bad f h.rows (subst (λ n. IsGood n f) (omega (arith, had)) t.2));
      many = omega (arith, size, same, had, is);
    }
one_more others bad new good now f h (inr t) =
    let size : length (others ++ f ∷ []) ≡ length others + 1 = length-append others (f ∷ []) in
    let same : length new ≡ length bad + 1 = ap (λ (xs : List BadRow). length xs) t.2 ∙ length-append bad (t.0 ∷ []) in
    let had = h.many in
    let is = t.1 in
    record {
      rows = subst (λ xs. HaveBadRows 0 (others ++ f ∷ []) xs) (sym t.2)
          (bad_more 0 others bad f t.0 h.rows (subst (λ n. IsBadRow n f t.0) (omega (arith, had)) t.3));
      many = omega (arith, size, same, had, is);
    }

-- a reading ends at the first bad row
first_bad : (before : ℕ) (others : List Fields) (rows : List FileRow) (end : CopyEnd) (bad : List BadRow) → HaveRows before others rows end
    → HaveBadRows before others bad → end ≡ end_after None bad
first_bad before [] [] end [] h k = h
first_bad before [] [] end (b ∷ bad) h k = absurd k
first_bad before [] (r ∷ rows) end bad h k = absurd h
first_bad before (f ∷ others) [] end [] h k = absurd (clash before f k.0.0.0 h.0 k.0.0.1 k.0.1)
first_bad before (f ∷ others) [] end (b ∷ bad) h (inl k) = absurd (clash before f k.0.0.0 h.0 k.0.0.1 k.0.1)
first_bad before (f ∷ others) [] end (b ∷ bad) h (inr k) = h.1 ∙ ap Bad (sym k.0.number)
first_bad before (f ∷ others) (r ∷ rows) end [] h k = first_bad (before + 1) others rows end [] h.2 k.1
first_bad before (f ∷ others) (r ∷ rows) end (b ∷ bad) h (inl k) = first_bad (before + 1) others rows end (b ∷ bad) h.2 k.1
first_bad before (f ∷ others) (r ∷ rows) end (b ∷ bad) h (inr k) = absurd (clash before f r k.0.bad h.0 h.1)

pub checks_agree : ChecksAgree
checks_agree [] rows end check h k = h.1 ∙ sym (ap (λ header. end_after header check.bad.items) k.0)
checks_agree (first ∷ others) rows end check h k = go check.header k.0 h
  where
    go : (header : Option RowFlaw) → HeaderIs first header → IsFileOf (first ∷ others) rows end → end ≡ end_after header check.bad.items
    go None is (inl other) = absurd (other.0 is)
    go None is (inr h) = first_bad 0 others rows end check.bad.items h.1 k.1.rows
    go (Some flaw) other (inl h) = h.2
    go (Some flaw) other (inr h) = absurd (other h.0)

-- the reader: at its start, after one record more, and where it ends
pub check_none : {R : Type 0} (rem : R → Option (List ℕ)) (file : Reader R) → HasChecked file.state (source_of rem file) file.state (source_of rem file) [] 0
unfolding Reached
check_none rem file = go (source_of rem file)
  where
    go : (src : Option (List ℕ)) → HasChecked file.state src file.state src [] 0
    go None = tt
    go (Some bytes) = (bytes, refl, [], (refl, refl), record { rows = tt; many = refl })

pub check_more : {R : Type 0} (rem : R → Option (List ℕ)) (state : State) (src : Option (List ℕ)) (a b : Reader R) (bad new : List BadRow) (good now : ℕ)
    (f : Fields)
    → a.config ≡ default_config → HasChecked state src a.state (source_of rem a) bad good → ReadRecord rem a b true f → Counts f good bad now new
    → HasChecked state src b.state (source_of rem b) new now
check_more rem state None a b bad new good now f config h r t = tt
check_more rem state (Some bytes) a b bad new good now f config h r t =
    let m = rows-more rem a b f default_config state bytes h.0 h.2 config h.1 h.3 r in
    (m.0, m.1, h.2 ++ f ∷ [], m.2, one_more h.2 bad new good now f h.4 t)

pub check_broken : {R : Type 0} (rem : R → Option (List ℕ)) (state : State) (src : Option (List ℕ)) (a : Reader R) (bad : List BadRow) (good : ℕ) (end : CheckEnd)
    → HasChecked state src a.state (source_of rem a) bad good → end ≢ Whole → IsRestChecking state src bad good end
check_broken rem state None a bad good end h e = tt
check_broken rem state (Some bytes) a bad good end h e = (h.2, a.state, h.0, h.3, (λ whole. absurd (e whole)), h.4)

pub check_all : {R : Type 0} (rem : R → Option (List ℕ)) (state : State) (src : Option (List ℕ)) (a b : Reader R) (bad : List BadRow) (good : ℕ)
    → a.config ≡ default_config → HasChecked state src a.state (source_of rem a) bad good → ReadRecord rem a b false [] → IsRestChecking state src bad good Whole
check_all rem state None a b bad good config h r = tt
check_all rem state (Some bytes) a b bad good config h r = (h.2, a.state, h.0, h.3, (λ _. rows-end rem a b [] default_config h.0 config h.1 r), h.4)

-- an error breaks a check off
pub not_whole : (end : CheckEnd) (failed : Bool) → (failed ≡ true → end ≡ Read) → (failed ≡ false → end ≡ Memory) → end ≢ Whole
not_whole end true read memory = λ e. let is = read refl in absurd (cc)
not_whole end false read memory = λ e. let is = memory refl in absurd (cc)

-- a whole file: its first record, and those after it
told : (all : List Fields) (check : CopyCheck) (end : CheckEnd) (first : Fields) (others more : List Fields) → all ≡ first ∷ (others ++ more)
    → (end ≡ Whole → more ≡ [])
    → HeaderIs first check.header → AreChecked others check.bad.items check.good → TellsBad all check end
told all check Whole first others more are none header h = let gone = none refl in
    let same : all ≡ first ∷ others = are ∙ ap (λ (xs : List Fields). first ∷ xs) (ap (λ (xs : List Fields). others ++ xs) gone ∙ append-nil others) in
    subst (λ xs. IsCheckOf xs check) (sym same) (header, h)
told all check Read first others more are none header h = inr (first, others, more, are, (header, h))
told all check Memory first others more are none header h = inr (first, others, more, are, (header, h))

pub with_first : (known : Option (List ℕ)) (state : State) (left : Option (List ℕ)) (first : Fields) (check : CopyCheck)
    → HasHeader known state left first
    → HeaderIs first check.header → IsRestChecking state left check.bad.items check.good check.end → IsChecking known check
with_first None state left first check h header rest = tt
with_first (Some bytes) state None first check h header rest = absurd (cc h.1)
with_first (Some bytes) state (Some ys) first check h header rest =
    let same_bytes : ys ≡ h.0 = let e = h.1 in cc in
    let begun = subst (λ zs. Reached default_config st.StartRecord (strip_bom bytes) (first ∷ []) state zs) (sym same_bytes) h.2 in
    let all = joined default_config st.StartRecord state rest.1 (strip_bom bytes) ys rest.2 first rest.0 begun rest.3 in
    let m = splits default_config (length (strip_bom bytes) + 1) st.StartRecord (strip_bom bytes) (first ∷ rest.0) rest.1 rest.2 (omega arith) all in
    told (records_in bytes) check check.end first rest.0 (records_from default_config m.0 rest.1 rest.2) m.1
    (λ e. next_end default_config m.0 rest.1 rest.2 (rest.4 e)) header rest.5

pub without_first : {R : Type 0} (rem : R → Option (List ℕ)) (known : Option (List ℕ)) (a b : Reader R) (fields : Fields) (check : CopyCheck)
    → IsPlain a → a.state ≡ st.StartRecord
    → source_of rem a ≡ option_map strip_bom known → ReadRecord rem a b false fields
    → check.header ≡ Some Header → check.bad.items ≡ [] → check.good ≡ 0 → check.end ≡ Whole → IsChecking known check
without_first rem None a b fields check plain state src r header bad good end = tt
without_first rem (Some bytes) a b fields check plain state src r header bad good end =
    let none = rows-end rem a b fields default_config (strip_bom bytes) plain.config src r in
    let records_are : records_in bytes ≡ [] =
    next_end default_config (length (strip_bom bytes) + 1) st.StartRecord (strip_bom bytes)
    (subst (λ s. next_record default_config s [] [] (strip_bom bytes) ≡ None) state none) in
    subst (λ was. TellsBad (records_in bytes) check was) (sym end)
    (subst (λ all. IsCheckOf all check) (sym records_are) (header, bad, good))

pub nothing_read : (known : Option (List ℕ)) (check : CopyCheck) → check.header ≡ None → check.bad.items ≡ [] → check.good ≡ 0 → check.end ≢ Whole
    → IsChecking known check
nothing_read None check header bad good end = tt
nothing_read (Some bytes) check header bad good end = go check.end end
  where
    go : (was : CheckEnd) → was ≢ Whole → TellsBad (records_in bytes) check was
    go Whole e = absurd (e refl)
    go Read e = inl (header, bad, good)
    go Memory e = inl (header, bad, good)
