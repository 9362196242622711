-- The records of a file, and their rows.
use Rattle.front.specs.declared.copies.TheConstants.{MOST_ROWS}
use Rattle.std.proofs.Common.{if◌then◌else◌, ◌≡◌, ◌≢◌, ◌⊎◌, inl, inr, ◌∙◌, ◌<◌, ◌≤◌, ◌+◌, ◌++◌, ℕ, Bool, true, false, refl, sym, ap, subst}
use Rattle.std.proofs.Common.{List, [], ◌∷◌, length, Option, Some, None, arith, zero, suc}
use Rattle.std.proofs.lemmas.List.{append-nil, length-append}
use Rattle.csv.specs.Machine.{Read as Found, ends_at_end, is_end, next_record, step, fields_after, field_after}
use Rattle.csv.specs.Reading.{Reached, ReadRecord, default_config, records_from, source_of, strip_bom}
use Rattle.csv.specs.declared.parser.Config.{Config}
use Rattle.csv.specs.declared.parser.State.{State}
use Rattle.csv.specs.declared.parser.State.TheVariants as st
use Rattle.csv.specs.declared.reader.Reader.{Reader}
use Rattle.csv.proofs.ReadFacts.{rows-end, rows-more}
use Rattle.std.specs.Prelude.{option_map}
use Rattle.front.specs.Copies.{Fields, IsRow, IsNoRow, HaveRows, BeginWith, FileBeginsWith, Tells, IsReading, FilesReadOnce, header_fields, records_in}
use Rattle.front.specs.CopyReading.{HasRead, IsPlain, IsRestReading, Takes, TellsRows}
use Rattle.front.specs.declared.copies.FileRow.{FileRow}
use Rattle.front.specs.declared.copies.CopyEnd.{CopyEnd}
use Rattle.front.specs.declared.copies.CopyEnd.TheVariants.{Whole, Bad, Read, Memory}
use Rattle.front.proofs.CopyRows.{same_row}

-- a record takes at least a byte, but for the one that the end of the text ends
abbrev IsShorter : List ℕ → Found → Type 0
IsShorter xs p = (length p.2 < length xs) ⊎ ((xs ≡ []) × (p.1 ≡ st.StartRecord) × (p.2 ≡ []))

at_end : (b : Bool) (fields : Fields) (p : Found) → (if b then Some (fields, st.StartRecord, []) else None) ≡ Some p → (p.1 ≡ st.StartRecord) × (p.2 ≡ [])
at_end true fields p e = let same : (fields, st.StartRecord, []) ≡ p = cc in (sym (ap (λ (q : Found). q.1) same), sym (ap (λ (q : Found). q.2) same))
at_end false fields p e = absurd (cc)

shorter : (cfg : Config) (s : State) (fields : Fields) (field xs : List ℕ) (p : Found) → next_record cfg s fields field xs ≡ Some p → IsShorter xs p
unfolding next_record
shorter cfg s fields field [] p e = let h = at_end (ends_at_end s) (fields ++ field ∷ []) p e in inr (refl, h.0, h.1)
shorter cfg s fields field (c ∷ rest) p e =
    go (is_end (step cfg s c).1) refl
    (λ later. shorter cfg (step cfg s c).0 (fields_after (step cfg s c).1 fields field) (field_after (step cfg s c).1 c field) rest p later)
  where
    less : IsShorter rest p → IsShorter (c ∷ rest) p
    less (inl h) = inl (omega (arith, h))
    less (inr h) = let none : length p.2 ≡ 0 = ap length h.2 in inl (omega (arith, none))

    go : (b : Bool) → is_end (step cfg s c).1 ≡ b
        → (next_record cfg (step cfg s c).0 (fields_after (step cfg s c).1 fields field)
        (field_after (step cfg s c).1 c field) rest ≡ Some p → IsShorter rest p) → IsShorter (c ∷ rest) p
    go true q more =
        let same : Some (fields_after (step cfg s c).1 fields field, (step cfg s c).0, rest) ≡ Some p = rw q at e in
        let one : (fields_after (step cfg s c).1 fields field, (step cfg s c).0, rest) ≡ p = cc in
        let size : length rest ≡ length p.2 = ap (λ (q : Found). length q.2) one in
        inl (omega (arith, size))
    go false q more = less (more (rw q at e))

-- the records that were reached are the first of all of them
abbrev pub Splits : Config → ℕ → State → List ℕ → List Fields → State → List ℕ → Type 0
Splits cfg n s xs rs s2 ys = (m : ℕ) × (records_from cfg n s xs ≡ rs ++ records_from cfg m s2 ys)

none_left : (cfg : Config) (r : Fields) (rs : List Fields) (s s2 : State) (xs ys : List ℕ) → s ≡ st.StartRecord → xs ≡ [] → Reached cfg s xs (r ∷ rs) s2 ys → ⊥
unfolding Reached next_record
none_left cfg r rs s s2 xs ys hs hx h = let bad = rw (hs, hx) at h.1 in absurd (cc)

pub splits : (cfg : Config) (n : ℕ) (s : State) (xs : List ℕ) (rs : List Fields) (s2 : State) (ys : List ℕ) → length xs < n
    → Reached cfg s xs rs s2 ys → Splits cfg n s xs rs s2 ys
unfolding Reached records_from
splits cfg n s xs [] s2 ys long h = (n, rw (h.0, h.1) refl)
splits cfg zero s xs (r ∷ rs) s2 ys long h = absurd (omega arith)
splits cfg (suc n) s xs (r ∷ rs) s2 ys long h = go rs (shorter cfg s [] [] xs h.0 h.1) h.3 (λ less. splits cfg n h.0.1 h.0.2 rs s2 ys less h.3)
  where
    first : (m : ℕ) → records_from cfg n h.0.1 h.0.2 ≡ rs ++ records_from cfg m s2 ys → records_from cfg (suc n) s xs ≡ (r ∷ rs) ++ records_from cfg m s2 ys
    first m e = rw (h.1, h.2, e) refl

    go : (qs : List Fields) → IsShorter xs h.0 → Reached cfg h.0.1 h.0.2 rs s2 ys → (length h.0.2 < n → Splits cfg n h.0.1 h.0.2 rs s2 ys)
        → Splits cfg (suc n) s xs (r ∷ rs) s2 ys
    go qs (inl less) rest more = let m = more (omega (arith, less)) in (m.0, first m.0 m.1)
    go qs (inr end) rest more = done rs refl
      where
        done : (qs : List Fields) → rs ≡ qs → Splits cfg (suc n) s xs (r ∷ rs) s2 ys
        done [] q = let here = rw q at rest in (n, first n (rw (q, here.0, here.1) refl))
        done (x ∷ qs) q = absurd (none_left cfg x qs h.0.1 s2 h.0.2 ys end.1 end.2 (rw q at rest))

-- a record that ends the rows is no row of them
pub clash : (n : ℕ) (g : Fields) (row : FileRow) → IsNoRow g ⊎ (MOST_ROWS ≤ n) → IsRow g row → n < MOST_ROWS → ⊥
clash n g row (inl bad) good few = bad.none row good
clash n g row (inr many) good few = omega (arith, many, few)

once : (before : ℕ) (others : List Fields) (rows rows_too : List FileRow) (end end_too : CopyEnd) → HaveRows before others rows end
    → HaveRows before others rows_too end_too
    → (rows ≡ rows_too) × (end ≡ end_too)
once before [] [] [] end end_too h k = (refl, h ∙ sym k)
once before [] [] (r ∷ rs) end end_too h k = absurd k
once before [] (r ∷ rs) rows_too end end_too h k = absurd h
once before (f ∷ others) [] [] end end_too h k = (refl, h.1 ∙ sym k.1)
once before (f ∷ others) [] (r ∷ rs) end end_too h k = absurd (clash before f r h.0 k.0 k.1)
once before (f ∷ others) (r ∷ rs) [] end end_too h k = absurd (clash before f r k.0 h.0 h.1)
once before (f ∷ others) (r ∷ rs) (q ∷ qs) end end_too h k =
    let first = same_row f r q h.0 k.0 in
    let rest = once (before + 1) others rs qs end end_too h.2 k.2 in
    (rw (first, rest.0) refl, rest.1)

pub files_read_once : FilesReadOnce
files_read_once [] rows rows_too end end_too h k = (h.0 ∙ sym k.0, h.1 ∙ sym k.1)
files_read_once (header ∷ others) rows rows_too end end_too (inl h) (inl k) = (h.1 ∙ sym k.1, h.2 ∙ sym k.2)
files_read_once (header ∷ others) rows rows_too end end_too (inl h) (inr k) = absurd (h.0 k.0)
files_read_once (header ∷ others) rows rows_too end end_too (inr h) (inl k) = absurd (k.0 h.0)
files_read_once (header ∷ others) rows rows_too end end_too (inr h) (inr k) = once 0 others rows rows_too end end_too h.1 k.1

-- records and rows that grow at their ends
rows_more : (before : ℕ) (others : List Fields) (rows : List FileRow) (f : Fields) (row : FileRow) → HaveRows before others rows Whole
    → IsRow f row → before + length rows < MOST_ROWS
    → HaveRows before (others ++ f ∷ []) (rows ++ row ∷ []) Whole
rows_more before [] [] f row h good few = (good, omega (arith, few), refl)
rows_more before [] (r ∷ rs) f row h good few = absurd h
rows_more before (g ∷ others) [] f row h good few = let bad = h.1 in absurd (cc)
rows_more before (g ∷ others) (r ∷ rs) f row h good few = (h.0, h.1, rows_more (before + 1) others rs f row h.2 good (omega (arith, few)))

rows_bad : (before : ℕ) (others : List Fields) (rows : List FileRow) (f : Fields) (number : ℕ) → HaveRows before others rows Whole
    → IsNoRow f ⊎ (MOST_ROWS ≤ before + length rows)
    → number ≡ before + length rows + 1 → HaveRows before (others ++ f ∷ []) rows (Bad number)
rows_bad before [] [] f number h (inl bad) n = (inl bad, ap Bad (omega (arith, n)))
rows_bad before [] [] f number h (inr many) n = (inr (omega (arith, many)), ap Bad (omega (arith, n)))
rows_bad before [] (r ∷ rs) f number h bad n = absurd h
rows_bad before (g ∷ others) [] f number h bad n = let other = h.1 in absurd (cc)
rows_bad before (g ∷ others) (r ∷ rs) f number h (inl bad) n = (h.0, h.1, rows_bad (before + 1) others rs f number h.2 (inl bad) (omega (arith, n)))
rows_bad before (g ∷ others) (r ∷ rs) f number h (inr many) n =
    (h.0, h.1, rows_bad (before + 1) others rs f number h.2 (inr (omega (arith, many))) (omega (arith, n)))

from_first : (f : Fields) (n : ℕ) → IsNoRow f ⊎ (MOST_ROWS ≤ n) → IsNoRow f ⊎ (MOST_ROWS ≤ 0 + n)
from_first f n (inl bad) = inl bad
from_first f n (inr many) = inr (omega (arith, many))

rows_first : (before : ℕ) (others more : List Fields) (rows : List FileRow) → HaveRows before others rows Whole → BeginWith (others ++ more) rows
rows_first before [] more [] h = tt
rows_first before [] more (r ∷ rs) h = absurd h
rows_first before (g ∷ others) more [] h = tt
rows_first before (g ∷ others) more (r ∷ rs) h = (h.0, rows_first (before + 1) others more rs h.2)

-- what comes after the end changes nothing
bad_before : (before : ℕ) (others more : List Fields) (rows : List FileRow) (number : ℕ) → HaveRows before others rows (Bad number)
    → HaveRows before (others ++ more) rows (Bad number)
bad_before before [] more [] number h = absurd (cc)
bad_before before [] more (r ∷ rs) number h = absurd h
bad_before before (g ∷ others) more [] number h = h
bad_before before (g ∷ others) more (r ∷ rs) number h = (h.0, h.1, bad_before (before + 1) others more rs number h.2)

first_before : (others more : List Fields) (rows : List FileRow) → BeginWith others rows → BeginWith (others ++ more) rows
first_before others more [] h = tt
first_before [] more (r ∷ rs) h = absurd h
first_before (g ∷ others) more (r ∷ rs) h = (h.0, first_before others more rs h.1)

-- the reader of the rows: at its start, after one row more, and where it ends
pub read_none : {R : Type 0} (rem : R → Option (List ℕ)) (file : Reader R) → HasRead file.state (source_of rem file) file.state (source_of rem file) []
unfolding Reached
read_none rem file = go (source_of rem file)
  where
    go : (src : Option (List ℕ)) → HasRead file.state src file.state src []
    go None = tt
    go (Some bytes) = (bytes, refl, [], (refl, refl), refl)

pub read_more : {R : Type 0} (rem : R → Option (List ℕ)) (state : State) (src : Option (List ℕ)) (a b : Reader R) (rows new : List FileRow) (f : Fields)
    → a.config ≡ default_config → HasRead state src a.state (source_of rem a) rows → ReadRecord rem a b true f → Takes f rows new None
    → HasRead state src b.state (source_of rem b) new
read_more rem state None a b rows new f config h r t = tt
read_more rem state (Some bytes) a b rows new f config h r t =
    let m = rows-more rem a b f default_config state bytes h.0 h.2 config h.1 h.3 r in
    let few = t.3 in
    let all = rows_more 0 h.2 rows f t.0 h.4 t.1 (omega (arith, few)) in
    (m.0, m.1, h.2 ++ f ∷ [], m.2, subst (λ xs. HaveRows 0 (h.2 ++ f ∷ []) xs Whole) (sym t.2) all)

pub few_more : (f : Fields) (rows new : List FileRow) → Takes f rows new None → length new ≤ MOST_ROWS
few_more f rows new t =
    let size = ap (λ (xs : List FileRow). length xs) t.2 ∙ length-append rows (t.0 ∷ []) in
    let few = t.3 in
    omega (arith, size, few)

pub read_ended : {R : Type 0} (rem : R → Option (List ℕ)) (state : State) (src : Option (List ℕ)) (a b : Reader R) (rows new : List FileRow)
    (f : Fields) (end : CopyEnd)
    → a.config ≡ default_config → HasRead state src a.state (source_of rem a) rows → ReadRecord rem a b true f → Takes f rows new (Some end)
    → IsRestReading state src new end
read_ended rem state None a b rows new f end config h r t = tt
read_ended rem state (Some bytes) a b rows new f end config h r t =
    let m = rows-more rem a b f default_config state bytes h.0 h.2 config h.1 h.3 r in
    go m end t
  where
    go : (z : List ℕ) × (source_of rem b ≡ Some z) × Reached default_config state bytes (h.2 ++ f ∷ []) b.state z → (was : CopyEnd)
        → Takes f rows new (Some was) → IsRestReading state (Some bytes) new was
    go m Whole t = absurd t
    go m (Bad number) t = (
      h.2 ++ f ∷ [],
      b.state,
      m.0,
      m.2,
      (λ e. absurd (cc)),
      subst (λ xs. HaveRows 0 (h.2 ++ f ∷ []) xs (Bad number)) (sym t.0)
          (rows_bad 0 h.2 rows f number h.4 (from_first f (length rows) t.1) (let n = t.2 in omega (arith, n))),
    )
    go m Read t = absurd t
    go m Memory t = (
      h.2 ++ f ∷ [],
      b.state,
      m.0,
      m.2,
      (λ e. absurd (cc)),
      subst (λ xs. BeginWith (h.2 ++ f ∷ []) xs) (sym t) (rows_first 0 h.2 (f ∷ []) rows h.4),
    )

pub read_broken : {R : Type 0} (rem : R → Option (List ℕ)) (state : State) (src : Option (List ℕ)) (a : Reader R) (rows : List FileRow) (end : CopyEnd)
    → HasRead state src a.state (source_of rem a) rows → (end ≡ Read) ⊎ (end ≡ Memory) → IsRestReading state src rows end
read_broken rem state None a rows end h e = tt
read_broken rem state (Some bytes) a rows end h (inl e) =
    subst (λ was. IsRestReading state (Some bytes) rows was) (sym e)
    (h.2, a.state, h.0, h.3, (λ bad. absurd (cc)), subst (λ xs. BeginWith xs rows) (append-nil h.2) (rows_first 0 h.2 [] rows h.4))
read_broken rem state (Some bytes) a rows end h (inr e) =
    subst (λ was. IsRestReading state (Some bytes) rows was) (sym e)
    (h.2, a.state, h.0, h.3, (λ bad. absurd (cc)), subst (λ xs. BeginWith xs rows) (append-nil h.2) (rows_first 0 h.2 [] rows h.4))

pub read_all : {R : Type 0} (rem : R → Option (List ℕ)) (state : State) (src : Option (List ℕ)) (a b : Reader R) (rows : List FileRow)
    → a.config ≡ default_config → HasRead state src a.state (source_of rem a) rows → ReadRecord rem a b false [] → IsRestReading state src rows Whole
read_all rem state None a b rows config h r = tt
read_all rem state (Some bytes) a b rows config h r = (h.2, a.state, h.0, h.3, (λ _. rows-end rem a b [] default_config h.0 config h.1 r), h.4)

-- an error breaks a reading off
pub which_end : (end : CopyEnd) (failed : Bool) → (failed ≡ true → end ≡ Read) → (failed ≡ false → end ≡ Memory) → (end ≡ Read) ⊎ (end ≡ Memory)
which_end end true read memory = inl (read refl)
which_end end false read memory = inr (memory refl)

-- a whole file: its header, and the records after it
pub next_end : (cfg : Config) (m : ℕ) (s : State) (ys : List ℕ) → next_record cfg s [] [] ys ≡ None → records_from cfg m s ys ≡ []
unfolding records_from
next_end cfg zero s ys e = refl
next_end cfg (suc m) s ys e = rw e refl

pub joined : (cfg : Config) (s s1 s2 : State) (xs ys zs : List ℕ) (header : Fields) (others : List Fields)
    → Reached cfg s xs (header ∷ []) s1 ys → Reached cfg s1 ys others s2 zs
    → Reached cfg s xs (header ∷ others) s2 zs
unfolding Reached
joined cfg s s1 s2 xs ys zs header others h more = (h.0, h.1, h.2, rw (h.3.0, h.3.1) more)

first_told : (more others : List Fields) (rows : List FileRow) → BeginWith others rows → FileBeginsWith (header_fields ∷ (others ++ more)) rows
first_told more others [] h = tt
first_told more others (r ∷ rs) h = (refl, first_before others more (r ∷ rs) h)

told : (more : List Fields) (others : List Fields) (rows : List FileRow) (end : CopyEnd) → (end ≡ Whole → more ≡ []) → TellsRows others rows end
    → Tells (header_fields ∷ (others ++ more)) rows end
told more others rows Whole none h = let gone = none refl in
    inr (refl, subst (λ xs. HaveRows 0 xs rows Whole) (sym (ap (λ (xs : List Fields). others ++ xs) gone ∙ append-nil others)) h)
told more others rows (Bad number) none h = inr (refl, bad_before 0 others more rows number h)
told more others rows Read none h = first_told more others rows h
told more others rows Memory none h = first_told more others rows h

-- the first record of a file, where the bytes are known
abbrev pub HasHeader : Option (List ℕ) → State → Option (List ℕ) → Fields → Type 0
HasHeader None state left header = Unit {0}
HasHeader (Some bytes) state left header =
    (unread : List ℕ) × (left ≡ Some unread) × Reached default_config st.StartRecord (strip_bom bytes) (header ∷ []) state unread

pub header_read : {R : Type 0} (rem : R → Option (List ℕ)) (known : Option (List ℕ)) (a b : Reader R) (header : Fields) → IsPlain a → a.state ≡ st.StartRecord
    → source_of rem a ≡ option_map strip_bom known → ReadRecord rem a b true header → HasHeader known b.state (source_of rem b) header
unfolding Reached
header_read rem None a b header plain state src r = tt
header_read rem (Some bytes) a b header plain state src r =
    rows-more rem a b header default_config st.StartRecord (strip_bom bytes) (strip_bom bytes) [] plain.config src (sym state, refl) r

pub with_header : (known : Option (List ℕ)) (state : State) (left : Option (List ℕ)) (header : Fields) (rows : List FileRow) (end : CopyEnd)
    → HasHeader known state left header
    → header ≡ header_fields → IsRestReading state left rows end → IsReading known rows end
with_header None state left header rows end h same rest = tt
with_header (Some bytes) state None header rows end h same rest = absurd (cc h.1)
with_header (Some bytes) state (Some ys) header rows end h same rest =
    let same_bytes : ys ≡ h.0 = let e = h.1 in cc in
    let first = subst (λ zs. Reached default_config st.StartRecord (strip_bom bytes) (header ∷ []) state zs) (sym same_bytes) h.2 in
    let all = joined default_config st.StartRecord state rest.1 (strip_bom bytes) ys rest.2 header rest.0 first rest.3 in
    let m = splits default_config (length (strip_bom bytes) + 1) st.StartRecord (strip_bom bytes) (header ∷ rest.0) rest.1 rest.2 (omega arith) all in
    let records_are : records_in bytes ≡ header_fields ∷ (rest.0 ++ records_from default_config m.0 rest.1 rest.2) =
    m.1 ∙ ap (λ (f : Fields). f ∷ (rest.0 ++ records_from default_config m.0 rest.1 rest.2)) same in
    subst (λ all. Tells all rows end) (sym records_are)
    (told (records_from default_config m.0 rest.1 rest.2) rest.0 rows end (λ e. next_end default_config m.0 rest.1 rest.2 (rest.4 e)) rest.5)

pub other_header : (known : Option (List ℕ)) (state : State) (left : Option (List ℕ)) (header : Fields) → HasHeader known state left header
    → header ≢ header_fields → IsReading known [] (Bad 0)
other_header None state left header h other = tt
other_header (Some bytes) state left header h other =
    let m = splits default_config (length (strip_bom bytes) + 1) st.StartRecord (strip_bom bytes) (header ∷ []) state h.0 (omega arith) h.2 in
    subst (λ all. Tells all [] (Bad 0)) (sym m.1) (inl (other, refl, refl))

pub no_header : {R : Type 0} (rem : R → Option (List ℕ)) (known : Option (List ℕ)) (a b : Reader R) (fields : Fields) → IsPlain a → a.state ≡ st.StartRecord
    → source_of rem a ≡ option_map strip_bom known → ReadRecord rem a b false fields → IsReading known [] (Bad 0)
no_header rem None a b fields plain state src r = tt
no_header rem (Some bytes) a b fields plain state src r =
    let none = rows-end rem a b fields default_config (strip_bom bytes) plain.config src r in
    let records_are : records_in bytes ≡ [] =
    next_end default_config (length (strip_bom bytes) + 1) st.StartRecord (strip_bom bytes)
    (subst (λ s. next_record default_config s [] [] (strip_bom bytes) ≡ None) state none) in
    subst (λ all. Tells all [] (Bad 0)) (sym records_are) (refl, refl)
