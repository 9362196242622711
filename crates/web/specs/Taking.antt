-- What is taken of a reader for a request, read by read.
use Rattle.std.specs.Prelude.{◌≡◌, ◌≢◌, ◌⊎◌, ℕ, ◌+◌, ◌-◌, ◌≤◌, List, [], ◌∷◌, ◌++◌, length, take, map, Bool, true, false, Option, Some, None, Result, Ok, Err, IfOk, IfErr, IfSome}
use Rattle.std.specs.Io.KnownBytes.{Consumes, Keeps}
use Rattle.httparse.specs.Grammar.{RequestHead, MayBecomeRequest}
use Rattle.httparse.specs.Spans.{name_and_value}
use Rattle.httparse.specs.declared.spans.RequestSpans.{RequestSpans}
use Rattle.web.specs.Checks.{Reading, IsRefused}
use Rattle.web.specs.Faults.{IsNotRead}
use Rattle.web.specs.Fields.{NamedValue, body_length}
use Rattle.web.specs.Heads.{HasHead, HasNoHead}
use Rattle.web.specs.declared.limits.TheConstants.{HEAD_BYTES}
use Rattle.web.specs.declared.fault.WebFault.{WebFault}
use Rattle.web.specs.declared.fault.WebFault.TheVariants as fault
use Rattle.web.specs.declared.fault.WebStatus.TheVariants.{BadRequest}

-- ---- what is wanted

-- No head came yet, and one may: the rest of the most that a head has is wanted.
pub record WantsHead (got : List ℕ) (room : ℕ) : Type 0 where
  pub none : HasNoHead got
  pub may_come : (got ≡ []) ⊎ MayBecomeRequest got
  pub room_is : length got + room ≡ HEAD_BYTES

-- A head came that gives the body a length, and the body isn't complete: the rest of it is wanted.
pub record WantsBody (got : List ℕ) (room : ℕ) : Type 0 where
  pub head : RequestHead
  pub rest : List ℕ
  pub size : ℕ
  pub has : HasHead got head rest
  pub told : body_length (map name_and_value head.fields) ≡ Ok size
  pub room_is : length rest + room ≡ size

-- After these bytes this many more are wanted.
abbrev pub Wants : List ℕ → ℕ → Type 0
Wants got room = (1 ≤ room) × (WantsHead got room ⊎ WantsBody got room)

-- Of a buffer of this size, filled up to a place: the rest.
abbrev pub WantsRest : ℕ → ℕ → List ℕ → ℕ → Type 0
WantsRest start size got room = (1 ≤ room) × (start + length got + room ≡ size)

-- The body after a head with these fields, of which this came with the head: the rest.
abbrev pub WantsAfter : List NamedValue → List ℕ → List ℕ → ℕ → Type 0
WantsAfter fields front got room =
    (1 ≤ room) × (size : ℕ) × (body_length fields ≡ Ok size) × (length (front ++ got) + room ≡ size)

-- ---- what is read

-- The bytes of pieces, the newest first.
abbrev pub joined : List (List ℕ) → List ℕ
joined [] = []
joined (piece ∷ older) = joined older ++ piece

-- Known bytes lose this piece; by a failed read nothing.
abbrev pub Loses : Option (List ℕ) → Option (List ℕ) → Option (List ℕ) → Type 0
Loses old new (Some piece) = Consumes old new piece
Loses old new None = Keeps old new

-- `reads` says what one read gives, `remaining` are a reader's bytes, if known, and `Want` says how many are
-- wanted after those that came.
module _ {A : Type 0} (reads : A → ℕ → Option (List ℕ) → A → Type 0) (remaining : A → Option (List ℕ)) where
  -- One read for so many bytes gave this piece, or failed.
  pub record ReadsPiece (room : ℕ) (piece : Option (List ℕ)) (old new : A) : Type 0 where
    pub read : reads old room piece new
    pub left : Loses (remaining old) (remaining new) piece

  -- One read filled a buffer by this many bytes, from a place on.
  pub record ReadsInto (old new : A) (before after : List ℕ) (filled n : ℕ) : Type 0 where
    pub piece : List ℕ
    pub read : ReadsPiece (length before - filled) (Some piece) old new
    pub size : length piece ≡ n
    pub holds : take (filled + n) after ≡ take filled before ++ piece

  module _ (Want : List ℕ → ℕ → Type 0) where
    -- One read, for as many bytes as are wanted after those that came.
    pub record ReadsWanted (got : List ℕ) (piece : Option (List ℕ)) (old new : A) : Type 0 where
      pub room : ℕ
      pub wanted : Want got room
      pub read : ReadsPiece room piece old new

    -- These pieces came, the newest first, none of them empty.
    abbrev pub Came : List (List ℕ) → A → A → Type 0
    Came [] old new = new ≡ old
    Came (piece ∷ older) old new =
        (mid : A) × Came older old mid × ReadsWanted (joined older) (Some piece) mid new × (piece ≢ [])

    -- Nothing more was read; or one more read was wanted, which found the end, or failed.
    abbrev pub EndsWith : {B : Type 0} → List ℕ → A → A → Result (Option B) WebFault → Type 0
    EndsWith got mid new (Ok (Some x)) = new ≡ mid
    EndsWith got mid new (Ok None) = (new ≡ mid) ⊎ ReadsWanted got (Some []) mid new
    EndsWith got mid new (Err e) = ((new ≡ mid) × (e ≡ fault.Memory)) ⊎ (ReadsWanted got None mid new × (e ≡ fault.Read))

    -- The same where a buffer is filled.
    abbrev pub EndsFull : List ℕ → A → A → Result Bool WebFault → Type 0
    EndsFull got mid new (Ok true) = new ≡ mid
    EndsFull got mid new (Ok false) = ReadsWanted got (Some []) mid new
    EndsFull got mid new (Err e) = ReadsWanted got None mid new × (e ≡ fault.Read)

    -- The same where a request is read: a failed read is told as that, and no other is told.
    abbrev pub EndsReading : List ℕ → A → A → Reading → Type 0
    EndsReading got mid new r =
        ((new ≡ mid) × IfErr r IsNotRead)
        ⊎ ((ReadsWanted got (Some []) mid new × IsRefused r BadRequest)
        ⊎ (ReadsWanted got None mid new × (r ≡ Err fault.Read)))

    -- Pieces came, and reading ended so.
    pub record Takes (Ends : List ℕ → A → A → Type 0) (old new : A) : Type 0 where
      pub pieces : List (List ℕ)
      pub mid : A
      pub came : Came pieces old mid
      pub ends : Ends (joined pieces) mid new

module _ {A : Type 0} (reads : A → ℕ → Option (List ℕ) → A → Type 0) (remaining : A → Option (List ℕ)) where
  -- A head was read, if one came into the buffer.
  pub record TakesHead (old new : A) (buf : List ℕ) (r : Result (Option (RequestSpans × ℕ)) WebFault) : Type 0 where
    pub takes : Takes reads remaining Wants (λ got mid new. EndsWith reads remaining Wants got mid new r) old new
    pub holds : IfOk r (λ o. IfSome o (λ p. joined takes.pieces ≡ take p.1 buf))

  -- A request was read: each read was wanted, and none followed the request, the end or a failed read.
  pub record TakesRequest (old new : A) (r : Reading) : Type 0 where
    pub takes : Takes reads remaining Wants (λ got mid new. EndsReading reads remaining Wants got mid new r) old new
    pub left : Consumes (remaining old) (remaining new) (joined takes.pieces)
