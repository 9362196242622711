-- What a worker does with its connections.
use Rattle.std.specs.Prelude.{◌≡◌, ◌⊎◌, ℕ, zero, suc, Bool, List, Option, Result, is_ok}
use Rattle.clerks.specs.declared.clerk.Clerk.{Clerk}
use Rattle.hall.specs.declared.messages.Message.TheVariants.{Leave}
use Rattle.hall.specs.declared.worker.ServeFault.{ServeFault}
use Rattle.hall.specs.Queue.{sent_more}
use Rattle.hall.specs.Serving.{Working, Serves}

-- `comes` says that a connection came, with its reader and writer, and `goes` that it was ended, answered or
-- not: each relates the connections before and after. `misses` says that none could be had. `remaining` are a reader's bytes and
-- `contents` a writer's, if known.
module _ {C I O : Type 0} (comes : C → I → O → C → Type 0) (goes : C → O → Bool → C → Type 0) (misses : C → Type 0)
    (remaining : I → Option (List ℕ)) (contents : O → Option (List ℕ)) (clerks : List Clerk) where
  -- A connection came, the worker served it, and it was ended, as answered exactly if one whole answer went
  -- out: nothing else went out to it.
  pub record ServesOne (old new : C) (before after : Working) : Type 0 where
    pub reader : I
    pub writer : O
    pub at : C
    pub came : comes old reader writer at
    -- the writer after serving
    pub told : O
    pub result : Result (Unit {0}) ServeFault
    pub served : Serves clerks (remaining reader) before after (contents writer) (contents told) result
    pub ended : goes at told (is_ok result) new

  -- It was served, or none could be accepted.
  abbrev pub ServesNext : C → C → Working → Working → Type 0
  ServesNext old new before after = ServesOne old new before after ⊎ (misses old × (new ≡ old) × (after ≡ before))

  -- This many came, or couldn't be accepted, one after another.
  abbrev pub ServesMany : ℕ → C → C → Working → Working → Type 0
  ServesMany zero old new before after = (new ≡ old) × (after ≡ before)
  ServesMany (suc n) old new before after =
      (mid : C) × (then : Working) × ServesMany n old mid before then × ServesNext mid new then after

  -- A worker served this many and left: `left` is its end, whose last message is its Leave, unless the desk
  -- is gone.
  pub record Works (each : ℕ) (old new : C) (hired left : Working) : Type 0 where
    -- the worker before it left
    pub last : Working
    pub all : ServesMany each old new hired last
    pub seen : left.seen ≡ last.seen
    pub closing : left.closing ≡ last.closing
    pub post : (left.post ≡ sent_more last.post (Leave last.post.worker)) ⊎ (left.post ≡ last.post)

  -- A worker served `each` connections, or none, and left.
  pub record WorksOrLeaves (each served : ℕ) (old new : C) (hired left : Working) : Type 0 where
    pub amount : (served ≡ each) ⊎ (served ≡ 0)
    pub works : Works served old new hired left
