-- The outcome of serving the web, from that of its parts.
use Rattle.std.proofs.Common.{◌≡◌, ◌⊎◌, inl, inr, ℕ, Bool, true, false, List, [], ◌++◌, length, refl, sym, subst}
use Rattle.std.specs.Prelude.{Option, Some, None, IfSome, Result, Ok, Err}
use Rattle.std.specs.Io.KnownBytes.{Appends}
use Rattle.store.specs.Library.{Ghosts, Held, state}
use Rattle.model.specs.History.{History}
use Rattle.desk.specs.Answering.{Shows}
use Rattle.terms.specs.Writing.{AppendsFront}
use Rattle.terms.specs.Texts.{service_fault_number}
use Rattle.terms.specs.declared.fault.ServiceFault.{ServiceFault}
use Rattle.terms.specs.declared.fault.Fault.TheVariants.{Memory}
use Rattle.terms.specs.declared.fault.ServiceFault.TheVariants.{Met}
use Rattle.board.specs.declared.entry.Entry.{Entry}
use Rattle.clerks.specs.declared.clerk.Clerk.{Clerk}
use Rattle.hall.specs.Handling.{ClosedBy}
use Rattle.hall.specs.Queue.{handled, unhandled, requests}
use Rattle.hall.specs.declared.messages.Message.{Message}
use Rattle.hall.specs.Openings.{LooksOnly, IsUnopened, KeepsClosed, can_be_workers}
use Rattle.hall.specs.declared.hall.Why.{Why}
use Rattle.hall.specs.declared.hall.Why.TheVariants as why
use Rattle.desk.proofs.Looking.{idle}
use Rattle.hall.proofs.Progress.{handled-after-look, unopened}
use Rattle.circ.specs.declared.lines.Exit.{Exit}
use Rattle.circ.specs.declared.lines.Exit.TheVariants.{Faulted}
use Rattle.circ.specs.Lines.{EndsWith, fault_line, port_line, threads_line}
use Rattle.circ.specs.Serving.{ServesWorkers, ServesHall, ServesPort, IsNotServed, end_text, exit_after, why_line, exit_of_why}
use Rattle.terms.proofs.Fronts.{failed-first, second-out, second-failed}

module _ {S : Type 0} (g : Ghosts S) where
  why-faulted : (e f : ServiceFault) → why.Faulted e ≡ why.Faulted f → e ≡ f
  why-faulted e f h = cc

  -- a fault kept the hall from being opened
  pub not-opened : (workers : ℕ) (old new : Held S) (fault : ServiceFault) → IsUnopened workers g old new (why.Faulted fault)
      → KeepsClosed g old new fault
  not-opened workers old new fault is = by (can_be_workers workers) refl
    where
      by : (b : Bool) → can_be_workers workers ≡ b → KeepsClosed g old new fault
      by true e = let met = is.faulted e in subst (λ (f : ServiceFault). KeepsClosed g old new f) (sym (why-faulted fault met.0 met.1)) met.2
      by false e = let never : ⊥ = cc ((is.refused e).0) in absurd never

  -- there can be so many
  can-be : (workers : ℕ) (old new : Held S) (fault : ServiceFault) → IsUnopened workers g old new (why.Faulted fault) → can_be_workers workers ≡ true
  can-be workers old new fault is = by (can_be_workers workers) refl
    where
      by : (b : Bool) → can_be_workers workers ≡ b → can_be_workers workers ≡ true
      by true e = e
      by false e = let never : ⊥ = cc ((is.refused e).0) in absurd never

  -- there can't be so many workers
  pub not-asked : (workers : ℕ) (old new : Held S) (refusal : _) → IsUnopened workers g old new (why.Refused refusal) → (can_be_workers workers ≡ false) × (new ≡ old)
  not-asked workers old new refusal is = by (can_be_workers workers) refl
    where
      by : (b : Bool) → can_be_workers workers ≡ b → (can_be_workers workers ≡ false) × (new ≡ old)
      by true e = let never : ⊥ = cc ((is.faulted e).1) in absurd never
      by false e = (e, (is.refused e).1)

  module _ {C I O : Type 0} (comes : C → I → O → C → Type 0) (goes : C → O → Bool → C → Type 0) (misses : C → Type 0)
      (remaining : I → Option (List ℕ)) (contents : O → Option (List ℕ)) (clerks : List Clerk)
      {E : Type 0} (lists : History → Type 0) (each port : ℕ) (olds news : List C) (old new : Held S) where
    -- the port was told, and then how it ended
    pub port-told : (a b c : Option (List ℕ)) (r : Result Exit E) (are_whole : Bool) (fault : Option ServiceFault)
        → ServesWorkers comes goes misses remaining contents clerks each olds news are_whole lists g old new fault
        → Appends a b (port_line port)
        → EndsWith (exit_after are_whole fault) (end_text are_whole fault) b c r
        → ServesHall comes goes misses remaining contents clerks each port olds news lists g old new a c r
    port-told a b c r are_whole fault serves out ends = record {
      fault = fault;
      are_whole = are_whole;
      most = each;
      serves = serves;
      told = record {
        exit_is = ends.exit_is;
        writes = record {
          all = second-out r a b c (port_line port) (end_text are_whole fault) out ends.writes.all;
          front = second-failed r a b c (port_line port) (end_text are_whole fault) out ends.writes.front;
        };
      };
      listens = inl (refl, b, out, ends);
    }

    -- the port could not be told
    pub port-untold : (a b : Option (List ℕ)) (error : E) (are_whole : Bool) (fault : Option ServiceFault)
        → ServesWorkers comes goes misses remaining contents clerks 0 olds news are_whole lists g old new fault
        → AppendsFront a b (port_line port)
        → ServesHall comes goes misses remaining contents clerks each port olds news lists g old new a b (Err error)
    port-untold a b error are_whole fault serves front = record {
      fault = fault;
      are_whole = are_whole;
      most = 0;
      serves = serves;
      told = record {
        exit_is = tt;
        writes = record {
          all = tt;
          front = failed-first {T = Exit} (Err error) a b (port_line port)
              (end_text are_whole fault) front;
        };
      };
      listens = inr (refl, tt);
    }

  -- what closed the hall, also from before the tables were looked at
  closed-after-look : (n : ℕ) (got : List Message) (old side new : Held S) (entries : List Entry) (fault : Option ServiceFault)
      → LooksOnly g old side (Ok tt) → IfSome fault (ClosedBy n got g side new entries) → IfSome fault (ClosedBy n got g old new entries)
  closed-after-look n got old side new entries None look closed = tt
  closed-after-look n got old side new entries (Some fault) look (inl desk) = inl (record {
    before = desk.before;
    reached = handled-after-look g (requests (handled n got)) [] old side desk.before None look desk.reached;
    next = desk.next;
    later = desk.later;
    rest_is = desk.rest_is;
    met = desk.met;
    is = desk.is;
    closes = desk.closes;
    handles = desk.handles;
    shown = desk.shown;
  })
  closed-after-look n got old side new entries (Some fault) look (inr (inl board)) = inr (inl (record {
    made = board.made;
    reached = handled-after-look g (requests (handled n got)) [] old side board.made None look board.reached;
    met = board.met;
    is = board.is;
    looks = board.looks;
    last = board.last;
    shown = board.shown;
  }))
  closed-after-look n got old side new entries (Some fault) look (inr (inr full)) = inr (inr (record {
    is = full.is;
    full = full.full;
    shown = full.shown;
  }))

  module _ {C I O : Type 0} (comes : C → I → O → C → Type 0) (goes : C → O → Bool → C → Type 0) (misses : C → Type 0)
      (remaining : I → Option (List ℕ)) (contents : O → Option (List ℕ)) (clerks : List Clerk) where
    -- the hall was opened, which only looks at the tables, and for each list that they show
    pub opened-served : {E : Type 0} (lists : History → Type 0) (each port : ℕ) (olds news : List C) (old side new : Held S)
        (a b : Option (List ℕ)) (r : Result Exit E) → ((H : History) → Shows (state g old) H → lists H)
        → can_be_workers (length olds) ≡ true → LooksOnly g old side (Ok tt)
        → ServesHall comes goes misses remaining contents clerks each port olds news lists g side new a b r
        → ServesPort comes goes misses remaining contents clerks each port olds news g old new a b r
    opened-served lists each port olds news old side new a b r every can look served =
        let s = served.serves in
        inl (
          can,
          record {
            fault = served.fault;
            are_whole = served.are_whole;
            most = served.most;
            serves = record {
              got = s.got;
              n = s.n;
              shown = s.shown;
              parts = s.parts;
              from = s.from;
              desk = handled-after-look g (requests (handled s.n s.got)) (requests (unhandled s.n s.got)) old side new served.fault look s.desk;
              all = s.all;
              cause = closed-after-look s.n s.got old side new s.shown.entries served.fault look s.cause;
              told = λ disk H shows. s.told disk H (every H shows);
              replies = λ disk H shows. s.replies disk H (every H shows);
            };
            told = served.told;
            listens = served.listens;
          },
        )

  -- no memory was left before anything was asked
  pub no-memory : (held : Held S) → KeepsClosed g held held (Met Memory)
  no-memory held = inl (Memory, refl, record { looked = Ok tt; looks = idle; cause = inr refl })

  -- nobody was served, and the fault was told
  pub nobody-served : {C E : Type 0} (all : List C) (old new : Held S) (a b : Option (List ℕ)) (r : Result Exit E)
      (fault : ServiceFault) → (can_be_workers (length all) ≡ true) ⊎ (fault ≡ Met Memory) → KeepsClosed g old new fault
      → EndsWith Faulted (fault_line (service_fault_number fault)) a b r → IsNotServed all all g old new a b r
  nobody-served all old new a b r fault asked cause ends =
      record { fault = fault; asked = asked; cause = cause; desk = unopened g old new fault cause; same = refl; told = ends }

  module _ {C I O : Type 0} (comes : C → I → O → C → Type 0) (goes : C → O → Bool → C → Type 0) (misses : C → Type 0)
      (remaining : I → Option (List ℕ)) (contents : O → Option (List ℕ)) (clerks : List Clerk) where
    -- the fault of a hall that isn't opened was told
    pub fault-told : {E : Type 0} (each port : ℕ) (all : List C) (old new : Held S) (a b : Option (List ℕ)) (r : Result Exit E)
        (fault : ServiceFault) → (can_be_workers (length all) ≡ true) ⊎ (fault ≡ Met Memory) → KeepsClosed g old new fault
        → EndsWith Faulted (fault_line (service_fault_number fault)) a b r
        → ServesPort comes goes misses remaining contents clerks each port all all g old new a b r
    fault-told each port all old new a b r fault asked cause ends = inr (inl (nobody-served all old new a b r fault asked cause ends))

    -- why the hall isn't opened was told
    pub why-told : {E : Type 0} (each port : ℕ) (all : List C) (old new : Held S) (w : Why) (a b : Option (List ℕ)) (r : Result Exit E)
        → IsUnopened (length all) g old new w → EndsWith (exit_of_why w) (why_line w) a b r
        → ServesPort comes goes misses remaining contents clerks each port all all g old new a b r
    why-told each port all old new (why.Faulted fault) a b r is ends =
        fault-told each port all old new a b r fault (inl (can-be (length all) old new fault is))
        (not-opened (length all) old new fault is) ends
    why-told each port all old new (why.Refused refusal) a b r is ends =
        let none = not-asked (length all) old new refusal is in inr (inr (none.0, none.1, refl, ends))

-- that a thread could not be made was told, and then the fault
pub both-told : {E : Type 0} (are_whole : Bool) (fault : Option ServiceFault) (met : ServiceFault) (a b : Option (List ℕ))
    (r : Result Exit E) → are_whole ≡ false → fault ≡ Some met
    → EndsWith Faulted (threads_line ++ fault_line (service_fault_number met)) a b r → EndsWith (exit_after are_whole fault) (end_text are_whole fault) a b r
both-told are_whole fault met a b r out is ends =
    subst (λ (w : Bool). EndsWith (exit_after w fault) (end_text w fault) a b r) (sym out)
    (subst (λ (o : Option ServiceFault). EndsWith (exit_after false o) (end_text false o) a b r) (sym is) ends)
