-- What is written, given the words and the desk's answer.
use Rattle.std.proofs.Common.{◌≡◌, ℕ, List, Option, inl, inr, refl, sym, ◌∙◌, ap, subst}
use Rattle.std.specs.Prelude.{Result, Ok, Err, OnOk, OnErr, IfOk}
use Rattle.std.specs.List.{join_with_byte}
use Rattle.std.specs.Io.KnownBytes.{Appends}
use Rattle.store.specs.Library.{Ghosts, Held, state}
use Rattle.terms.specs.Laws.{RequestTextsDiffer}
use Rattle.terms.specs.Texts.{request_text, fault_number}
use Rattle.terms.specs.Writing.{AppendsFront}
use Rattle.terms.specs.declared.command.Command.{Command}
use Rattle.terms.specs.declared.fault.Fault.{Fault}
use Rattle.terms.specs.declared.fault.Fault.TheVariants.{Memory}
use Rattle.terms.specs.declared.reply.Reply.{Reply}
use Rattle.model.specs.Requests.{after_one}
use Rattle.desk.proofs.Shown.{shows-headline}
use Rattle.desk.specs.Answering.{Handled}
use Rattle.front.specs.Understood.{IsUnderstoodAs}
use Rattle.circ.specs.declared.lines.Exit.{Exit}
use Rattle.circ.specs.declared.lines.Exit.TheVariants.{Faulted, NotUnderstood}
use Rattle.circ.specs.Exits.{exit_of}
use Rattle.circ.specs.Lines.{reply_line, fault_line, not_understood_line}
use Rattle.circ.specs.Saying.{desk_request, Says}

-- words are the words of one command at most
understood-once : RequestTextsDiffer → (words : List (List ℕ)) (a b : Command) → IsUnderstoodAs words a → IsUnderstoodAs words b → a ≡ b
unfolding request_text
understood-once differ words a b p q = differ a b p.formed.0 q.formed.0 (ap (join_with_byte 32) (sym p.written ∙ q.written))

pub understood-alone : {E : Type 0} → RequestTextsDiffer → (words : List (List ℕ)) (r : Result Command E) → IfOk r (λ command. IsUnderstoodAs words command)
    → IfOk r (λ command. (other : Command) → IsUnderstoodAs words other → other ≡ command)
understood-alone differ words (Ok command) p = λ other q. understood-once differ words other command q p
understood-alone differ words (Err e) p = tt

module _ {S : Type 0} (g : Ghosts S) (old new : Held S) (key : List ℕ) (words : List (List ℕ)) where
  pub says-reply : (command : Command) (reply : Reply) → IsUnderstoodAs words command → ((other : Command) → IsUnderstoodAs words other → other ≡ command)
      → Handled (desk_request key command) g old new (Ok reply)
      → Says key words g old new (reply_line reply) (exit_of reply)
  says-reply command reply understood only handled = inl (record {
    command = command;
    reply = reply;
    understood = understood;
    only = only;
    line_is = refl;
    exit_is = refl;
    handled = handled;
    headline = λ disk H shows. shows-headline (state g new) (after_one H (desk_request key command)) (handled.replied disk H shows).1;
  })

  pub says-fault : (command : Command) (fault : Fault) → IsUnderstoodAs words command → Handled (desk_request key command) g old new (Err fault)
      → Says key words g old new (fault_line (fault_number fault)) Faulted
  says-fault command fault understood handled = inr (inl (record {
    fault = fault;
    line_is = refl;
    exit_is = refl;
    met = inr (record { command = command; understood = understood; handled = handled });
  }))

-- nothing was touched
module _ {S : Type 0} (g : Ghosts S) (held : Held S) (key : List ℕ) (words : List (List ℕ)) where
  pub says-no-memory : Says key words g held held (fault_line (fault_number Memory)) Faulted
  says-no-memory = inr (inl (record { fault = Memory; line_is = refl; exit_is = refl; met = inl (refl, refl) }))

  pub says-not-understood : ((command : Command) → IsUnderstoodAs words command → ⊥) → Says key words g held held not_understood_line NotUnderstood
  says-not-understood none = inr (inr (record { none = none; line_is = refl; exit_is = refl; same = refl }))

-- the line went out whole, or a beginning of it
pub said-whole : {E : Type 0} (P : List ℕ → Exit → Type 0) (r : Result Exit E) (a b : Option (List ℕ)) (line : List ℕ) (exit : Exit)
    → P line exit → IfOk r (λ e. e ≡ exit) → OnOk r (Appends a b line) → IfOk r (λ e. (l : List ℕ) × P l e × Appends a b l)
said-whole P (Ok e) a b line exit says is wrote = (line, subst (P line) (sym is) says, wrote)
said-whole P (Err e) a b line exit says is wrote = tt

pub said-cut : {E : Type 0} (P : List ℕ → Exit → Type 0) (r : Result Exit E) (a b : Option (List ℕ)) (line : List ℕ) (exit : Exit)
    → P line exit → OnErr r (AppendsFront a b line) → OnErr r ((l : List ℕ) × (e : Exit) × P l e × AppendsFront a b l)
said-cut P (Ok e) a b line exit says front = tt
said-cut P (Err e) a b line exit says front = (line, exit, says, front)
