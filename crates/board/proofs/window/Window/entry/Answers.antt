use Rattle.std.proofs.Common.{◌≡◌, List, Option, None, Some, Global, sym, ap, ◌∙◌, subst}
use Rattle.std.specs.Prelude.{MatchOption, Result}
use Rattle.terms.specs.declared.fault.Fault.{Fault}
use Rattle.terms.specs.declared.reply.Reply.{Reply}
use Rattle.left_right.specs.Sides.{view}
use Rattle.std.specs.Arc.{arc_value}
use Rattle.std.specs.declared.sync.Arc.{Arc}
use Rattle.board.specs.declared.entry.Entry.{Entry}
use Rattle.board.specs.declared.entry.Seen.{Seen}
use Rattle.board.specs.Showing.{Showing, ShowsEntry, IsAnswer, entries_of}
use Rattle.board.proofs.Keeping.{looks, seen-now, found, not-found}
use Rattle.board.proofs.window.Window.entry.Goals as goal
use Rattle.board.proofs.window.Window.entry.Goals.{in-Ok-entry, in-Err-entry}

pub enter_as-requires : goal.enter_as-requires
enter_as-requires g c = looks g.J.Naming.book c.in-Some.reader.place.id (view c.in-Some.reader.place)

match_option : {X : Type 0} (o : Option X) (N M : Type 0) (P Q : X → Type 0) → (N → M) → ((x : X) → P x → Q x) → MatchOption o N P → MatchOption o M Q
match_option (Some x) N M P Q n f h = f x h
match_option None N M P Q n f h = n h

pub returns-after-entry-clause-found : goal.returns-after-entry-clause-found
returns-after-entry-clause-found g c =
    let seen = (view c.in-Ok.reading.place).seen in
    let looked = c.in-Ok.ensures.1 in
    let now = entries_of c.frames.result.items in
    let same : now ≡ seen.entries =
    ap (λ (s : Seen). s.entries) (seen-now c.in-Ok.reading.part.value c.frames.result seen looked.is
    (c.frames.ensures ∙ ap (λ x. x.frames) c.get-in-Ok.ensures)) in
    elim c.match-entry.branch [
      | in-Ok-entry w ↦ rw w.result-is (match_option w.in-Ok-entry.found
          ((e : Entry) → ¬ ShowsEntry c.get.result.now c.args.worker c.args.number c.args.request.now e)
          ((answer : Result Reply Fault) → ¬ IsAnswer now c.args.worker c.args.number c.args.request.now answer)
          (λ (a : Arc Entry Global). ShowsEntry c.get.result.now c.args.worker c.args.number c.args.request.now (arc_value a))
          (λ (a : Arc Entry Global). IsAnswer now c.args.worker c.args.number c.args.request.now (arc_value a).answer)
          (λ none answer is. not-found seen c.in-Ok.reading.part.value c.args.worker c.args.number c.args.request.now looked.board looked.sound
          (λ e shows. none e (subst (λ (x : Showing). ShowsEntry x c.args.worker c.args.number c.args.request.now e) (sym c.get.ensures) shows))
          answer (subst (λ (l : List Entry). IsAnswer l c.args.worker c.args.number c.args.request.now answer) same is))
          (λ a shows. subst (λ (l : List Entry). IsAnswer l c.args.worker c.args.number c.args.request.now (arc_value a).answer) (sym same)
          (found seen c.in-Ok.reading.part.value c.args.worker c.args.number c.args.request.now (arc_value a) looked.board looked.sound
          (subst (λ (x : Showing). ShowsEntry x c.args.worker c.args.number c.args.request.now (arc_value a)) c.get.ensures shows)))
          w.in-Ok-entry.ensures)
      | in-Err-entry w ↦ rw w.result-is tt
    ]
