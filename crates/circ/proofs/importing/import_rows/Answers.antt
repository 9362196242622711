use Rattle.std.proofs.Common.{◌≡◌, inl, inr, List, [], ◌∷◌, ◌++◌, length, ◌∙◌, append_assoc, append-nil, refl, sym, ap, subst, arith, rules}
use Rattle.std.specs.Prelude.{Ok}
use Rattle.std.specs.Vec.Iter.{into_iter_items}
use Rattle.terms.specs.Writing.{AppendsFront}
use Rattle.front.specs.declared.copies.FileRow.{FileRow}
use Rattle.std.specs.Io.KnownBytes.{Appends}
use Rattle.desk.proofs.Looking.{on-err, on-err-any}
use Rattle.circ.specs.Importing.{end_line, end_exit, counts_line, ImportsOf}
use Rattle.circ.specs.declared.importing.Tally.{Tally}
use Rattle.terms.specs.Texts.{fault_number}
use Rattle.circ.specs.Lines.{fault_line, AppendsBoth, AppendsAndFront}
use Rattle.circ.specs.declared.lines.Exit.TheVariants.{Faulted}
use Rattle.terms.proofs.Fronts.{after-nothing, front-after-nothing}
use Rattle.circ.proofs.Ends.{ends-as}
use Rattle.circ.proofs.Imports.{SoFar, far-none, far-more, within, room-for, imports-some, imports-cut, imports-all, lines-whole, lines-front}
use Rattle.circ.proofs.importing.import_rows.Goals as goal

nothing-left : (xs : List FileRow) → length xs ≡ 0 → xs ≡ []
nothing-left [] e = refl
nothing-left (x ∷ xs) e = let never : ⊥ = cc in absurd never

pub rows-init : goal.rows-init
rows-init g c = record { parted = refl; many = search rules; so_far = far-none g.S.Store c.args.desk.now (g.W.Write.contents c.args.writer.now) }

pub import_row-requires : goal.import_row-requires
import_row-requires g c = let far = c.rows.invariant.so_far in
    let all : List FileRow = c.args.rows.items in
    let at = within all c.rows.yielded (into_iter_items c.rows.row-iterator) (into_iter_items c.next.new.self) c.in-Some.row
    (c.rows.invariant.parted ∙ c.into_iter-row-iterator.ensures.into_iter_gives.0) c.in-Some.ensures.steps.0 in
    record {
      room = room-for g.S.Store c.args.desk.now c.rows.desk c.rows.yielded c.rows.counts (g.W.Write.contents c.args.writer.now)
          (g.W.Write.contents c.rows.writer) all c.in-Some.row far at c.requires.few;
    }

pub returns-in_err-fault : goal.returns-in_err-fault
returns-in_err-fault g c = record {
  clean = λ disk. c.rows.invariant.so_far.handled.clean (c.in_err-fault.ensures.clean disk);
  written = search rules;
  cut = let far = c.rows.invariant.so_far in
      let all : List FileRow = c.args.rows.items in
      let at = within all c.rows.yielded (into_iter_items c.rows.row-iterator) (into_iter_items c.next.new.self) c.in-Some.row
      (c.rows.invariant.parted ∙ c.into_iter-row-iterator.ensures.into_iter_gives.0) c.in-Some.ensures.steps.0 in
      let one = c.in_err-fault.ensures.cut in
      on-err-any c.from_residual.result
      (inr (imports-cut g.S.Store c.args.desk.now c.rows.desk c.import_row.new.desk all c.rows.yielded c.rows.counts
      (g.W.Write.contents c.args.writer.now) (g.W.Write.contents c.rows.writer) c.in-Some.row far at
      (g.W.Write.contents c.import_row.new.writer) one.0 one.1 one.2));
}

pub returns-in-Some-2 : goal.returns-in-Some-2
returns-in-Some-2 g c = record {
  clean = λ disk. c.rows.invariant.so_far.handled.clean (c.in_ok-fault.ensures.clean disk);
  written = let far = c.rows.invariant.so_far in
      let all : List FileRow = c.args.rows.items in
      let at = within all c.rows.yielded (into_iter_items c.rows.row-iterator) (into_iter_items c.next.new.self) c.in-Some.row
      (c.rows.invariant.parted ∙ c.into_iter-row-iterator.ensures.into_iter_gives.0) c.in-Some.ensures.steps.0 in
      let fault = c.in-Some-2.fault in
      let is = ap Ok c.in-Some-2.is in
      let kept = c.in_ok-fault.ensures.silent fault is in
      let a = g.W.Write.contents c.args.writer.now in
      let b = g.W.Write.contents c.rows.writer in
      let d = g.W.Write.contents c.tell_stop.new.writer in
      ends-as (λ exit. ImportsOf all c.args.end g.S.Store c.args.desk.now c.import_row.new.desk (AppendsBoth a d) exit) c.tell_stop.result
      Faulted c.tell_stop.ensures.exit_is c.tell_stop.ensures.writes.all
      (λ wrote. inr (imports-some g.S.Store c.args.desk.now c.rows.desk c.import_row.new.desk all c.rows.yielded c.rows.counts a b
      c.in-Some.row far at fault (AppendsBoth a d)
      c.in_ok-fault.ensures.clean (c.in_ok-fault.ensures.sound fault is) (c.in_ok-fault.ensures.undone fault is) (c.in_ok-fault.ensures.nothing fault is)
      c.in_ok-fault.ensures.left
      (lines-whole g.S.Store c.args.desk.now c.rows.desk c.rows.yielded c.rows.counts a b far (fault_line (fault_number fault)) d
      (after-nothing b (g.W.Write.contents c.import_row.new.writer) d
      (fault_line (fault_number fault) ++ counts_line c.rows.counts.accepted c.rows.counts.refused) kept.0
      (subst (λ (n : Tally). Appends (g.W.Write.contents c.import_row.new.writer) d
      (fault_line (fault_number fault) ++ counts_line n.accepted n.refused)) kept.1 wrote)))));
  cut = let far = c.rows.invariant.so_far in
      let all : List FileRow = c.args.rows.items in
      let at = within all c.rows.yielded (into_iter_items c.rows.row-iterator) (into_iter_items c.next.new.self) c.in-Some.row
      (c.rows.invariant.parted ∙ c.into_iter-row-iterator.ensures.into_iter_gives.0) c.in-Some.ensures.steps.0 in
      let fault = c.in-Some-2.fault in
      let is = ap Ok c.in-Some-2.is in
      let kept = c.in_ok-fault.ensures.silent fault is in
      let a = g.W.Write.contents c.args.writer.now in
      let b = g.W.Write.contents c.rows.writer in
      let d = g.W.Write.contents c.tell_stop.new.writer in
      on-err c.tell_stop.result
      (λ front. inl (
        Faulted,
        inr (imports-some g.S.Store c.args.desk.now c.rows.desk c.import_row.new.desk all c.rows.yielded c.rows.counts a b c.in-Some.row
            far at fault (AppendsAndFront a d)
            c.in_ok-fault.ensures.clean (c.in_ok-fault.ensures.sound fault is) (c.in_ok-fault.ensures.undone fault is) (c.in_ok-fault.ensures.nothing fault is)
            c.in_ok-fault.ensures.left
            (lines-front g.S.Store c.args.desk.now c.rows.desk c.rows.yielded c.rows.counts a b far (fault_line (fault_number fault)) d
            (front-after-nothing b (g.W.Write.contents c.import_row.new.writer) d
            (fault_line (fault_number fault) ++ counts_line c.rows.counts.accepted c.rows.counts.refused) kept.0
            (subst (λ (n : Tally). AppendsFront (g.W.Write.contents c.import_row.new.writer) d
            (fault_line (fault_number fault) ++ counts_line n.accepted n.refused)) kept.1 front)))),
      ))
      c.tell_stop.ensures.writes.front;
}

pub rows-preserved : goal.rows-preserved
rows-preserved g c = let far = c.rows.invariant.so_far in
    let done = c.in_ok-fault.ensures.done (ap Ok c.in_default.is) in
    let steps = c.in-Some.ensures.steps in
    record {
      parted = append_assoc c.rows.yielded (c.in-Some.row ∷ []) (into_iter_items c.next.new.self)
          ∙ ap (λ (xs : List FileRow). c.rows.yielded ++ xs) (sym steps.0) ∙ c.rows.invariant.parted;
      many = let was = c.rows.invariant.many in let gone = steps.1 in let short = ap length steps.0 in omega (arith, was, gone, short);
      so_far = subst (λ (n : Tally). SoFar g.S.Store c.args.desk.now c.import_row.new.desk (c.rows.yielded ++ c.in-Some.row ∷ []) n
          (g.W.Write.contents c.args.writer.now) (g.W.Write.contents c.import_row.new.writer)) (sym done.2)
          (far-more g.S.Store c.args.desk.now c.rows.desk c.import_row.new.desk c.rows.yielded c.rows.counts
          (g.W.Write.contents c.args.writer.now) (g.W.Write.contents c.rows.writer) (g.W.Write.contents c.import_row.new.writer)
          c.in-Some.row done.0 far done.1 done.3);
    }

pub returns : goal.returns
returns g c = record {
  clean = λ disk. c.rows.invariant.so_far.handled.clean disk;
  written = let far = c.rows.invariant.so_far in
      let all : List FileRow = c.args.rows.items in
      let none = nothing-left (into_iter_items c.rows.row-iterator) (sym c.rows.invariant.many ∙ c.in-None.ensures.steps.0) in
      let is = sym (append-nil c.rows.yielded) ∙ ap (λ (xs : List FileRow). c.rows.yielded ++ xs) (sym none) ∙ c.rows.invariant.parted
      ∙ c.into_iter-row-iterator.ensures.into_iter_gives.0 in
      let a = g.W.Write.contents c.args.writer.now in
      let b = g.W.Write.contents c.rows.writer in
      let d = g.W.Write.contents c.tell_end.new.writer in
      ends-as (λ exit. ImportsOf all c.args.end g.S.Store c.args.desk.now c.rows.desk (AppendsBoth a d) exit) c.tell_end.result
      (end_exit c.args.end c.rows.counts.refused) c.tell_end.ensures.exit_is c.tell_end.ensures.writes.all
      (λ wrote. inl (imports-all g.S.Store c.args.desk.now c.rows.desk c.rows.yielded c.rows.counts a b far
      (end_line c.args.end) all is c.args.end (AppendsBoth a d)
      (lines-whole g.S.Store c.args.desk.now c.rows.desk c.rows.yielded c.rows.counts a b far (end_line c.args.end) d wrote)));
  cut = let far = c.rows.invariant.so_far in
      let all : List FileRow = c.args.rows.items in
      let none = nothing-left (into_iter_items c.rows.row-iterator) (sym c.rows.invariant.many ∙ c.in-None.ensures.steps.0) in
      let is = sym (append-nil c.rows.yielded) ∙ ap (λ (xs : List FileRow). c.rows.yielded ++ xs) (sym none) ∙ c.rows.invariant.parted
      ∙ c.into_iter-row-iterator.ensures.into_iter_gives.0 in
      let a = g.W.Write.contents c.args.writer.now in
      let b = g.W.Write.contents c.rows.writer in
      let d = g.W.Write.contents c.tell_end.new.writer in
      on-err c.tell_end.result
      (λ front. inl (
        end_exit c.args.end c.rows.counts.refused,
        inl (imports-all g.S.Store c.args.desk.now c.rows.desk c.rows.yielded c.rows.counts a b far (end_line c.args.end) all is c.args.end (AppendsAndFront a d)
            (lines-front g.S.Store c.args.desk.now c.rows.desk c.rows.yielded c.rows.counts a b far (end_line c.args.end) d front)),
      ))
      c.tell_end.ensures.writes.front;
}
