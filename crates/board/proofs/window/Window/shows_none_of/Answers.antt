use Rattle.std.proofs.Common.{◌≡◌, true, false, refl, ap, sym, subst, ◌∙◌}
use Rattle.std.specs.Prelude.{Bool, IsTrue, IsFalse, IsSome, not}
use Rattle.left_right.specs.Sides.{view}
use Rattle.board.specs.declared.entry.Seen.{Seen}
use Rattle.std.proofs.lemmas.Bool.{false≢true}
use Rattle.board.specs.Showing.{last_on, count_own, seen_of}
use Rattle.board.proofs.Keeping.{looks, seen-now, none-seen, some-seen}
use Rattle.board.proofs.window.Window.shows_none_of.Goals as goal

pub enter_as-requires : goal.enter_as-requires
enter_as-requires g c = looks g.J.Naming.book c.in-Some.reader.place.id (view c.in-Some.reader.place)

is-not : (b : Bool) → IsTrue (not b) → IsFalse b
is-not true h = let never : false ≡ true = h in absurd (false≢true never)
is-not false h = refl

pub returns-in-Ok-clause-none : goal.returns-in-Ok-clause-none
returns-in-Ok-clause-none g c = λ none.
    let seen = (view c.in-Ok.reading.place).seen in
    let looked = c.in-Ok.ensures.1 in
    let same : seen_of c.frames.result.items ≡ seen =
    seen-now c.in-Ok.reading.part.value c.frames.result seen looked.is (c.frames.ensures ∙ ap (λ x. x.frames) c.get-in-Ok.ensures) in
    ap (λ (s : Seen). count_own c.args.worker s.entries) same
    ∙ none-seen seen c.in-Ok.reading.part.value c.args.worker c.number-in_limits.ensures.limits looked.board
    (ap (last_on c.args.worker) (sym c.get.ensures) ∙ c.has_entry-none.ensures.no (is-not c.has_entry-none.result none))

is-so : (b : Bool) → IsFalse (not b) → IsTrue b
is-so true h = refl
is-so false h = let never : true ≡ false = h in absurd (false≢true (sym never))

pub returns-in-Ok-clause-some : goal.returns-in-Ok-clause-some
returns-in-Ok-clause-some g c = λ some none.
    let seen = (view c.in-Ok.reading.place).seen in
    let looked = c.in-Ok.ensures.1 in
    let same : seen_of c.frames.result.items ≡ seen =
    seen-now c.in-Ok.reading.part.value c.frames.result seen looked.is (c.frames.ensures ∙ ap (λ x. x.frames) c.get-in-Ok.ensures) in
    some-seen seen c.in-Ok.reading.part.value c.args.worker looked.board
    (subst (λ x. IsSome (last_on c.args.worker x)) c.get.ensures (c.has_entry-none.ensures.yes (is-so c.has_entry-none.result some)))
    (ap (λ (s : Seen). count_own c.args.worker s.entries) (sym same) ∙ none)
