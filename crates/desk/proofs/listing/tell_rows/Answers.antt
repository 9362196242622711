use Rattle.std.proofs.Common.{◌≡◌, ℕ, ◌+◌, ◌<◌, List, [], ◌++◌, length, map, take, append_assoc, append-nil, sym, ◌∙◌, ap, subst, arith}
use Rattle.std.proofs.KnownBytes.{Appends-nil}
use Rattle.std.proofs.lemmas.List.{take_all}
use Rattle.model.specs.Asking.{last_of}
use Rattle.desk.specs.Listing.{IsSoFar, lines_of}
use Rattle.desk.specs.Parts.{IsFront}
use Rattle.desk.proofs.Listings.{row-so-far, row-cut, turn-of}
use Rattle.desk.proofs.PageRows.{item-there}
use Rattle.desk.proofs.Parts.{wrote-part, then-part, answered-part, gives-part, handed-part}
use Rattle.desk.proofs.listing.tell_rows.Goals as goal

pub rows-init : goal.rows-init
rows-init g c = gives-part (wrote-part {T = Unit {0}} {Cut = λ _ _. ⊥} {x = tt} [] (Appends-nil (g.W.Write.contents c.args.writer.now))) (λ H list all. all)
    (λ H list all s none at batch before after so_far.
    subst (IsSoFar (g.L.Listed.list c.args.list.now H) c.args.most after at c.args.told)
    (sym (append-nil before) ∙ ap (λ (t : List ℕ). before ++ t) (sym none)) so_far)

pub returns-in_err-next : goal.returns-in_err-next
returns-in_err-next g c =
    let xs = c.args.rows.now in
    let i : ℕ = c.rows.row-index in
    let r = c.row-item.result in
    let within : i < length xs = omega (arith, c.rows-test.true) in
    handed-part _ c.from_residual.ensures
    (then-part {Wanted = λ H y s. Unit {0}} c.rows.invariant c.in_err-next.ensures (λ H list all. all)
    (λ H list all is. (all.0, all.1 r (item-there xs i r within c.row-item.is)))
    (λ H list all is s cut at batch before after so_far.
    let x = g.L.Listed.list c.args.list.now H in
    let turn = turn-of g.L.Listed.number_of _ x i at xs r within c.row-item.is batch in
    subst (λ (t : List ℕ). IsFront t (lines_of x c.args.most after)) (append_assoc before _ s)
    (row-cut x c.args.most after _ _ _ (is at batch before after so_far) (g.L.Listed.number_of r) s batch.rising turn.0 turn.1 cut))
    (λ _ _ _ _ _ _ _. tt))

pub rows-preserved : goal.rows-preserved
rows-preserved g c =
    let xs = c.args.rows.now in
    let i : ℕ = c.rows.row-index in
    let r = c.row-item.result in
    let within : i < length xs = omega (arith, c.rows-test.true) in
    answered-part c.rows.invariant c.in_ok-next.ensures (λ H list all. all)
    (λ H list all is. (all.0, all.1 r (item-there xs i r within c.row-item.is)))
    (λ H list all is s told at batch before after so_far.
    let x = g.L.Listed.list c.args.list.now H in
    let turn = turn-of g.L.Listed.number_of _ x i at xs r within c.row-item.is batch in
    let was = c.rows.invariant.sent in
    subst (λ (t : List ℕ). IsSoFar x c.args.most after (last_of at (map g.L.Listed.number_of (take (i + 1) xs))) c.in_ok-next.next t)
    (append_assoc before was s)
    (subst (λ (to : ℕ). IsSoFar x c.args.most after to c.in_ok-next.next ((before ++ was) ++ s)) turn.2
    (row-so-far x c.args.most after _ (g.L.Listed.number_of r) c.rows.next c.in_ok-next.next (before ++ was) s batch.rising turn.0 turn.1 told (is at batch before after so_far))))

pub returns : goal.returns
returns g c = gives-part c.rows.invariant (λ H list all. all) (λ H list all s is.
    let whole : take c.rows.row-index c.args.rows.now ≡ c.args.rows.now = take_all c.rows.row-index c.args.rows.now c.rows-test.false in
    rw whole at is)
