use Rattle.std.proofs.Common.{◌≡◌, ℕ, ◌<◌, length, take, subst, arith}
use Rattle.std.proofs.lemmas.List.{take_all}
use Rattle.desk.specs.Searching.{IsSearchedTo}
use Rattle.desk.proofs.Listings.{turn-of}
use Rattle.desk.proofs.PageRows.{item-there}
use Rattle.desk.proofs.SearchLemmas.{row-searched}
use Rattle.desk.proofs.searching.look_at_all.Goals as goal

pub rows-init : goal.rows-init
rows-init g c = λ H at batch start after so_far. so_far

pub rows-preserved : goal.rows-preserved
rows-preserved g c = λ H at batch start after so_far.
    let xs = c.args.rows.now in
    let i : ℕ = c.rows.row-index in
    let r = c.row-item.result in
    let within : i < length xs = omega (arith, c.rows-test.true) in
    let x = g.T.Searched.search H c.args.query.now in
    let turn = turn-of g.T.Searched.number_of (λ r. g.T.Searched.IsRow r H) x.all i at xs r within c.row-item.is batch.batch in
    let is = (batch.batch.sound r (item-there xs i r within c.row-item.is)).0 in
    subst (λ (to : ℕ). IsSearchedTo x after to start c.look_at.new.seen) (turn.2)
    (row-searched x after _ (g.T.Searched.number_of r) start _ c.look_at.new.seen batch.batch.rising turn.0 turn.1 (c.in_ok-look_at.ensures H is)
    (batch.listed r (item-there xs i r within c.row-item.is)) (c.rows.invariant H at batch start after so_far))

pub returns : goal.returns
returns g c =
    let whole : take c.rows.row-index c.args.rows.now ≡ c.args.rows.now = take_all c.rows.row-index c.args.rows.now c.rows-test.false in
    rw whole at c.rows.invariant
