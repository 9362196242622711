use Rattle.std.proofs.Common.{Some, ap, ◌∙◌, sym, option_map}
use Rattle.std.specs.Arc.{arc_value}
use Rattle.std.specs.Map.{lookup}
use Rattle.std.specs.BTreeMap.{is_at}
use Rattle.std.specs.Ordering.{nat_cmp}
use Rattle.std.proofs.lemmas.Map.Made.{lookup-map_values}
use Rattle.board.specs.Showing.{page_at}
use Rattle.board.proofs.pages.Pages.page.Goals as goal

pub returns-in_ok-try_clone-in-Some : goal.returns-in_ok-try_clone-in-Some
returns-in_ok-try_clone-in-Some c =
    let es = c.self.inside.pages.entries in
    ap Some c.in_ok-try_clone-in-Some.ensures
    ∙ (ap (option_map arc_value) (c.in-Some.ensures.value ∙ ap (λ k. lookup (is_at (nat_cmp k)) es) c.number.ensures.value)
    ∙ (sym (lookup-map_values arc_value (is_at (nat_cmp c.args.patron)) es) ∙ ap (λ pages. page_at pages c.args.patron) c.self.view_is))

pub returns-in-None : goal.returns-in-None
returns-in-None c =
    let es = c.self.inside.pages.entries in
    ap (option_map arc_value) (c.in-None.ensures.value ∙ ap (λ k. lookup (is_at (nat_cmp k)) es) c.number.ensures.value)
    ∙ (sym (lookup-map_values arc_value (is_at (nat_cmp c.args.patron)) es) ∙ ap (λ pages. page_at pages c.args.patron) c.self.view_is)
