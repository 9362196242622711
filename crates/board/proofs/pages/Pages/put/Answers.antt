use Rattle.std.proofs.Common.{map, ap, ◌∙◌}
use Rattle.std.specs.Arc.{arc_value}
use Rattle.board.specs.Showing.{put_page}
use Rattle.board.proofs.PageLists.{map-put}
use Rattle.board.proofs.pages.Pages.put.Goals as goal

pub returns-in-Ok : goal.returns-in-Ok
returns-in-Ok c =
    let inside = c.self.inside in
    rw (← c.self.view_is)
    (ap (map (λ e. (e.0, arc_value e.1))) c.in-Ok.ensures.entries
    ∙ (map-put arc_value inside.pages.entries c.args.patron c.in_ok-page.page
    ∙ ap (put_page (map (λ e. (e.0, arc_value e.1)) inside.pages.entries) c.args.patron) c.in_ok-page.ensures))
