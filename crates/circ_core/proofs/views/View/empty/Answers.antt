use Rattle.circ_core.specs.Views.{empty_view}
use Rattle.circ_core.proofs.views.View.empty.Goals as goal

pub returns : goal.returns
unfolding empty_view
returns c = cc
