use Rattle.model.proofs.Asking.{lists-rise, lists-show-once}
use Rattle.model.proofs.lists_show_once_law.Goals as goal

pub returns-clause-once : goal.returns-clause-once
returns-clause-once c = lists-show-once

pub returns-clause-rise : goal.returns-clause-rise
returns-clause-rise c = lists-rise
