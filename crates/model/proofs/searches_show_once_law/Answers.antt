use Rattle.model.proofs.Searching.{searches-show-once, searches-show-found, searches-go-on}
use Rattle.model.proofs.searches_show_once_law.Goals as goal

pub returns-clause-once : goal.returns-clause-once
returns-clause-once c = searches-show-once

pub returns-clause-found : goal.returns-clause-found
returns-clause-found c = searches-show-found

pub returns-clause-on : goal.returns-clause-on
returns-clause-on c = searches-go-on
