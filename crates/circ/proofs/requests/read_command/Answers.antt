use Rattle.std.proofs.Common.{rules}
use Rattle.front.specs.Understood.{texts_of}
use Rattle.circ.proofs.Said.{understood-alone}
use Rattle.circ.proofs.requests.read_command.Goals as goal

pub returns : goal.returns
returns c = record {
  understood = search rules;
  only = understood-alone c.request_texts_differ.ensures (texts_of c.args.words.now) c.read_words.result c.read_words.ensures.understood;
  none = search rules;
}
