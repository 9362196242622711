use Rattle.terms.proofs.RequestTextLemmas as lemmas
use Rattle.terms.proofs.laws.request_texts_differ.Goals as goal

pub returns : goal.returns
returns c = lemmas.request_texts_differ
