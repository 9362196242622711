use Rattle.terms.proofs.Utf8Lemmas as lemmas
use Rattle.terms.proofs.laws.request_texts_are_utf8.Goals as goal

pub returns : goal.returns
returns c = lemmas.request_text-IsUtf8
