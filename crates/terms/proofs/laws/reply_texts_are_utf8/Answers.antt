use Rattle.terms.proofs.Utf8Lemmas as lemmas
use Rattle.terms.proofs.laws.reply_texts_are_utf8.Goals as goal

pub returns : goal.returns
returns c = lemmas.reply_text-IsUtf8
