use Rattle.terms.proofs.ReplyTextLemmas as lemmas
use Rattle.terms.proofs.laws.reply_texts_differ.Goals as goal

pub returns : goal.returns
returns c = lemmas.reply_texts_differ
