use Rattle.terms.proofs.ReadingLemmas as lemmas
use Rattle.terms.proofs.reading.read_reply.Goals as goal

pub returns-clause-sound : goal.returns-clause-sound
returns-clause-sound c = lemmas.reply_sound c.args.text.now c.find_reply.result c.find_reply.ensures.sound

pub returns-clause-whole : goal.returns-clause-whole
returns-clause-whole c = lemmas.only_reply c.args.text.now c.find_reply.result c.find_reply.ensures.sound c.find_reply.ensures.whole

pub returns-clause-none : goal.returns-clause-none
returns-clause-none c = lemmas.no_reply c.args.text.now c.find_reply.result c.find_reply.ensures.whole
