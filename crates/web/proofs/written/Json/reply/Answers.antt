use Rattle.std.proofs.Common.{◌≡◌, codes, rules, ◌∙◌, ap, refl}
use Rattle.serde_json.specs.Data.{string, object, member, no_members}
use Rattle.serde_json.specs.Written.{compact_text}
use Rattle.serde_json.specs.View.{view}
use Rattle.serde_json.specs.declared.value.Value.{the_lemmas}
use Rattle.web.specs.Answers.{one_member}
use Rattle.web.proofs.written.Json.reply.Goals as goal

pub returns : goal.returns
unfolding one_member
returns c =
    let built : view c.in_ok-json.field-0 ≡ object (member (codes "reply") (string c.args.text.now) no_members) = search (rules, the_lemmas) in
    c.in_ok-text.ensures.text (rw built refl) ∙ ap compact_text built
