use Rattle.std.proofs.Common.{◌≡◌, rules}
use Rattle.serde_json.specs.Data.{array}
use Rattle.serde_json.specs.View.{view, items_view}
use Rattle.serde_json.specs.declared.value.Value.{Array, the_lemmas}
use Rattle.web.proofs.JsonLemmas.{listed_text}
use Rattle.web.proofs.written.Json.words.Goals as goal

pub returns : goal.returns
returns c =
    let built : view (Array c.in_ok-word_values.field-0) ≡ array (items_view c.in_ok-word_values.field-0.items) = search (rules, the_lemmas) in
    listed_text _ _ _ _ built c.in_ok-word_values.ensures c.in_ok-text.ensures.text
