use Rattle.std.proofs.Common.{◌≡◌, map, take, string_bytes, String}
use Rattle.std.specs.declared.alloc.Global.{Global}
use Rattle.serde_json.specs.Data.{string}
use Rattle.serde_json.specs.View.{view}
use Rattle.web.proofs.written.word_values.Given as goal

abbrev pub invariant-loop-word : goal.invariant-loop-word
invariant-loop-word l = map view l.values.items ≡ map (λ (w : String Global). string (string_bytes w)) (take l.word-index l.words)
