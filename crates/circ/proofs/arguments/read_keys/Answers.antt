use Rattle.std.proofs.Common.{◌≡◌, length, rules, arith}
use Rattle.std.proofs.lemmas.Str.Pattern.{strip_prefix_char}
use Rattle.circ.proofs.Keys.{at-none, word-none}
use Rattle.circ.proofs.arguments.read_keys.Goals as goal

pub returns-in-Some : goal.returns-in-Some
returns-in-Some c =
    let begins = rw c.in-Some.is at (strip_prefix_char 64 _ _ c.strip_prefix.ensures.cases (omega arith)) in
    let empty : length c.in-Some.path.now ≡ 0 = search rules in
    at-none c.args.word.now c.in-Some.path.now begins empty

pub returns-in-None-2 : goal.returns-in-None-2
returns-in-None-2 c =
    word-none c.args.word.now (rw c.in-None-2.is at c.in_ok-key-in-None.ensures) (rw c.in-None.is at (strip_prefix_char 64 _ _ c.strip_prefix.ensures.cases (omega arith)))
