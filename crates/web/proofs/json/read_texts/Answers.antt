use Rattle.std.proofs.Common.{arith}
use Rattle.front.specs.Understood.{texts_of}
use Rattle.web.proofs.JsonLemmas.{list_length, read_list}
use Rattle.web.proofs.json.read_texts.Goals as goal

pub returns-then-count-lt1-clause-none : goal.returns-then-count-lt1-clause-none
returns-then-count-lt1-clause-none c = λ texts list.
    let n = list_length c.args.body.now _ c.in-Some-as_array.values.now.items texts
    (rw c.in-Some.is at c.in_ok-value.ensures.some) c.in-Some-as_array.ensures list in
    omega (arith, n, list.some, c.len-count.ensures, c.if-count-lt1.true)

pub returns-then-count-gt-MOST_WORDS-clause-none : goal.returns-then-count-gt-MOST_WORDS-clause-none
returns-then-count-gt-MOST_WORDS-clause-none c = λ texts list.
    let n = list_length c.args.body.now _ c.in-Some-as_array.values.now.items texts
    (rw c.in-Some.is at c.in_ok-value.ensures.some) c.in-Some-as_array.ensures list in
    omega (arith, n, list.few, c.len-count.ensures, c.if-count-gt-MOST_WORDS.true)

pub returns-clause-some : goal.returns-clause-some
returns-clause-some c =
    read_list (λ v. texts_of v.items) c.texts_in.result c.args.body.now _ c.in-Some-as_array.values.now.items
    (rw c.in-Some.is at c.in_ok-value.ensures.some) c.in-Some-as_array.ensures
    (omega (arith, c.len-count.ensures, c.if-count-lt1.false)) (omega (arith, c.len-count.ensures, c.if-count-gt-MOST_WORDS.false))
    (rw c.deref.ensures.value at c.texts_in.ensures.some)
