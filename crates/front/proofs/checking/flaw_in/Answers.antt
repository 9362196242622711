use Rattle.std.proofs.Common.{◌≡◌, refl, true, rules}
use Rattle.std.specs.Prelude.{IsUtf8}
use Rattle.csv.specs.Records.{fields_of}
use Rattle.front.proofs.CopyRows.{no_text}
use Rattle.front.proofs.checking.flaw_in.Goals as goal

pub returns-in-Some-text_at : goal.returns-in-Some-text_at
returns-in-Some-text_at c =
    let text = c.in-Some-text_at.text.now in
    let closed : c.is_word_at.result ≡ true = search rules in
    let utf8 : IsUtf8 text = search rules in
    let numbers = c.in_default.ensures.none in (
      text,
      c.in-Some-text_at.ensures.some,
      refl,
      no_text (fields_of c.args.fields.now) text c.requires.bad (search rules) (c.is_word_at.ensures.0 closed)
          numbers c.in-Some-text_at.ensures.some utf8,
    )
