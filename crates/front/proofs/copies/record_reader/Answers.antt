use Rattle.std.proofs.Common.{◌∙◌, inr}
use Rattle.front.proofs.copies.record_reader.Goals as goal

pub returns-clause-plain : goal.returns-clause-plain
returns-clause-plain g c =
    let file = c.from_reader.ensures in
    let h = c.has_headers.ensures in
    let f = c.flexible.ensures in
    record {
      untrimmed = rw (f, h) at file.trim ∙ c.new.ensures.trim;
      ready = inr (inr (rw (f, h) at file.has_headers, file.headers));
      config = rw (f, h) at file.config ∙ c.new.ensures.config;
    }
