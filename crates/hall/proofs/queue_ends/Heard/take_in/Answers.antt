use Rattle.std.proofs.Common.{◌≡◌, ◌∙◌, true, false, ap}
use Rattle.crossbeam_channel.specs.Claims.{view}
use Rattle.hall.specs.Queue.{taken_in}
use Rattle.hall.specs.declared.messages.View.{View}
use Rattle.hall.proofs.Turns.{merges, learns, taken_whole}
use Rattle.hall.proofs.queue_ends.Heard.take_in.Goals as goal

pub absorb-requires-clause-rule : goal.absorb-requires-clause-rule
absorb-requires-clause-rule g c =
    let v = view c.self.inside.pass in
    let u = view c.post.inside.pass in
    let a : v.gets ≡ true = ap (λ (x : View). x.gets) c.self.view_is ∙ c.requires.desk.0 in
    let b : v.sends ≡ false = ap (λ (x : View). x.sends) c.self.view_is ∙ c.requires.desk.1 in
    let d : u.sends ≡ true = ap (λ (x : View). x.sends) c.post.view_is ∙ c.requires.worker.0 in
    let e : u.gets ≡ false = ap (λ (x : View). x.gets) c.post.view_is ∙ c.requires.worker.1 in
    merges c.self.inside.pass.id v c.post.inside.pass.id u a b d e

pub learn_as-requires-clause-rule : goal.learn_as-requires-clause-rule
learn_as-requires-clause-rule g c =
    learns c.absorb.new.pass.id (view c.absorb.new.pass)
    (ap (λ (x : View). x.gets) c.absorb.ensures.rule ∙ (ap (λ (x : View). x.gets) c.self.view_is ∙ c.requires.desk.0))

pub returns-clause-whole : goal.returns-clause-whole
returns-clause-whole g c =
    taken_whole c.args.self.now c.args.post (view c.absorb.new.pass)
    (c.absorb.ensures.rule ∙ (ap (λ (x : View). taken_in x (view c.post.inside.pass)) c.self.view_is
    ∙ ap (taken_in c.args.self.now) c.post.view_is)) c.learn_as.ensures.rule
