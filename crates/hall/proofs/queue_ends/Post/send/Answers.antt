use Rattle.std.proofs.Common.{◌≡◌, ◌+◌, true, length}
use Rattle.crossbeam_channel.specs.Claims.{view}
use Rattle.crossbeam_channel.specs.Ends.{sends_on, ruled_capacity}
use Rattle.hall.specs.Queue.{from, is_open, HasNumber}
use Rattle.hall.proofs.Turns.{sends}
use Rattle.hall.proofs.queue_ends.Post.send.Goals as goal

pub send_as-requires-clause-rule : goal.send_as-requires-clause-rule
send_as-requires-clause-rule g c =
    let v = view c.self.inside.pass in
    let a : v.sends ≡ true = rw c.self.view_is c.requires.sends in
    let b : from c.args.message ≡ v.worker = rw c.self.view_is c.requires.mine in
    let d : is_open v.sent ≡ true = rw c.self.view_is c.requires.stays in
    let e : HasNumber (length v.sent + 1) c.args.message = rw c.self.view_is c.requires.next in
    (sends (ruled_capacity (sends_on c.self.inside.sender)) c.self.inside.pass.id v c.args.message a b d e, λ items views h at. tt)
