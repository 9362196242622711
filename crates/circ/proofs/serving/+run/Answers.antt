use Rattle.std.proofs.Common.{rules, ◌≡◌, ◌+◌, ◌<◌, ◌∷◌, ◌++◌, ℕ, true, [], length, sym, ap, ◌∙◌, subst, arith}
use Rattle.std.specs.Arc.{arc_value}
use Rattle.std.proofs.lemmas.List.{length-append}
use Rattle.hall.specs.Serving.{Working, GivesReplies}
use Rattle.circ.specs.Connections.{WorksOrLeaves}
use Rattle.circ.specs.Serving.{TakesPart, AllInTurn}
use Rattle.circ.proofs.Parts.{all-map, all-snoc, all-length, last-worker, joined, at-these, takes-part, others, pushed as pushed-items}
use Rattle.circ.proofs.serving.+run.Goals as goal

pub run-desk-requires-static-C : goal.run-desk-requires-static-C
run-desk-requires-static-C g t c κs within = search rules

pub run-desk-requires-static-R : goal.run-desk-requires-static-R
run-desk-requires-static-R g t c κs within = search rules

pub run-desk-requires-clause-workers : goal.run-desk-requires-clause-workers
run-desk-requires-clause-workers g t c κs within =
    (last-worker c.args.workers.items c.pop.new.self.items c.in-Some-Some.worker c.requires.workers c.in-Some-Some.ensures.items).0

pub returns-clause-replies : goal.returns-clause-replies
returns-clause-replies g t c =
    subst (GivesReplies g.J.Opening.shows g.S.Store c.run-desk.result.desk) (sym (ap (λ b. b.shown) c.take_in-took_part.ensures.same.2)) c.run-desk.ensures.replies

pub returns-clause-parts : goal.returns-clause-parts
returns-clause-parts g t c =
    let clerks = arc_value c.args.clerks.now in
    let worker : Working = c.in-Some-Some.worker in
    let own = c.in-Some-Some.own in
    let rest = c.pop-2.new.self.items in
    let mid = c.run-desk.new.connections.items in
    let now = c.finish-left.result in
    let left : Working = record { post = now.left.post; seen = now.left.sight; closing = now.left.closing; looks = 0 } in
    let taken = c.take_in-took_part in
    let was = c.run-desk.result.ended in
    let same = taken.ensures.same in
    let outer = c.is_whole.result in
    let last = last-worker c.args.workers.items c.pop.new.self.items worker c.requires.workers c.in-Some-Some.ensures.items in
    let k : ℕ = length c.pop.new.self.items + 1 in
    let workers : length c.args.workers.items ≡ k = ap length c.in-Some-Some.ensures.items ∙ length-append c.pop.new.self.items (worker ∷ []) in
    let owns : length c.args.connections.now.items ≡ length rest + 1 = ap length c.in-Some-Some.ensures'.items ∙ length-append rest (own ∷ []) in
    let number : k ≡ 0 + (length rest + 1) = omega (arith, workers, owns, c.requires.fellows) in
    let works : WorksOrLeaves g.C.Connections.comes g.C.Connections.goes g.C.Connections.misses g.C.Reader.Read.remaining g.C.Writer.Write.contents clerks c.args.each now.count own now.connections worker left =
    joined c.start-started.result _ _ _ now
    (λ d. WorksOrLeaves g.C.Connections.comes g.C.Connections.goes g.C.Connections.misses g.C.Reader.Read.remaining g.C.Writer.Write.contents clerks c.args.each d.count own d.connections worker
    (record { post = d.left.post; seen = d.left.sight; closing = d.left.closing; looks = 0 }))
    c.start-started.ensures c.finish-left.ensures
    (λ h a b. at-these (λ clerks' each' own' worker'. WorksOrLeaves g.C.Connections.comes g.C.Connections.goes g.C.Connections.misses g.C.Reader.Read.remaining g.C.Writer.Write.contents clerks' each' now.count own' now.connections worker' left)
    h.promise.clerks.value clerks h.promise.each c.args.each h.promise.connections.value own h.promise.worker.value worker
    a.2 a.3 a.1 a.0 b)
    (λ x e. e) in
    let gone = c.run-desk.ensures.finishes.gone (length c.pop.new.self.items) (omega (arith, workers, c.requires.within)) in
    let whole : outer ≡ true → (taken.result ≡ true) × (now.count ≡ c.args.each) = λ is. ((c.is_whole.ensures is).1, (c.is_whole.ensures is).2) in
    let shown = ap (λ b. b.shown) same.2 in
    let Now = TakesPart g.C.Connections.comes g.C.Connections.goes g.C.Connections.misses g.C.Reader.Read.remaining g.C.Writer.Write.contents clerks c.args.each taken.new.self.handled taken.new.self.heard.got taken.new.self.board.shown outer in
    let mine : Now k own now.connections =
    others g.C.Connections.comes g.C.Connections.goes g.C.Connections.misses g.C.Reader.Read.remaining g.C.Writer.Write.contents clerks c.args.each was.handled was.heard.got was.board.shown taken.new.self.handled taken.new.self.heard.got
    taken.new.self.board.shown outer outer same.0 same.1 shown (λ is. is) k own now.connections
    (takes-part g.C.Connections.comes g.C.Connections.goes g.C.Connections.misses g.C.Reader.Read.remaining g.C.Writer.Write.contents clerks c.args.each was.handled was.heard.got was.board.shown outer taken.result now.count k own now.connections
    worker left last.1 works taken.ensures.first gone taken.ensures.part whole) in
    let before : AllInTurn Now 0 rest mid =
    all-map _ Now
    (λ j x y part. others g.C.Connections.comes g.C.Connections.goes g.C.Connections.misses g.C.Reader.Read.remaining g.C.Writer.Write.contents clerks c.args.each was.handled was.heard.got was.board.shown taken.new.self.handled taken.new.self.heard.got
    taken.new.self.board.shown c.run-desk.result.are_whole outer same.0 same.1 shown (λ is. (c.is_whole.ensures is).0) j x y part)
    0 rest mid c.run-desk.ensures.parts in
    let lengths : length rest ≡ length mid = all-length Now 0 rest mid before in
    let before-pop = c.args.connections.now.ok in
    let before-push = c.run-desk.new.connections.ok in
    let room : c.run-desk.new.connections.len < c.run-desk.new.connections.cap =
    omega (arith, before-pop.0, before-pop.1, before-push.0, owns, lengths, c.in-Some-Some.ensures'.capacity, c.run-desk.ensures.capacity) in
    let pushed : c.push.new.self.items ≡ mid ++ now.connections ∷ [] =
    pushed-items c.push.result c.push.new.self.items (mid ++ now.connections ∷ []) mid (c.push.ensures.succeeds room) c.push.ensures.items in
    subst (λ xs. AllInTurn Now 0 xs c.push.new.self.items) (sym c.in-Some-Some.ensures'.items)
    (subst (λ ys. AllInTurn Now 0 (rest ++ own ∷ []) ys) (sym pushed) (all-snoc Now 0 k rest mid own now.connections before number mine))
