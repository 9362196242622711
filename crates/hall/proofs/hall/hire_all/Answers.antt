use Rattle.std.proofs.Common.{◌∙◌, ap, sym, subst, rules}
use Rattle.std.specs.Prelude.{All}
use Rattle.std.proofs.lemmas.List.Elements.{All-push}
use Rattle.hall.specs.Serving.{IsNew}
use Rattle.hall.specs.Queue.{worker_view}
use Rattle.hall.proofs.Hiring.{hired, still-hearing}
use Rattle.hall.proofs.hall.hire_all.Goals as goal

pub loop-k-preserved : goal.loop-k-preserved
loop-k-preserved g c =
    let i = c.loop-k.invariant in
    let s = still-hearing c.loop-k.inbox c.hire.new.inbox c.in_ok-post.ensures.1 i.hearing i.fresh c.loop-k.k i.made in
    record {
      hearing = s.0;
      fresh = s.1;
      made = s.2;
      all = hired c.loop-k.k c.loop-k.all.items c.push.new.self.items c.in_ok-hired.hired i.all
          (c.in_ok-hired.ensures.post ∙ ap worker_view (search rules)) c.in_ok-push.ensures.items;
      new = subst (All (IsNew c.args.closing.now)) (sym c.in_ok-push.ensures.items)
          (All-push (IsNew c.args.closing.now) c.loop-k.all.items c.in_ok-hired.hired i.new (search rules));
    }
