use Rattle.std.proofs.Common.{sym, ◌∙◌, ap, length}
use Rattle.chronicle.proofs.Adding.{adds_moves}
use Rattle.chronicle.proofs.chronicle.Chronicle.try_add.Goals as goal

pub compare_exchange-found-requires : goal.compare_exchange-found-requires
compare_exchange-found-requires g c =
    let h = c.self.invariant in
    let offer = c.plain-offer.ensures in
    let pen = c.no_pen-pen.ensures in
    let seen = c.again-seen.ensures in
    let book = ap (λ s. s.book) seen ∙ (ap (λ k. k.book) c.whole.view_is ∙ (c.requires.list ∙ sym c.self.view_is)) in
    let long = ap (λ s. length s.log) seen ∙ (ap (λ k. length k.items) c.whole.view_is ∙ sym c.len-count.ensures) in (
      ap (λ w. w.tracked) h,
      book,
      pen.0 ∙ book,
      offer.0,
      rw (ap (λ w. w.key) h, pen.1, offer.1, offer.3) (adds_moves c.again-seen.result.log (g.I.Item.item c.args.about.now) c.len-count.result long),
    )
