use Rattle.std.proofs.Common.{◌≡◌, List, Result, Ok, Err, MatchResult, drop, fold, sym, ap, ◌∙◌, subst}
use Rattle.std.specs.Arc.{arc_value}
use Rattle.left_right.specs.Sides.{view}
use Rattle.chronicle.specs.Growing.{Known}
use Rattle.board.specs.declared.board.Update.{Update}
use Rattle.board.specs.declared.entry.Entry.{Entry}
use Rattle.board.specs.declared.entry.Frame.{Frame}
use Rattle.board.specs.declared.entry.Seen.{Seen}
use Rattle.desk.specs.declared.showing.OwnPage.{OwnPage}
use Rattle.board.specs.Rule.{ShowsAll, Publishing, pages_of, are_pages}
use Rattle.board.specs.Showing.{Showing, ShowsMore, seen_of, updated, with_entry}
use Rattle.board.proofs.Keeping.{frames_next, publishes, shows-all-next, more-next}
use Rattle.board.proofs.Turning.{MayTurn, may-turn, turned}
use Rattle.board.proofs.publisher.Publisher.publish.Goals as goal
use Rattle.std.proofs.Common.{ℕ}

-- what holds of a result that is there
met : {A E : Type 0} (P : A → Type 0) (Q : E → Type 0) (r : Result A E) (x : A) → r ≡ Ok x → MatchResult r P Q → P x
met P Q (Ok y) x e h = let same : y ≡ x = cc in subst P same h
met P Q (Err z) x e h = let never : ⊥ = cc in absurd never

pub publish_as-writer-requires : goal.publish_as-writer-requires
publish_as-writer-requires g c next is =
    let k = c.append.new.self.desk in
    let o = c.self.inside.writer in
    let us : List Update = drop o.behind o.log.items in
    let e : Entry = c.args.entry in
    let x : Showing = k.shown.value in
    let inv = c.self.invariant in
    let may : MayTurn x us e c.add.new.whole =
    may-turn x o.desk.shown.value us (arc_value c.in-Ok.entry) e g.J.Naming.book c.self.inside.chronicle c.self.inside.frames
    c.again-next.result c.add.new.whole c.args.self.shown
    (ap (λ d. d.shown.value) c.in-Ok-append.ensures.desk) inv.0 inv.1 inv.2 inv.3 inv.4
    (ap (λ (s : Publishing). s.shown) c.self.view_is) c.requires c.again-next.ensures c.in-Ok.ensures.ok c.add.ensures in
    let now : next ≡ with_entry (fold updated x us) e (frames_next x us e) =
    turned x next us _ c.in-Ok.entry e c.again.result c.add.new.whole may c.in-Ok.ensures.ok c.again.ensures
    c.in-Ok-append.ensures.pending is in
    publishes x next us e may.pages now g.J.Naming.book k.place.id (view k.place) may.may

pub invariant_of-result : goal.invariant_of-result
invariant_of-result g c =
    let k = c.append.new.self.desk in
    let o = c.self.inside.writer in
    let us : List Update = drop o.behind o.log.items in
    let e : Entry = c.args.entry in
    let x : Showing = k.shown.value in
    let inv = c.self.invariant in
    let may : MayTurn x us e c.add.new.whole =
    may-turn x o.desk.shown.value us (arc_value c.in-Ok.entry) e g.J.Naming.book c.self.inside.chronicle c.self.inside.frames
    c.again-next.result c.add.new.whole c.args.self.shown
    (ap (λ d. d.shown.value) c.in-Ok-append.ensures.desk) inv.0 inv.1 inv.2 inv.3 inv.4
    (ap (λ (s : Publishing). s.shown) c.self.view_is) c.requires c.again-next.ensures c.in-Ok.ensures.ok c.add.ensures in
    let n = c.publish_as-writer.result.0 in
    let y : Showing = n.desk.shown.value in
    let values = met _ _ c.publish_as-writer.result.1 c.in-Ok-met.field-0 c.in-Ok-met.is c.publish_as-writer.ensures.values in
    let now : y ≡ with_entry (fold updated x us) e (frames_next x us e) =
    turned x y us _ c.in-Ok.entry e c.again.result c.add.new.whole may c.in-Ok.ensures.ok c.again.ensures c.in-Ok-append.ensures.pending
    values.0 in
    let frames : y.frames ≡ c.add.new.whole = ap (λ (z : Showing). z.frames) now ∙ sym may.whole_is in (
      subst (λ (f : Known Frame). ShowsAll (seen_of f.items) y) frames (shows-all-next x y us e may.pages now may.shows may.may),
      frames,
      ap are_pages values.1,
      inv.3,
      ap (λ (f : Known Frame). f.book) c.add.ensures ∙ inv.3,
      inv.5,
    )

pub returns-in-Ok-met : goal.returns-in-Ok-met
returns-in-Ok-met g c =
    let k = c.append.new.self.desk in
    let o = c.self.inside.writer in
    let us : List Update = drop o.behind o.log.items in
    let e : Entry = c.args.entry in
    let x : Showing = k.shown.value in
    let inv = c.self.invariant in
    let may : MayTurn x us e c.add.new.whole =
    may-turn x o.desk.shown.value us (arc_value c.in-Ok.entry) e g.J.Naming.book c.self.inside.chronicle c.self.inside.frames
    c.again-next.result c.add.new.whole c.args.self.shown
    (ap (λ d. d.shown.value) c.in-Ok-append.ensures.desk) inv.0 inv.1 inv.2 inv.3 inv.4
    (ap (λ (s : Publishing). s.shown) c.self.view_is) c.requires c.again-next.ensures c.in-Ok.ensures.ok c.add.ensures in
    let n = c.publish_as-writer.result.0 in
    let y : Showing = n.desk.shown.value in
    let values = met _ _ c.publish_as-writer.result.1 c.in-Ok-met.field-0 c.in-Ok-met.is c.publish_as-writer.ensures.values in
    let now : y ≡ with_entry (fold updated x us) e (frames_next x us e) =
    turned x y us _ c.in-Ok.entry e c.again.result c.add.new.whole may c.in-Ok.ensures.ok c.again.ensures c.in-Ok-append.ensures.pending
    values.0 in
    let frames : y.frames ≡ c.add.new.whole = ap (λ (z : Showing). z.frames) now ∙ sym may.whole_is in
    let old : seen_of x.frames.items ≡ c.args.self.shown = ap (λ (z : Showing). seen_of z.frames.items) (ap (λ d. d.shown.value) c.in-Ok-append.ensures.desk)
    ∙ (ap (λ (f : Known Frame). seen_of f.items) inv.1 ∙ ap (λ (s : Publishing). s.shown) c.self.view_is) in
    let put : pages_of us ≡ c.args.self.pages = ap (λ (s : Publishing). s.pages) c.self.view_is in
    let more = more-next x y us e may.pages now may.shows in
    let here : ShowsMore c.args.self.shown c.args.self.pages e (seen_of y.frames.items) =
    subst (λ (s : Seen). ShowsMore s c.args.self.pages e (seen_of y.frames.items)) old
    (subst (λ (p : List (ℕ × OwnPage)). ShowsMore (seen_of x.frames.items) p e (seen_of y.frames.items)) put more) in
    (subst (λ (f : Known Frame). ShowsMore c.args.self.shown c.args.self.pages e (seen_of f.items)) frames here, ap pages_of values.1)
