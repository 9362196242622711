use Rattle.std.proofs.Common.{◌≡◌, [], ◌∷◌, ◌++◌, map, refl, rules, subst, sym}
use Rattle.std.specs.Prelude.{Option, None, Result, Ok, Err, IsSome, MatchResult}
use Rattle.store.specs.Library.{Ghosts, Held}
use Rattle.terms.specs.declared.fault.ServiceFault.{ServiceFault}
use Rattle.model.specs.History.{History}
use Rattle.board.specs.Rule.{Publishing, Stopped}
use Rattle.hall.specs.declared.messages.Submission.{Submission}
use Rattle.hall.specs.Handling.{AreShown, ShowsNext, submission_of}
use Rattle.hall.specs.Openings.{ToldBy}
use Rattle.hall.proofs.Closings.{told-open, told-closed}
use Rattle.hall.proofs.desk_side.Handling.take_next.Goals as goal

shows-by : {S : Type 0} (lists : History → Type 0) (g : Ghosts S) (desk : Held S) (old : Publishing) (r : Result Publishing Stopped)
    (s : Submission) (fault : Option ServiceFault)
    → MatchResult r (λ (p : Publishing). (fault ≡ None) × (p.pages ≡ [])
    × AreShown p.shown.entries (map submission_of old.shown.entries ++ s ∷ []) × ToldBy lists g desk p.shown)
    (λ (b : Stopped). IsSome fault × (b.shown ≡ old.shown))
    → ShowsNext lists g desk (Ok old) r s fault
shows-by lists g desk old (Ok p) s fault shown = shown
shows-by lists g desk old (Err b) s fault shown = shown

pub returns-in-Ok-clause-shown : goal.returns-in-Ok-clause-shown
returns-in-Ok-clause-shown g c =
    subst (λ (board : Result Publishing Stopped). ShowsNext g.J.Opening.shows g.S.Store c.handle_next.new.self.desk board
    c.handle_next.result c.args.submission c.handle_next.new.self.fault) (sym c.in-Ok.is)
    (shows-by g.J.Opening.shows g.S.Store c.handle_next.new.self.desk c.in-Ok.publisher c.handle_next.result c.args.submission
    c.handle_next.new.self.fault c.handle_next.ensures.shown)

pub returns-in-Ok-clause-told : goal.returns-in-Ok-clause-told
returns-in-Ok-clause-told g c =
    told-open c.args.submission c.args.self.now.handled c.handle_next.new.self.handled c.args.self.now.fault
    c.handle_next.new.self.fault c.args.self.now.teller c.handle_next.new.self.teller (search rules) (search rules) c.handle_next.ensures.told

pub returns-in-Err-clause-told : goal.returns-in-Err-clause-told
returns-in-Err-clause-told g c =
    told-closed c.args.submission c.args.self.now.handled c.args.self.now.handled c.args.self.now.fault
    c.args.self.now.fault c.args.self.now.teller c.args.self.now.teller (search rules) refl
