use Rattle.std.proofs.Common.{Bool, ◌++◌, sym, ◌∙◌, subst, rules}
use Rattle.std.specs.Prelude.{Ok, if◌then◌else◌}
use Rattle.desk.proofs.Looking.{on-err-any}
use Rattle.std.proofs.KnownBytes.{Appends-trans}
use Rattle.terms.proofs.Fronts.{failed-first, front-after}
use Rattle.terms.specs.declared.writing.WriteFault.{WriteFault}
use Rattle.circ.specs.Lines.{EndsWith, sound_line, finding_lines, doubled_lines, old_lines}
use Rattle.circ.specs.declared.lines.Exit.TheVariants.{Done, Refused}
use Rattle.circ.proofs.lines.tell_all.Goals as goal

pub returns-then-is_nothing : goal.returns-then-is_nothing
returns-then-is_nothing g c =
    subst (λ (b : Bool). EndsWith {E = WriteFault} (if b then Done else Refused)
    (if b then sound_line else ((finding_lines c.args.broken.now ++ doubled_lines c.args.doubled.now) ++ old_lines c.args.old.now))
    (g.W.Write.contents c.args.writer.now) (g.W.Write.contents c.tell_sound.new.writer) c.tell_sound.result)
    (sym (sym c.is_nothing.ensures ∙ c.if-is_nothing.true)) c.tell_sound.ensures

pub returns-in_err-write_all_broken : goal.returns-in_err-write_all_broken
returns-in_err-write_all_broken g c =
    subst (λ (b : Bool). EndsWith {E = WriteFault} (if b then Done else Refused)
    (if b then sound_line else ((finding_lines c.args.broken.now ++ doubled_lines c.args.doubled.now) ++ old_lines c.args.old.now))
    (g.W.Write.contents c.args.writer.now) (g.W.Write.contents c.write_all_broken.new.writer) c.from_residual.result)
    (sym (sym c.is_nothing.ensures ∙ c.if-is_nothing.false)) (record {
      exit_is = search rules;
      writes = record { all = search rules; front = failed-first c.from_residual.result _ _ _ _ c.in_err-write_all_broken.ensures.front };
    })

pub returns-in_err-write_old : goal.returns-in_err-write_old
returns-in_err-write_old g c =
    subst (λ (b : Bool). EndsWith {E = WriteFault} (if b then Done else Refused)
    (if b then sound_line else ((finding_lines c.args.broken.now ++ doubled_lines c.args.doubled.now) ++ old_lines c.args.old.now))
    (g.W.Write.contents c.args.writer.now) (g.W.Write.contents c.write_old.new.writer) c.from_residual-in_err-write_old.result)
    (sym (sym c.is_nothing.ensures ∙ c.if-is_nothing.false)) (record {
      exit_is = search rules;
      writes = record {
        all = search rules;
        front = on-err-any c.from_residual-in_err-write_old.result
            (front-after _ _ _ _ _ c.in_ok-write_all_broken.ensures.all c.in_err-write_old.ensures.front);
      };
    })

pub returns : goal.returns
returns g c =
    subst (λ (b : Bool). EndsWith {E = WriteFault} (if b then Done else Refused)
    (if b then sound_line else ((finding_lines c.args.broken.now ++ doubled_lines c.args.doubled.now) ++ old_lines c.args.old.now))
    (g.W.Write.contents c.args.writer.now) (g.W.Write.contents c.write_old.new.writer) (Ok Refused))
    (sym (sym c.is_nothing.ensures ∙ c.if-is_nothing.false)) (record {
      exit_is = search rules;
      writes = record {
        all = Appends-trans _ _ _ _ _ c.in_ok-write_all_broken.ensures.all c.in_ok-write_old.ensures.all;
        front = search rules;
      };
    })
