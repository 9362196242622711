use Rattle.store.specs.Library.{state}
use Rattle.desk.proofs.Results.{on-err}
use Rattle.desk.proofs.Unchanged.{as-left}
use Rattle.desk.proofs.handling.record.Goals as goal

pub returns : goal.returns
returns g c = record {
  ready = c.commit.ensures.ready;
  clean = c.commit.ensures.clean;
  sound = c.commit.ensures.gives.sound;
  done = c.commit.ensures.shown;
  tables = c.commit.ensures.tables;
  failed = λ disk is_open. on-err c.commit.result
      (λ same. as-left (state g.S.Store c.args.store.now) (state g.S.Store c.commit.new.self) same.0 same.1)
      (c.commit.ensures.undone disk is_open);
  left = c.commit.ensures.stop_shown;
}
