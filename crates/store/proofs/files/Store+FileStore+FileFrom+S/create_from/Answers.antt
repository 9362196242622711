use Rattle.sqlite.specs.WalFiles.{image_at}
use Rattle.store.proofs.FileLemmas.{created_over}
use Rattle.store.proofs.files.Store+FileStore+FileFrom+S.create_from.Goals as goal

pub returns-clause-created : goal.returns-clause-created
returns-clause-created g c = created_over _ (image_at g.S.Start) _ _ c.in_ok-fresh.ensures.connects c.in_ok-store.ensures.created
