use Rattle.sqlite.specs.Files.{image_of}
use Rattle.store.proofs.FileLemmas.{created_over}
use Rattle.store.proofs.files.Store+FileStore+D.create_files.Goals as goal

pub returns-clause-created : goal.returns-clause-created
returns-clause-created g c = created_over _ (image_of g.D.Disk c.args.files) _ _ c.in_ok-blank.ensures.connects c.in_ok-store.ensures.created
