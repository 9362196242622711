use Rattle.store.proofs.PartsOfSteps.{names_unread, names_put, names_not_put}
use Rattle.store.proofs.migrating.name_schema.Goals as goal

pub returns-in_err-meta-clause-named : goal.returns-in_err-meta-clause-named
returns-in_err-meta-clause-named g c = names_unread g.S.Store _ c.args.schema c.requires c.from_residual.ensures c.in_err-meta.ensures

pub returns-in_err-put_meta-clause-named : goal.returns-in_err-put_meta-clause-named
returns-in_err-put_meta-clause-named g c =
    names_not_put g.S.Store c.args.schema c.requires c.in_ok-meta.ensures _ c.from_residual-in_err-put_meta.ensures
    c.in_err-put_meta.ensures.changes

pub returns-clause-named : goal.returns-clause-named
returns-clause-named g c = names_put g.S.Store c.args.schema c.requires c.in_ok-meta.ensures c.args.schema c.in_ok-put_meta.ensures.changes
