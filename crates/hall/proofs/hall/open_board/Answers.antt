use Rattle.hall.proofs.Pages.{meets-fault, meets-want, opens-board}
use Rattle.hall.proofs.hall.open_board.Goals as goal

pub returns-in_err-first-clause-looks : goal.returns-in_err-first-clause-looks
returns-in_err-first-clause-looks g c =
    meets-fault g.S.Store c.args.desk.now c.first_pages.new.desk _ _ c.from_residual.result c.from_residual.ensures c.in_err-first.ensures

pub returns-in_err-new-clause-looks : goal.returns-in_err-new-clause-looks
returns-in_err-new-clause-looks g c =
    meets-want g.S.Store c.args.desk.now c.first_pages.new.desk _ c.in_ok-first.first c.from_residual-in_err-new.result
    c.from_residual-in_err-new.ensures c.in_ok-first.ensures

pub returns-clause-board : goal.returns-clause-board
returns-clause-board g c = opens-board g.S.Store c.args.desk.now c.first_pages.new.desk g.J.Naming.book c.in_ok-first.first
    c.in_ok-new.field-0 c.in_ok-new.ensures.0 c.in_ok-new.ensures.1 c.in_ok-new.ensures.2 c.in_ok-first.ensures
