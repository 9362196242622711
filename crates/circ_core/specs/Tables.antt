-- The tables after row changes.
use Rattle.std.specs.Prelude.{◌≡◌, true, false, List, [], ◌∷◌, Option, Some, None}
use Rattle.terms.specs.Pictures.{Picture, put, put_pair, put_thing}
use Rattle.circ_core.specs.declared.changes.RowChange.{RowChange}
use Rattle.circ_core.specs.declared.changes.RowChange.TheVariants.{PutMeta, PutBranch, PutClosedDay, TakeClosedDay, PutKind, PutRule}
use Rattle.circ_core.specs.declared.changes.RowChange.TheVariants.{PutPatron, PutTitle, PutCopy, PutLoan, PutHold, PutTransit, TakeTransit}
use Rattle.circ_core.specs.declared.changes.RowChange.TheVariants.{PutLine}
use Rattle.circ_core.specs.declared.changes.RowChange.TheVariants.{PutBarcode, TakeBarcode, PutNote}

-- The tables after one change: one row of one table is put whole, or removed, by its key.
abbrev pub change : RowChange → Picture → Picture
change (PutMeta r) P = record P { meta = r }
change (PutBranch r) P = record P { branches = put P.branches r.branch (Some r) }
change (PutClosedDay branch day) P = record P { closed_days = put_pair P.closed_days branch day true }
change (TakeClosedDay branch day) P = record P { closed_days = put_pair P.closed_days branch day false }
change (PutKind r) P = record P { kinds = put P.kinds r.kind (Some r) }
change (PutRule r) P = record P { rules = put_pair P.rules r.kind r.copy_kind (Some r) }
change (PutPatron r) P = record P { patrons = put P.patrons r.patron (Some r) }
change (PutTitle r) P = record P { titles = put P.titles r.title (Some r) }
change (PutCopy r) P = record P { copies = put P.copies r.copy (Some r) }
change (PutLoan r) P = record P { loans = put P.loans r.loan (Some r) }
change (PutHold r) P = record P { holds = put P.holds r.hold (Some r) }
change (PutTransit r) P = record P { transits = put P.transits r.copy (Some r) }
change (TakeTransit copy) P = record P { transits = put P.transits copy None }
change (PutLine r) P = record P { lines = put P.lines r.line (Some r) }
change (PutBarcode r) P = record P { barcodes = put_thing P.barcodes r.thing (Some r) }
change (TakeBarcode thing) P = record P { barcodes = put_thing P.barcodes thing None }
change (PutNote r) P = record P { notes = put P.notes r.line (Some r) }

-- The tables after the changes, in order.
abbrev pub changed : List RowChange → Picture → Picture
changed [] P = P
changed (x ∷ xs) P = changed xs (change x P)

-- The tables hold the same rows, except those of kept requests.
abbrev pub SameRows : Picture → Picture → Type 0
SameRows P Q = record P { kept = Q.kept } ≡ Q

-- Rows that are put unless one exists already.
abbrev pub rows_unless : {A : Type 0} → Option A → List RowChange → List RowChange
rows_unless (Some row) rows = []
rows_unless None rows = rows
