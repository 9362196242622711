-- What a barcode is of: a patron or a copy.
use Rattle.std.specs.Prelude.{ℕ}
use Rattle.terms.specs.declared.row.Thing.{Thing}
use Rattle.terms.specs.declared.row.Thing.TheVariants.{Patron, Copy}

-- 0 for a patron, 1 for a copy
abbrev pub thing_sort : Thing → ℕ
thing_sort (Patron _) = 0
thing_sort (Copy _) = 1

-- the number of the patron or the copy
abbrev pub thing_number : Thing → ℕ
thing_number (Patron patron) = patron
thing_number (Copy copy) = copy
