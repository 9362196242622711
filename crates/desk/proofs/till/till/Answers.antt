use Rattle.std.proofs.Common.{refl, string_bytes}
use Rattle.desk.proofs.Parts.{nothing-front, fault-part, text-told, text-cut}
use Rattle.desk.proofs.TillBatches.{till-learnt}
use Rattle.desk.proofs.WrittenReports.{till-of, stored-read, stored-unwritten}
use Rattle.desk.proofs.till.till.Goals as goal

pub returns-in_err-text : goal.returns-in_err-text
returns-in_err-text g c =
    till-of _ (fault-part _ _ c.from_residual.ensures (till-learnt string_bytes c.in_err-text.ensures) (λ _ _ any. any) (λ H _. nothing-front _)) (λ H. refl)
    (stored-read _ c.from_residual.ensures c.in_err-text.ensures)

pub returns-in_err-write_bytes : goal.returns-in_err-write_bytes
returns-in_err-write_bytes g c =
    till-of _ (text-cut (till-learnt string_bytes c.in_ok-text.ensures) c.as_bytes.ensures.value _
    c.from_residual-in_err-write_bytes.ensures c.in_err-write_bytes.ensures.front) (λ H. refl)
    (λ disk told P shown legal. stored-unwritten _ c.from_residual-in_err-write_bytes.ensures told)

pub returns : goal.returns
returns g c =
    till-of _ (text-told (till-learnt string_bytes c.in_ok-text.ensures) c.as_bytes.ensures.value _ c.in_ok-write_bytes.ensures.all) (λ H. refl)
    (λ disk told P shown legal. let never : ⊥ = cc in absurd never)
