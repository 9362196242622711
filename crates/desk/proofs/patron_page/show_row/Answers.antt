use Rattle.std.proofs.Common.{sym, ◌∙◌, ap}
use Rattle.terms.specs.declared.reply.Reply.TheVariants.{Shown}
use Rattle.desk.proofs.Looking.{gives, fails}
use Rattle.desk.proofs.PageWhole.{page-known}
use Rattle.desk.proofs.patron_page.show_row.Goals as goal

pub returns-in_err-text : goal.returns-in_err-text
returns-in_err-text g c = fails _ c.from_residual.ensures c.in_err-text.ensures (λ H list there. there)

pub returns : goal.returns
returns g c = gives c.in_ok-text.ensures (λ H list there. there) (λ H legal there is owner.
    ap Shown (c.new-page.ensures ∙ is) ∙ sym (page-known H owner c.args.patron c.args.row.now there))
