use Rattle.std.proofs.Common.{◌+◌, ◌∙◌, ap, option_map, inl, inr, refl}
use Rattle.std.specs.Prelude.{Ok, Err}
use Rattle.std.specs.Arc.{arc_value}
use Rattle.terms.specs.declared.fault.Fault.TheVariants.{Memory}
use Rattle.terms.specs.declared.fault.ServiceFault.TheVariants.{Met, Closed}
use Rattle.hall.specs.Serving.{Working, shown_page}
use Rattle.hall.proofs.worker.Worker.answer_from_board.Goals.{in-Ok+in-Ok-page_answer, in-Ok+in-Err, in-Err-Memory, in-Err-Gone}
use Rattle.hall.proofs.worker.Worker.answer_from_board.Goals as goal

pub returns-clause-told : goal.returns-clause-told
returns-clause-told g c =
    let shown = option_map (λ k. k.now) c.args.shown in
    elim c.match-page.branch [
      | in-Ok+in-Ok-page_answer w ↦
          record {
            outcome = Ok (shown_page (option_map arc_value w.in-Ok.page) shown);
            answer_is = w.result-is ∙ w.in-Ok-page_answer.ensures;
            reply =
                record {
                  look = w.in-Ok.ensures.look ∙ ap (λ n. n + 1) (ap (λ (x : Working). x.looks) c.self.view_is);
                  looked = w.in-Ok.ensures.looked;
                  reply_is = ap (λ o. shown_page o shown) w.in-Ok.ensures.page;
                };
            fault = tt;
          }
      | in-Ok+in-Err w ↦ record { outcome = Err (Met Memory); answer_is = w.result-is; reply = tt; fault = inl refl }
      | in-Err-Memory w ↦ record { outcome = Err (Met Memory); answer_is = w.result-is; reply = tt; fault = inl refl }
      | in-Err-Gone w ↦ record { outcome = Err Closed; answer_is = w.result-is; reply = tt; fault = inr refl }
    ]
