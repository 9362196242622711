use Rattle.std.proofs.Common.{rules, ◌≡◌, ℕ, List, [], ◌∷◌, true, false, sym, ◌∙◌, ap, subst}
use Rattle.store.specs.Library.{state}
use Rattle.store.specs.Stops.{KeepsPicture}
use Rattle.terms.specs.Callers.{owner_of}
use Rattle.model.specs.History.{History}
use Rattle.model.specs.Picture.{picture}
use Rattle.model.specs.Requests.{is_known, is_allowed, only_asks, may_send, after_one}
use Rattle.model.proofs.Runs.{after_one-legal, after-forms}
use Rattle.desk.specs.Answering.{LeavesOneOf, Shows, after_key}
use Rattle.model.specs.Answers.{answer}
use Rattle.desk.proofs.Handled.{allowed-both, not-page, reply-key, after-key, reply-page, after-page}
use Rattle.desk.proofs.Looking.{if-ok-is, if-ok-given, on-err, on-ok, on-ok-any, on-ok-is, leaves-first}
use Rattle.desk.proofs.Unchanged.{any-nothing, any-after, any-undone, nothing-then, nothing-after, used-as}
use Rattle.desk.proofs.Owning.{known-owner}
use Rattle.desk.proofs.Untouched.{others-as, others-same}
use Rattle.desk.specs.Touching.{IsAmong}
use Rattle.desk.proofs.TitleReaders.{among-none}
use Rattle.desk.proofs.handling.handle_touching.Goals as goal

pub respond-requires : goal.respond-requires
respond-requires g c = record {
  command = not-page c.args.request.now.command c.in_default.not-Page c.in_default-command.not-Ask;
  blank = c.requires.blank;
}

pub returns-clause-handled : goal.returns-clause-handled
returns-clause-handled g c = record {
  foreign = search rules;
  clean = search rules;
  replied = λ disk. if-ok-is _ c.respond.result (λ reply is H shows.
      let r = c.args.request.now in
      let first = c.respond.ensures.answered.clean disk in
      let known : is_known H r.caller ≡ true = sym (c.in_ok-is_known.ensures.shown first H shows tt) ∙ c.if-not-branch.false in
      let may : may_send (owner_of r.caller) r.command ≡ true = rw c.owner.ensures at (sym c.may_send.ensures ∙ c.if-not-may_send.false) in
      let allowed : is_allowed H r.caller r.command ≡ true = allowed-both H r.caller r.command known may in
      let page : only_asks r.command ≡ false = not-page r.command c.in_default.not-Page c.in_default-command.not-Ask in
      let mid = c.in_ok-is_known.ensures.looks.stays first H shows in
      let done = if-ok-given _ c.respond.result (c.respond.ensures.answered.replied disk) reply is
      (known-owner H shows.legal shows.forms r.caller known) H mid may in (
        done.0 ∙ sym (reply-key H r allowed page),
        record {
          legal = after_one-legal H r shows.legal;
          forms = after-forms (r ∷ []) H shows.forms (c.has_forms.ensures.0, c.has_forms.ensures.1, tt);
          tables = subst (λ (K : History). KeepsPicture (state g.S.Store c.respond.new.store) (picture K)) (sym (after-key H r allowed page)) done.1;
        },
      ));
  sound = λ disk stored H shows.
      let r = c.args.request.now in
      let first = c.respond.ensures.answered.clean disk in
      let known : is_known H r.caller ≡ true = sym (c.in_ok-is_known.ensures.shown first H shows tt) ∙ c.if-not-branch.false in
      let may : may_send (owner_of r.caller) r.command ≡ true = rw c.owner.ensures at (sym c.may_send.ensures ∙ c.if-not-may_send.false) in
      c.respond.ensures.answered.sound disk (known-owner H shows.legal shows.forms r.caller known) stored H
      (c.in_ok-is_known.ensures.looks.stays first H shows) may;
  undone = any-undone g.S.Store c.args.store.now c.respond.new.store c.respond.result
      (any-after g.S.Store c.args.store.now c.is_known.new.store c.respond.new.store _ c.respond.result c.respond.ensures.answered.clean
      c.in_ok-is_known.ensures.looks.nothing c.respond.ensures.any);
  any = any-after g.S.Store c.args.store.now c.is_known.new.store c.respond.new.store _ c.respond.result c.respond.ensures.answered.clean
      c.in_ok-is_known.ensures.looks.nothing c.respond.ensures.any;
  asks = λ only.
      let page : only_asks c.args.request.now.command ≡ false =
      not-page c.args.request.now.command c.in_default.not-Page c.in_default-command.not-Ask in
      let never : ⊥ = cc in absurd never;
  repeats = λ used. nothing-after (state g.S.Store c.args.store.now) (state g.S.Store c.is_known.new.store)
      (state g.S.Store c.respond.new.store) _ c.respond.result c.respond.ensures.answered.clean
      c.in_ok-is_known.ensures.looks.nothing c.respond.ensures.any.ready
      (λ same. c.respond.ensures.repeats (used-as (owner_of c.args.request.now.caller) c.args.request.now.key
      (state g.S.Store c.args.store.now) (state g.S.Store c.is_known.new.store) same used));
  left = λ disk H shows.
      let r = c.args.request.now in
      let first = c.respond.ensures.answered.clean disk in
      let known : is_known H r.caller ≡ true = sym (c.in_ok-is_known.ensures.shown first H shows tt) ∙ c.if-not-branch.false in
      let may : may_send (owner_of r.caller) r.command ≡ true = rw c.owner.ensures at (sym c.may_send.ensures ∙ c.if-not-may_send.false) in
      let allowed : is_allowed H r.caller r.command ≡ true = allowed-both H r.caller r.command known may in
      let page : only_asks r.command ≡ false = not-page r.command c.in_default.not-Page c.in_default-command.not-Ask in
      let mid = c.in_ok-is_known.ensures.looks.stays first H shows in
      subst (λ (K : History). LeavesOneOf (state g.S.Store c.respond.new.store) H K) (sym (after-key H r allowed page))
      (c.respond.ensures.answered.left disk (known-owner H shows.legal shows.forms r.caller known) H mid may);
}

pub returns-clause-touches : goal.returns-clause-touches
returns-clause-touches g c = λ disk. if-ok-is _ c.respond.result (λ reply is H shows.
    let r = c.args.request.now in
    let first = c.respond.ensures.answered.clean disk in
    let known : is_known H r.caller ≡ true = sym (c.in_ok-is_known.ensures.shown first H shows tt) ∙ c.if-not-branch.false in
    let may : may_send (owner_of r.caller) r.command ≡ true = rw c.owner.ensures at (sym c.may_send.ensures ∙ c.if-not-may_send.false) in
    let allowed : is_allowed H r.caller r.command ≡ true = allowed-both H r.caller r.command known may in
    let page : only_asks r.command ≡ false = not-page r.command c.in_default.not-Page c.in_default-command.not-Ask in
    let mid = c.in_ok-is_known.ensures.looks.stays first H shows in
    let done = if-ok-given _ c.respond.result (c.respond.ensures.answered.replied disk) reply is
    (known-owner H shows.legal shows.forms r.caller known) H mid may in
    others-as c.respond.new.touched H (after_one H r) (after_key H r) (after-key H r allowed page) done.2)

pub returns-clause-named : goal.returns-clause-named
returns-clause-named g c = λ disk. on-ok c.respond.result
    (λ named H shows unit p among.
    let r = c.args.request.now in
    let first = c.respond.ensures.answered.clean disk in
    let known : is_known H r.caller ≡ true = sym (c.in_ok-is_known.ensures.shown first H shows tt) ∙ c.if-not-branch.false in
    let may : may_send (owner_of r.caller) r.command ≡ true = rw c.owner.ensures at (sym c.may_send.ensures ∙ c.if-not-may_send.false) in
    let mid = c.in_ok-is_known.ensures.looks.stays first H shows in
    named H mid (known-owner H shows.legal shows.forms r.caller known, may) p among)
    (c.respond.ensures.named disk)

pub returns-in-Page-clause-named : goal.returns-in-Page-clause-named
returns-in-Page-clause-named g c = λ disk. on-ok-any c.show.result
    (λ H shows unit p among. among-none p (subst (λ (ps : List ℕ). IsAmong ps p) c.requires.blank among))

pub returns-in-Ask-clause-named : goal.returns-in-Ask-clause-named
returns-in-Ask-clause-named g c = λ disk. on-ok-any c.reply_to_question.result
    (λ H shows unit p among. among-none p (subst (λ (ps : List ℕ). IsAmong ps p) c.requires.blank among))

pub returns-in-Page-clause-handled : goal.returns-in-Page-clause-handled
returns-in-Page-clause-handled g c = record {
  foreign = search rules;
  clean = search rules;
  replied = λ disk. if-ok-is _ c.show.result (λ reply is H shows.
      let r = c.args.request.now in
      let first = c.show.ensures.looks.clean disk in
      let known : is_known H r.caller ≡ true = sym (c.in_ok-is_known.ensures.shown first H shows tt) ∙ c.if-not-branch.false in
      let may : may_send (owner_of r.caller) r.command ≡ true = rw c.owner.ensures at (sym c.may_send.ensures ∙ c.if-not-may_send.false) in
      let allowed : is_allowed H r.caller r.command ≡ true = allowed-both H r.caller r.command known may in
      let page : only_asks r.command ≡ true = ap only_asks c.in-Page.is in
      let mid = c.in_ok-is_known.ensures.looks.stays first H shows in
      let last = on-ok-is c.show.result reply is (c.show.ensures.looks.stays disk) H mid in
      let shown = if-ok-given {G = Unit {0}} _ c.show.result (λ _. c.show.ensures.shown disk) reply is tt H mid tt (owner_of r.caller) in (
        shown ∙ sym (reply-page H r allowed page ∙ ap (answer H (owner_of r.caller)) c.in-Page.is),
        subst (λ (K : History). Shows (state g.S.Store c.show.new.store) K) (sym (after-page H r allowed page)) last,
      ));
  sound = λ disk stored H shows. c.show.ensures.sound disk stored H (c.in_ok-is_known.ensures.looks.stays (c.show.ensures.looks.clean disk) H shows) tt;
  undone = λ disk is_open. on-err c.show.result
      (λ stays H shows. stays H (c.in_ok-is_known.ensures.looks.stays (c.show.ensures.looks.clean disk) H shows))
      (c.show.ensures.looks.undone disk is_open);
  any = any-nothing g.S.Store c.args.store.now c.show.new.store c.show.result
      (nothing-then (state g.S.Store c.args.store.now) (state g.S.Store c.is_known.new.store)
      (state g.S.Store c.show.new.store) _ c.show.result c.show.ensures.looks.clean
      c.in_ok-is_known.ensures.looks.nothing c.show.ensures.looks.nothing);
  asks = λ only. nothing-then (state g.S.Store c.args.store.now) (state g.S.Store c.is_known.new.store)
      (state g.S.Store c.show.new.store) _ c.show.result c.show.ensures.looks.clean
      c.in_ok-is_known.ensures.looks.nothing c.show.ensures.looks.nothing;
  repeats = λ used. nothing-then (state g.S.Store c.args.store.now) (state g.S.Store c.is_known.new.store)
      (state g.S.Store c.show.new.store) _ c.show.result c.show.ensures.looks.clean
      c.in_ok-is_known.ensures.looks.nothing c.show.ensures.looks.nothing;
  left = λ disk H shows.
      leaves-first (state g.S.Store c.show.new.store) (picture H) _
      (c.show.ensures.looks.left disk H (c.in_ok-is_known.ensures.looks.stays (c.show.ensures.looks.clean disk) H shows));
}

pub returns-in-Page-clause-touches : goal.returns-in-Page-clause-touches
returns-in-Page-clause-touches g c = λ disk. if-ok-is _ c.show.result (λ reply is H shows.
    let r = c.args.request.now in
    let first = c.show.ensures.looks.clean disk in
    let known : is_known H r.caller ≡ true = sym (c.in_ok-is_known.ensures.shown first H shows tt) ∙ c.if-not-branch.false in
    let may : may_send (owner_of r.caller) r.command ≡ true = rw c.owner.ensures at (sym c.may_send.ensures ∙ c.if-not-may_send.false) in
    let allowed : is_allowed H r.caller r.command ≡ true = allowed-both H r.caller r.command known may in
    let page : only_asks r.command ≡ true = ap only_asks c.in-Page.is in
    others-same _ H (after_one H r) (after-page H r allowed page))

pub returns-in-Ask-clause-handled : goal.returns-in-Ask-clause-handled
returns-in-Ask-clause-handled g c = record {
  foreign = search rules;
  clean = search rules;
  replied = λ disk. if-ok-is _ c.reply_to_question.result (λ reply is H shows.
      let r = c.args.request.now in
      let first = c.reply_to_question.ensures.looks.clean disk in
      let known : is_known H r.caller ≡ true = sym (c.in_ok-is_known.ensures.shown first H shows tt) ∙ c.if-not-branch.false in
      let may : may_send (owner_of r.caller) r.command ≡ true = rw c.owner.ensures at (sym c.may_send.ensures ∙ c.if-not-may_send.false) in
      let allowed : is_allowed H r.caller r.command ≡ true = allowed-both H r.caller r.command known may in
      let page : only_asks r.command ≡ true = ap only_asks c.in-Ask.is in
      let mid = c.in_ok-is_known.ensures.looks.stays first H shows in
      let last = on-ok-is c.reply_to_question.result reply is (c.reply_to_question.ensures.looks.stays disk) H mid in
      let shown = if-ok-given {G = Unit {0}} _ c.reply_to_question.result (λ _. c.reply_to_question.ensures.shown disk) reply is tt H mid tt
      (owner_of r.caller) in (
        shown ∙ sym (reply-page H r allowed page ∙ ap (answer H (owner_of r.caller)) c.in-Ask.is),
        subst (λ (K : History). Shows (state g.S.Store c.reply_to_question.new.store) K) (sym (after-page H r allowed page)) last,
      ));
  sound = λ disk stored H shows. c.reply_to_question.ensures.sound disk stored H (c.in_ok-is_known.ensures.looks.stays
      (c.reply_to_question.ensures.looks.clean disk) H shows) tt;
  undone = λ disk is_open. on-err c.reply_to_question.result
      (λ stays H shows. stays H (c.in_ok-is_known.ensures.looks.stays (c.reply_to_question.ensures.looks.clean disk) H shows))
      (c.reply_to_question.ensures.looks.undone disk is_open);
  any = any-nothing g.S.Store c.args.store.now c.reply_to_question.new.store c.reply_to_question.result
      (nothing-then (state g.S.Store c.args.store.now) (state g.S.Store c.is_known.new.store)
      (state g.S.Store c.reply_to_question.new.store) _ c.reply_to_question.result c.reply_to_question.ensures.looks.clean
      c.in_ok-is_known.ensures.looks.nothing c.reply_to_question.ensures.looks.nothing);
  asks = λ only. nothing-then (state g.S.Store c.args.store.now) (state g.S.Store c.is_known.new.store)
      (state g.S.Store c.reply_to_question.new.store) _ c.reply_to_question.result c.reply_to_question.ensures.looks.clean
      c.in_ok-is_known.ensures.looks.nothing c.reply_to_question.ensures.looks.nothing;
  repeats = λ used. nothing-then (state g.S.Store c.args.store.now) (state g.S.Store c.is_known.new.store)
      (state g.S.Store c.reply_to_question.new.store) _ c.reply_to_question.result c.reply_to_question.ensures.looks.clean
      c.in_ok-is_known.ensures.looks.nothing c.reply_to_question.ensures.looks.nothing;
  left = λ disk H shows.
      leaves-first (state g.S.Store c.reply_to_question.new.store) (picture H) _
      (c.reply_to_question.ensures.looks.left disk H (c.in_ok-is_known.ensures.looks.stays (c.reply_to_question.ensures.looks.clean disk) H shows));
}

pub returns-in-Ask-clause-touches : goal.returns-in-Ask-clause-touches
returns-in-Ask-clause-touches g c = λ disk. if-ok-is _ c.reply_to_question.result (λ reply is H shows.
    let r = c.args.request.now in
    let first = c.reply_to_question.ensures.looks.clean disk in
    let known : is_known H r.caller ≡ true = sym (c.in_ok-is_known.ensures.shown first H shows tt) ∙ c.if-not-branch.false in
    let may : may_send (owner_of r.caller) r.command ≡ true = rw c.owner.ensures at (sym c.may_send.ensures ∙ c.if-not-may_send.false) in
    let allowed : is_allowed H r.caller r.command ≡ true = allowed-both H r.caller r.command known may in
    let page : only_asks r.command ≡ true = ap only_asks c.in-Ask.is in
    others-same _ H (after_one H r) (after-page H r allowed page))
