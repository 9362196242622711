use Rattle.std.proofs.Common.{◌≡◌, ℕ, ◌+◌, ◌-◌, List, ◌++◌, None, Some, arith, rules, length, take, drop, sym, ap, ◌∙◌, subst, Option, take_all}
use Rattle.std.specs.Io.KnownBytes.{Appends, Keeps}
use Rattle.terms.specs.Writing.{AppendsFront}
use Rattle.std.proofs.KnownBytes.{Appends-trans, Appends-kept}
use Rattle.std.proofs.Math.Seq.{take-add}
use Rattle.std.proofs.Common.{append-nil, take-append-drop}
use Rattle.std.proofs.lemmas.List.{length-drop}
use Rattle.terms.proofs.writing.write_bytes.Goals as goal

sent_more : (a b c : Option (List ℕ)) (bytes : List ℕ) (at n : ℕ) → Appends a b (take at bytes) → Appends b c (take n (drop at bytes))
    → Appends a c (take (at + n) bytes)
sent_more a b c bytes at n p q =
    subst (λ (x : List ℕ). Appends a c x) (sym (take-add at n bytes)) (Appends-trans a b c (take at bytes) (take n (drop at bytes)) p q)

pub loop-written-preserved : goal.loop-written-preserved
loop-written-preserved g c =
    let bytes = c.args.bytes.now in
    let at = c.loop-written.written in
    let whole = take_all (length bytes - at) (drop at bytes) (omega (arith, length-drop at bytes)) in
    record {
      within = omega (arith, c.in-Ok.ensures.bound, length-drop at bytes);
      sent = sent_more _ _ _ bytes at c.in-Ok.taken c.loop-written.invariant.sent
          (subst (λ (xs : List ℕ). Appends (g.W.Write.contents c.loop-written.writer) (g.W.Write.contents c.write.new.self)
          (take c.in-Ok.taken xs)) whole c.in-Ok.ensures.bytes);
    }

-- what went out so far, where the next write gave nothing more
front_sent : (a b c : Option (List ℕ)) (bytes : List ℕ) (at : ℕ) → Appends a b (take at bytes) → Keeps b c → AppendsFront a c bytes
front_sent a b c bytes at p q =
    record {
      sent = take at bytes;
      rest = drop at bytes;
      whole = sym (take-append-drop at bytes);
      wrote = Appends-kept a b c (take at bytes) p q;
    }

nothing_sent : (b c : Option (List ℕ)) (n : ℕ) (bytes : List ℕ) → n ≡ 0 → Appends b c (take n bytes) → Keeps b c
nothing_sent None c n bytes e p = tt
nothing_sent (Some x) None n bytes e p = absurd p
nothing_sent (Some x) (Some y) n bytes e p = p ∙ ap (λ k. x ++ take k bytes) e ∙ append-nil x

pub returns-in-Ok-eq0 : goal.returns-in-Ok-eq0
returns-in-Ok-eq0 g c = record {
  all = search rules;
  front = front_sent _ _ _ c.args.bytes.now c.loop-written.written c.loop-written.invariant.sent
      (nothing_sent _ _ _ _ c.in-Ok-eq0.field-0-test c.in-Ok-eq0.ensures.bytes);
}

pub returns-in-Err : goal.returns-in-Err
returns-in-Err g c = record {
  all = search rules;
  front = front_sent _ _ _ c.args.bytes.now c.loop-written.written c.loop-written.invariant.sent c.in-Err.ensures.bytes;
}
