-- How an answer is read.
use Rattle.std.proofs.Common.{◌≡◌, ◌≤◌, ℕ, List, ◌++◌, length, take, drop, map, ap, ◌∙◌, subst, append_assoc, Option, Some, None, Result, Ok, Err}
use Rattle.std.specs.Prelude.{IfOk, IfSome, Vec, string_bytes}
use Rattle.std.specs.Io.KnownBytes.{Consumes}
use Rattle.httparse.specs.Grammar.{print_response}
use Rattle.httparse.specs.Spans.{IsResponseOf, header_bytes}
use Rattle.httparse.specs.declared.spans.HeaderSpan.{HeaderSpan}
use Rattle.httparse.specs.declared.spans.ResponseSpans.{ResponseSpans}
use Rattle.web.specs.Bodies.{HasBody}
use Rattle.web.specs.Fields.{NamedValue}
use Rattle.web.specs.Receiving.{HasToldBody, TellsLength, IsAnswer}
use Rattle.web.specs.declared.receiving.ReceivedAnswer.{ReceivedAnswer}

-- a body of the length that the fields tell
pub told_body : {A : Type 0} (o : Option (Vec ℕ A)) (old : Option (List ℕ)) (fields : List NamedValue) (front : List ℕ) (size : ℕ) → TellsLength fields size
    → IfSome old (λ left. HasBody (front ++ left) size o) → IfSome o (λ body. IfSome old (λ left. HasToldBody fields (front ++ left) body.items))
told_body None old fields front size told h = tt
told_body (Some body) None fields front size told h = tt
told_body (Some body) (Some left) fields front size told h = record { size = size; told = told; whole = h.0; body_is = h.1 }

pub told_read : {A E : Type 0} (r : Result (Option (Vec ℕ A)) E) (old : Option (List ℕ)) (fields : List NamedValue) (front : List ℕ)
    (size : ℕ) → TellsLength fields size
    → IfOk r (λ o. IfSome old (λ left. HasBody (front ++ left) size o))
    → IfOk r (λ o. IfSome o (λ body. IfSome old (λ left. HasToldBody fields (front ++ left) body.items)))
told_read (Err e) old fields front size told h = tt
told_read (Ok o) old fields front size told h = told_body o old fields front size told h

-- the same with the parts as the code has them
pub same_body : (old : Option (List ℕ)) (fields f : List NamedValue) (front fr : List ℕ) (body b : List ℕ) → f ≡ fields → fr ≡ front → body ≡ b
    → IfSome old (λ left. HasToldBody f (fr ++ left) b) → IfSome old (λ left. HasToldBody fields (front ++ left) body)
same_body None fields f front fr body b e1 e2 e3 h = tt
same_body (Some left) fields f front fr body b e1 e2 e3 h = record {
  size = h.size;
  told = subst (λ (x : List NamedValue). TellsLength x h.size) e1 h.told;
  whole = subst (λ (x : List ℕ). h.size ≤ length (x ++ left)) e2 h.whole;
  body_is = e3 ∙ (h.body_is ∙ ap (λ (x : List ℕ). take h.size (x ++ left)) e2);
}

-- the head was read, and the rest after it
answer_read : (old mid : Option (List ℕ)) (bytes : List ℕ) (headers : List HeaderSpan) (spans : ResponseSpans) (status : ℕ) (body : List ℕ)
    → Consumes old mid bytes → IsResponseOf bytes headers spans
    → status ≡ spans.code → IfSome mid (λ left. HasToldBody (map (header_bytes bytes) (take spans.headers headers)) (drop spans.len bytes ++ left) body)
    → IfSome old (λ all. IsAnswer all status body)
answer_read None mid bytes headers spans status body taken is code told = tt
answer_read (Some all) None bytes headers spans status body taken is code told = elim taken [ ]
answer_read (Some all) (Some left) bytes headers spans status body taken is code told = record {
  head = is.0;
  rest = drop spans.len bytes ++ left;
  reads = (is.1.reads.0, taken ∙ (ap (λ (x : List ℕ). x ++ left) is.1.reads.1 ∙ append_assoc (print_response is.0) (drop spans.len bytes) left));
  status_is = code ∙ is.1.code;
  has_body = subst (λ (x : List NamedValue). HasToldBody x (drop spans.len bytes ++ left) body) is.1.fields told;
}

pub answer_is : {E : Type 0} (r : Result ReceivedAnswer E) (old mid : Option (List ℕ)) (bytes : List ℕ) (headers : List HeaderSpan)
    (spans : ResponseSpans) → Consumes old mid bytes → IsResponseOf bytes headers spans
    → IfOk r (λ a. a.status ≡ spans.code)
    → IfOk r (λ a. IfSome mid (λ left. HasToldBody (map (header_bytes bytes) (take spans.headers headers)) (drop spans.len bytes ++ left)
    (string_bytes a.body)))
    → IfOk r (λ a. IfSome old (λ all. IsAnswer all a.status (string_bytes a.body)))
answer_is (Err e) old mid bytes headers spans taken is code told = tt
answer_is (Ok a) old mid bytes headers spans taken is code told = answer_read old mid bytes headers spans a.status (string_bytes a.body) taken is code told
