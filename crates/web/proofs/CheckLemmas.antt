-- From one check to the next.
use Rattle.std.proofs.Common.{◌≡◌, ℕ, ◌≤◌, List, ◌++◌, length, take, Bool, true, false, ap, sym, ◌∙◌, subst, arith, Option, Some, None, Result, Ok, Err}
use Rattle.std.specs.Prelude.{nat_le, bytes_eq, MatchBool, MatchOption, MatchResult, IfSome}
use Rattle.std.proofs.lemmas.Bool.Decides.{nat_tests}
use Rattle.web.specs.Fields.{NamedValue, body_length}
use Rattle.std.proofs.Common.{inr, map, drop, append_assoc, length-take-le}
use Rattle.std.proofs.lemmas.List.{length-map}
use Rattle.std.specs.Io.KnownBytes.{Consumes}
use Rattle.httparse.specs.Grammar.{RequestHead, print_request}
use Rattle.httparse.specs.Spans.{IsRequestAt, IsRequestOf, IsRequestWithin, span_bytes, header_bytes, name_and_value}
use Rattle.httparse.specs.declared.spans.HeaderSpan.{HeaderSpan}
use Rattle.httparse.specs.declared.spans.RequestSpans.{RequestSpans}
use Rattle.web.specs.declared.limits.TheConstants.{HEAD_BYTES, HEAD_FIELDS}
use Rattle.web.specs.Heads.{HasHead}
use Rattle.web.specs.Checks.{ChecksHead}
use Rattle.web.specs.Checks.{Reading, IsRefused, UnlessFaulted, ChecksBody, ChecksTarget, ChecksWhole, ChecksLength}
use Rattle.web.specs.Requests.{method_of, is_post, shown_key, request_key, repeats_key}
use Rattle.web.specs.Routes.{IsRoute, target_of}
use Rattle.web.specs.declared.routes.Route.{Route}
use Rattle.web.specs.declared.fault.WebStatus.TheVariants.{BadRequest, MethodNotAllowed}
use Rattle.web.specs.declared.fault.WebFault.{WebFault}
use Rattle.web.specs.declared.fault.WebFault.TheVariants as fault

pub unless-map : {A : Type 0} {P Q : Type 0} (r : Result A WebFault) → (P → Q) → UnlessFaulted r P → UnlessFaulted r Q
unless-map (Ok x) f p = f p
unless-map (Err (fault.Status status)) f p = f p
unless-map (Err fault.Read) f p = tt
unless-map (Err fault.Memory) f p = tt

at_most : (m n : ℕ) → m ≤ n → nat_le m n ≡ true
at_most m n h = grind (arith, nat_tests)

when-true : (b : Bool) (P Q : Type 0) → b ≡ true → P → MatchBool b P Q
when-true true P Q e p = p
when-true false P Q e p = cc

when-ok : {A E : Type 0} (r : Result A E) (x : A) (P : A → Type 0) (Q : E → Type 0) → r ≡ Ok x → P x → MatchResult r P Q
when-ok r x P Q e p = subst (λ (s : Result _ _). MatchResult s P Q) (sym e) p

-- the body came in whole
pub whole_checked : (old : Option (List ℕ)) (method target front body : List ℕ) (fields : List NamedValue) (size : ℕ) (r : Reading)
    → Ok size ≡ body_length fields
    → IfSome old (λ left. (size ≤ length (front ++ left)) × (body ≡ take size (front ++ left)))
    → UnlessFaulted r (ChecksTarget method target fields body r) → IfSome old (λ left. UnlessFaulted r (ChecksLength method target fields (front ++ left) r))
whole_checked None method target front body fields size r is all told = tt
whole_checked (Some left) method target front body fields size r is all told =
    unless-map r (λ (p : ChecksTarget method target fields body r).
    when-ok (body_length fields) size (λ n. ChecksWhole n method target fields (front ++ left) r) (λ status. IsRefused r status) (sym is)
    (when-true (nat_le size (length (front ++ left))) _ _ (at_most _ _ all.0) (subst (λ (b : List ℕ). ChecksTarget method target fields b r) all.1 p))) told

-- the same with the parts as the code has them
pub head_checked : (old : Option (List ℕ)) (m method t target fr front body : List ℕ) (f fields : List NamedValue) (size : ℕ) (r : Reading)
    → m ≡ method → t ≡ target → fr ≡ front → f ≡ fields
    → Ok size ≡ body_length f → IfSome old (λ left. (size ≤ length (fr ++ left)) × (body ≡ take size (fr ++ left)))
    → UnlessFaulted r (ChecksTarget m t f body r) → IfSome old (λ left. UnlessFaulted r (ChecksLength method target fields (front ++ left) r))
head_checked old m method t target fr front body f fields size r a b c d is all told =
    let e = whole_checked old m t fr body f size r is all told in
    let e1 = subst (λ (x : List ℕ). IfSome old (λ left. UnlessFaulted r (ChecksLength x t f (fr ++ left) r))) a e in
    let e2 = subst (λ (x : List ℕ). IfSome old (λ left. UnlessFaulted r (ChecksLength method x f (fr ++ left) r))) b e1 in
    let e3 = subst (λ (x : List NamedValue). IfSome old (λ left. UnlessFaulted r (ChecksLength method target x (fr ++ left) r))) d e2 in
    subst (λ (x : List ℕ). IfSome old (λ left. UnlessFaulted r (ChecksLength method target fields (x ++ left) r))) c e3

few_fields : (bytes : List ℕ) (headers : List HeaderSpan) (count : ℕ) (h : RequestHead) → count ≤ length headers
    → map (header_bytes bytes) (take count headers) ≡ map name_and_value h.fields → length h.fields ≡ count
few_fields bytes headers count h fits same =
    let n = ap length same in
    omega (arith, n, length-map (take count headers) (header_bytes bytes), length-map h.fields name_and_value, length-take-le count headers fits)

pub has_head : (bytes left all : List ℕ) (headers : List HeaderSpan) (spans : RequestSpans) (h : RequestHead) → all ≡ bytes ++ left
    → IsRequestAt bytes headers spans h → IsRequestWithin bytes headers spans
    → length bytes ≤ HEAD_BYTES → length headers ≤ HEAD_FIELDS → HasHead all h (drop spans.len bytes ++ left)
has_head bytes left all headers spans h whole is within long many = record {
  reads = (is.reads.0, whole ∙ (ap (λ (x : List ℕ). x ++ left) is.reads.1 ∙ append_assoc (print_request h) (drop spans.len bytes) left));
  short = omega (arith, is.len, within.section.len_fits, long);
  few = omega (arith, few_fields bytes headers spans.headers h within.section.count_fits is.fields, within.section.count_fits, many);
}

-- the head was read, and what follows was checked
pub head_read : (old mid : Option (List ℕ)) (bytes : List ℕ) (headers : List HeaderSpan) (spans : RequestSpans) (r : Reading)
    → Consumes old mid bytes → IsRequestOf bytes headers spans
    → IsRequestWithin bytes headers spans → length bytes ≤ HEAD_BYTES → length headers ≤ HEAD_FIELDS
    → IfSome mid (λ left. UnlessFaulted r
    (ChecksLength (span_bytes bytes spans.method) (span_bytes bytes spans.path) (map (header_bytes bytes) (take spans.headers headers))
    (drop spans.len bytes ++ left) r))
    → IfSome old (λ all. UnlessFaulted r (ChecksHead all r))
head_read None mid bytes headers spans r taken is within long many told = tt
head_read (Some all) None bytes headers spans r taken is within long many told = elim taken [ ]
head_read (Some all) (Some left) bytes headers spans r taken is within long many told =
    let h = is.0 in
    let rest = drop spans.len bytes ++ left in
    unless-map r (λ (p : ChecksLength (span_bytes bytes spans.method) (span_bytes bytes spans.path)
    (map (header_bytes bytes) (take spans.headers headers)) rest r).
    let p1 = subst (λ (x : List ℕ). ChecksLength x (span_bytes bytes spans.path)
    (map (header_bytes bytes) (take spans.headers headers)) rest r) is.1.method p in
    let p2 = subst (λ (x : List ℕ). ChecksLength h.method x (map (header_bytes bytes) (take spans.headers headers)) rest r) is.1.path p1 in
    let p3 = subst (λ (x : List NamedValue). ChecksLength h.method h.target x rest r) is.1.fields p2 in
    inr (h, rest, has_head bytes left all headers spans h taken is.1 within long many, p3)) told

when-passed : {A : Type 0} (b : Bool) (x y : A) (e : WebFault) (P Q : Type 0) → MatchBool b (◌≡◌ {A = Result A WebFault} (Ok x) (Ok y)) (◌≡◌ {A = Result A WebFault} (Ok x) (Err e)) → P → MatchBool b P Q
when-passed true x y e P Q is p = p
when-passed false x y e P Q is p = cc

when-not : {A : Type 0} (b : Bool) (x y : A) (e : WebFault) (P Q : Type 0) → MatchBool b (◌≡◌ {A = Result A WebFault} (Ok x) (Err e)) (◌≡◌ {A = Result A WebFault} (Ok x) (Ok y)) → P → MatchBool b Q P
when-not true x y e P Q is p = cc
when-not false x y e P Q is p = p

with-key : (post : Bool) (asked key : Option (List ℕ)) (e : WebFault) (P : Option (List ℕ) → Type 0) (Q : Type 0)
    → MatchBool post (MatchOption asked (◌≡◌ {A = Result (Option (List ℕ)) WebFault} (Ok key) (Err e)) (λ k. ◌≡◌ {A = Result (Option (List ℕ)) WebFault} (Ok key) (Ok (Some k)))) (◌≡◌ {A = Result (Option (List ℕ)) WebFault} (Ok key) (Ok None)) → P key
    → MatchBool post (MatchOption asked Q (λ k. P (Some k))) (P None)
with-key true (Some k) key e P Q is p = let same : key ≡ Some k = cc in subst P same p
with-key true None key e P Q is p = cc
with-key false asked key e P Q is p = let same : key ≡ None = cc in subst P same p

-- every check up to the body's was passed
pub parts_checked : {A B : Type 0} (a a' : A) (b b' : B) (route : Route) (method target body : List ℕ) (fields : List NamedValue) (shown key : Option (List ℕ)) (r : Reading)
    → IsRoute route → target ≡ target_of route
    → MatchBool (bytes_eq method (method_of route)) (◌≡◌ {A = Result A WebFault} (Ok a) (Ok a')) (Ok a ≡ Err (fault.Status (MethodNotAllowed (method_of route))))
    → MatchBool (repeats_key fields) (Ok b ≡ Err (fault.Status BadRequest)) (◌≡◌ {A = Result B WebFault} (Ok b) (Ok b'))
    → shown ≡ shown_key route fields
    → MatchBool (is_post route) (MatchOption (request_key fields) (◌≡◌ {A = Result (Option (List ℕ)) WebFault} (Ok key) (Err (fault.Status BadRequest))) (λ k. ◌≡◌ {A = Result (Option (List ℕ)) WebFault} (Ok key) (Ok (Some k)))) (◌≡◌ {A = Result (Option (List ℕ)) WebFault} (Ok key) (Ok None))
    → ChecksBody route shown key body r → ChecksTarget method target fields body r
parts_checked a a' b b' route method target body fields shown key r is same allowed once has keyed told =
    let of_shown = subst (λ s. ChecksBody route s key body r) has told in
    let of_key = with-key (is_post route) (request_key fields) key (fault.Status BadRequest) (λ k. ChecksBody route (shown_key route fields) k body r)
    (IsRefused r BadRequest) keyed of_shown in
    inr (route, is, same, when-passed _ a a' _ _ _ allowed (when-not _ b b' _ _ _ once of_key))
