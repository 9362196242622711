-- The texts of answers.
use Rattle.std.proofs.Common.{◌≡◌, ℕ, List, [], ◌∷◌, ◌++◌, ap, sym, ◌∙◌, subst, refl, Option}
use Rattle.std.specs.Prelude.{codes, decimal, Result, Ok, Err, OnErr}
use Rattle.serde_json.proofs.OnLiterals.{serde_json_on_literals}
use Rattle.terms.specs.Writing.{Writes}
use Rattle.web.specs.Answers.{answer_text, fields_text, one_member, number_member, allow_line}
use Rattle.web.specs.Sending.{send_start}
use Rattle.web.specs.declared.fault.WebStatus.{WebStatus}
use Rattle.web.specs.declared.fault.WebStatus.TheVariants.{BadRequest, NotFound, MethodNotAllowed, PayloadTooLarge}

-- the pieces of the fields that every message has
pub fields_written : (digits : List ℕ) (size : ℕ) → digits ≡ decimal size
    → (codes "Content-Type: application/json" ++ (13 ∷ 10 ∷ codes "Content-Length: "))
    ++ (digits ++ (13 ∷ 10 ∷ (codes "Connection: close" ++ (13 ∷ 10 ∷ 13 ∷ 10 ∷ [])))) ≡ fields_text size
unfolding fields_text
fields_written digits size e = rw e refl

-- the pieces of the first line and the keys of what the client sends
pub sending_written : (d k desk_key key : List ℕ) → d ≡ desk_key → k ≡ key
    → (codes "POST /desk HTTP/1.1" ++ (13 ∷ 10 ∷ (codes "Host: 127.0.0.1" ++ (13 ∷ 10 ∷ codes "Desk-Key: "))))
    ++ (d ++ ((13 ∷ 10 ∷ codes "Request-Key: ") ++ (k ++ (13 ∷ 10 ∷ []))))
    ≡ send_start desk_key key
unfolding send_start
sending_written d k desk_key key e f = rw (e, f) refl

-- a body of one number
pub refusal_member : (n : ℕ) → codes "{\"refusal\":" ++ (decimal n ++ (125 ∷ [])) ≡ number_member (codes "refusal") n
unfolding one_member serde_json_on_literals
refusal_member n = refl

pub fault_member : (n : ℕ) → codes "{\"fault\":" ++ (decimal n ++ (125 ∷ [])) ≡ number_member (codes "fault") n
unfolding one_member serde_json_on_literals
fault_member n = refl

pub status_member : (n : ℕ) → codes "{\"status\":" ++ (decimal n ++ (125 ∷ [])) ≡ number_member (codes "status") n
unfolding one_member serde_json_on_literals
status_member n = refl

-- the same answer with its parts as the code has them
pub same_answer : (code status : ℕ) (line allow body text : List ℕ) → code ≡ status → line ≡ allow → body ≡ text
    → answer_text code line body ≡ answer_text status allow text
same_answer code status line allow body text a b c = cc

pub refusal_body : (number n : ℕ) → number ≡ n → codes "{\"refusal\":" ++ (decimal number ++ (125 ∷ [])) ≡ number_member (codes "refusal") n
refusal_body number n e = ap (λ (m : ℕ). codes "{\"refusal\":" ++ (decimal m ++ (125 ∷ []))) e ∙ refusal_member n

pub fault_body : (number n : ℕ) → number ≡ n → codes "{\"fault\":" ++ (decimal number ++ (125 ∷ [])) ≡ number_member (codes "fault") n
fault_body number n e = ap (λ (m : ℕ). codes "{\"fault\":" ++ (decimal m ++ (125 ∷ []))) e ∙ fault_member n

pub status_body : (number n : ℕ) → number ≡ n → codes "{\"status\":" ++ (decimal number ++ (125 ∷ [])) ≡ number_member (codes "status") n
status_body number n e = ap (λ (m : ℕ). codes "{\"status\":" ++ (decimal m ++ (125 ∷ []))) e ∙ status_member n

pub allowed : (status : WebStatus) (method m : List ℕ) → status ≡ MethodNotAllowed method → m ≡ method → codes "Allow: "
    ++ (m ++ (13 ∷ 10 ∷ [])) ≡ allow_line status
allowed status method m is e = ap (λ (x : List ℕ). codes "Allow: " ++ (x ++ (13 ∷ 10 ∷ []))) e ∙ ap allow_line (sym is)

-- bytes that are the same bytes
pub writes-as : {T E : Type 0} (r : Result T E) (a b : Option (List ℕ)) (xs ys : List ℕ) → xs ≡ ys → Writes xs a b r → Writes ys a b r
writes-as r a b xs ys e p = subst (λ (bs : List ℕ). Writes bs a b r) e p

-- what holds anyway holds after a write that failed
pub on-err-any : {T E P : Type 0} (r : Result T E) → P → OnErr r P
on-err-any (Ok x) p = tt
on-err-any (Err e) p = p

pub no_line : (status : WebStatus) → ((method : List ℕ) → status ≡ MethodNotAllowed method → ⊥) → [] ≡ allow_line status
no_line BadRequest h = refl
no_line NotFound h = refl
no_line (MethodNotAllowed method) h = absurd (h method refl)
no_line PayloadTooLarge h = refl
