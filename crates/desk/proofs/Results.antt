-- What holds of an answer, or after an error.
use Rattle.std.proofs.Common.{◌≡◌, refl, sym, ◌∙◌, subst}
use Rattle.std.specs.Prelude.{Result, Ok, Err, OnOk, OnErr, IfOk}
use Rattle.std.specs.Result.{IsErrAnd}

-- What holds of an answer, with what follows from it.
pub if-ok : {A E : Type 0} (P Q : A → Type 0) (r : Result A E) → ((x : A) → P x → Q x) → IfOk r P → IfOk r Q
if-ok P Q (Ok x) f p = f x p
if-ok P Q (Err e) f p = tt

-- What holds of every answer that there is.
pub if-ok-is : {A E : Type 0} (Q : A → Type 0) (r : Result A E) → ((x : A) → r ≡ Ok x → Q x) → IfOk r Q
if-ok-is Q (Ok x) f = f x refl
if-ok-is Q (Err e) f = tt

-- What holds after a fault, with what follows from it.
pub on-err : {A E P Q : Type 0} (r : Result A E) → (P → Q) → OnErr r P → OnErr r Q
on-err (Ok x) f p = tt
on-err (Err e) f p = f p

-- Two answers that are one result are one.
pub ok-is : {A E : Type 0} (r : Result A E) (x y : A) → r ≡ Ok x → r ≡ Ok y → x ≡ y
ok-is r x y e f = let both : Ok x ≡ Ok y = sym e ∙ f in cc

-- An answer is no fault.
pub ok-not-err : {A E : Type 0} (x : A) (e : E) → Ok x ≡ Err e → ⊥
ok-not-err x e is = let never : ⊥ = cc (is) in never

-- What holds of the answer where more is given.
pub if-ok-given : {A E G : Type 0} (P : A → Type 0) (r : Result A E) → (G → IfOk r P) → (x : A) → r ≡ Ok x → G → P x
if-ok-given P r f x e g = subst (λ q. IfOk q P) e (f g)

-- What holds anyway holds after a fault.
pub on-err-any : {A E P : Type 0} (r : Result A E) → P → OnErr r P
on-err-any (Ok x) p = tt
on-err-any (Err e) p = p

-- What holds after a fault where more is given, with what follows from it.
pub on-err-given : {A E G P Q : Type 0} (r : Result A E) → (G → OnErr r P) → ((G → P) → Q) → OnErr r Q
on-err-given (Ok x) p f = tt
on-err-given (Err e) p f = f p

-- What holds anyway holds of an answer.
pub on-ok-any : {A E P : Type 0} (r : Result A E) → P → OnOk r P
on-ok-any (Ok x) p = p
on-ok-any (Err e) p = tt

pub on-ok : {A E P Q : Type 0} (r : Result A E) → (P → Q) → OnOk r P → OnOk r Q
on-ok (Ok x) f p = f p
on-ok (Err e) f p = tt

-- What holds of an answer holds where the result is one.
pub on-ok-is : {A E P : Type 0} (r : Result A E) (x : A) → r ≡ Ok x → OnOk r P → P
on-ok-is {A} {E} {P} r x e p = subst (λ (q : Result A E). OnOk q P) e p

-- The one error that a result may have is the one that it has.
pub err-is : {A E : Type 0} (r : Result A E) (e f : E) → IsErrAnd r (λ x. x ≡ e) → r ≡ Err f → e ≡ f
err-is {A} {E} r e f only is = sym (subst (λ (q : Result A E). IsErrAnd q (λ x. x ≡ e)) is only)

-- What follows of an answer from what holds where there is one.
pub if-ok-any : {A E P : Type 0} {Q : A → Type 0} (r : Result A E) → (P → (x : A) → Q x) → OnOk r P → IfOk r Q
if-ok-any (Ok x) f p = f p x
if-ok-any (Err e) f p = tt
