-- Answers as the client reads them.
use Rattle.std.specs.Prelude.{◌≡◌, ◌≤◌, ℕ, true, List, [], ◌∷◌, length, take, map, codes}
use Rattle.httparse.specs.Grammar.{ResponseHead, ReadsResponse, status_code}
use Rattle.httparse.specs.Spans.{name_and_value}
use Rattle.std.specs.Str.Parse.{digits_value}
use Rattle.web.specs.Fields.{NamedValue, values_of, is_length}
use Rattle.web.specs.declared.fault.WebFault.{WebFault}
use Rattle.web.specs.declared.fault.WebFault.TheVariants as web
use Rattle.web.specs.declared.receiving.AnswerFault.{AnswerFault}
use Rattle.web.specs.declared.receiving.AnswerFault.TheVariants.{Malformed, Read, Memory}

-- One field states this length, and none that the body comes in another form.
pub record TellsLength (fields : List NamedValue) (size : ℕ) : Type 0 where
  pub value : List ℕ
  pub plain : values_of (codes "Transfer-Encoding") fields ≡ []
  pub alone : values_of (codes "Content-Length") fields ≡ value ∷ []
  pub form : is_length value ≡ true
  pub size_is : size ≡ digits_value 10 value

-- The body is the first bytes after the head, as many as the fields state.
pub record HasToldBody (fields : List NamedValue) (rest body : List ℕ) : Type 0 where
  pub size : ℕ
  pub told : TellsLength fields size
  pub whole : size ≤ length rest
  pub body_is : body ≡ take size rest

-- The bytes begin with an answer with this status and body.
pub record IsAnswer (bytes : List ℕ) (status : ℕ) (body : List ℕ) : Type 0 where
  pub head : ResponseHead
  pub rest : List ℕ
  pub reads : ReadsResponse bytes head rest
  pub status_is : status ≡ status_code head
  pub has_body : HasToldBody (map name_and_value head.fields) rest body

-- Why no answer is read, if a part of it isn't.
abbrev pub fault_for : WebFault → AnswerFault
fault_for (web.Status status) = Malformed
fault_for web.Read = Read
fault_for web.Memory = Memory
