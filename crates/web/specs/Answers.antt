-- The bytes of answers.
use Rattle.std.specs.Prelude.{ℕ, List, [], ◌∷◌, ◌++◌, length, codes, decimal, unwrap_or}
use Rattle.http.specs.StatusCode.{reason_phrase}
use Rattle.serde_json.specs.Data.{Data, number, unsigned, string, object, member, no_members}
use Rattle.serde_json.specs.Written.{compact_text}
use Rattle.terms.specs.Texts.{reply_text, refusal_number, service_fault_number}
use Rattle.terms.specs.declared.refusal.Refusal.{Refusal}
use Rattle.terms.specs.declared.refusal.Refusal.TheVariants.{NotAllowed}
use Rattle.terms.specs.declared.reply.Reply.{Reply}
use Rattle.terms.specs.declared.reply.Reply.TheVariants as reply
use Rattle.web.specs.declared.fault.WebStatus.{WebStatus}
use Rattle.web.specs.declared.fault.WebStatus.TheVariants.{BadRequest, NotFound, MethodNotAllowed, PayloadTooLarge}
use Rattle.web.specs.declared.answer.Answer.{Answer}
use Rattle.web.specs.declared.answer.Answer.TheVariants.{Accepted, Refused, Faulted, Failed}

-- The end of a line.
abbrev pub crlf : List ℕ
crlf = 13 ∷ 10 ∷ []

-- The first line.
unfoldable pub start_text : ℕ → List ℕ
start_text status = codes "HTTP/1.1 " ++ (decimal status ++ (codes " " ++ (unwrap_or (reason_phrase status) [] ++ crlf)))

-- The fields of every message with a body of this size, and the empty line.
unfoldable pub fields_text : ℕ → List ℕ
fields_text size =
    codes "Content-Type: application/json" ++ (crlf ++ (codes "Content-Length: " ++ (decimal size ++ (crlf ++ (codes "Connection: close" ++ (crlf ++ crlf))))))

-- An answer with a status, a line of its own if any, the length stated, and a body.
abbrev pub parts_text : ℕ → List ℕ → ℕ → List ℕ → List ℕ
parts_text status line size body = start_text status ++ (line ++ (fields_text size ++ body))

-- The same with the length of its body.
abbrev pub answer_text : ℕ → List ℕ → List ℕ → List ℕ
answer_text status line body = parts_text status line (length body) body

-- A JSON object of one member, as compact text.
unfoldable pub one_member : List ℕ → Data → List ℕ
one_member name value = compact_text (object (member name value no_members))

-- The same for a number.
abbrev pub number_member : List ℕ → ℕ → List ℕ
number_member name n = one_member name (number (unsigned n))

-- A wrong key is 403, any other refusal 409.
abbrev pub refusal_status : Refusal → ℕ
refusal_status NotAllowed = 403
refusal_status _ = 409

-- The number of a status.
abbrev pub status_number : WebStatus → ℕ
status_number BadRequest = 400
status_number NotFound = 404
status_number (MethodNotAllowed method) = 405
status_number PayloadTooLarge = 413

-- At 405 a line names the allowed method.
abbrev pub allow_line : WebStatus → List ℕ
allow_line BadRequest = []
allow_line NotFound = []
allow_line (MethodNotAllowed method) = codes "Allow: " ++ (method ++ crlf)
allow_line PayloadTooLarge = []

-- The bytes of an answer.
abbrev pub answer_bytes : Answer → List ℕ
answer_bytes (Accepted json) = answer_text 200 [] json
answer_bytes (Refused refusal) = answer_text (refusal_status refusal) [] (number_member (codes "refusal") (refusal_number refusal))
answer_bytes (Faulted fault) = answer_text 503 [] (number_member (codes "fault") (service_fault_number fault))
answer_bytes (Failed status) = answer_text (status_number status) (allow_line status) (number_member (codes "status") (status_number status))

-- The answer for a reply.
abbrev pub answer_for : Reply → Answer
answer_for (reply.Refused refusal) = Refused refusal
answer_for r = Accepted (one_member (codes "reply") (string (reply_text r)))
