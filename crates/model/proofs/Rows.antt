-- The basis of the worked examples: a small library, runs of requests, and the texts of the replies.
use Rattle.std.specs.Prelude.{◌≡◌, ℕ, suc, ◌+◌, ◌==◌, Bool, List, [], ◌∷◌, ◌++◌, map, codes, refl}
use Prim.Native.String.{String}
use Rattle.std.specs.Fmt.{digits}
use Rattle.std.proofs.Common.{◌∙◌}
use Rattle.terms.specs.declared.command.Command.{Command}
use Rattle.terms.specs.declared.command.Command.TheVariants.{BeginDay, Branch, Week, Kind, Rule, Patron, Acquire}
use Rattle.terms.specs.declared.command.Caller.TheVariants.{Desk, Patron as Reader}
use Rattle.terms.specs.declared.command.Request.{Request}
use Rattle.terms.specs.Texts.{request_text, reply_text, reply_words, routed_words}
use Rattle.model.specs.History.{History}
use Rattle.model.specs.Requests.{after, replies}
use Rattle.model.proofs.DayTexts.{near_reply, reply_texts-near}

-- A request of the desk, with a key and a command.
abbrev pub by_desk : List ℕ → Command → Request
by_desk key command = record { caller = Desk; key = key; command = command }

-- A request of a patron of the small library, who shows the right card key.
abbrev pub by_patron : ℕ → List ℕ → Command → Request
by_patron patron key command = record { caller = Reader patron (codes "cardkey0000" ++ (48 + patron) ∷ []); key = key; command = command }

-- A row of a copies file: a request of the desk whose key is its own request text.
abbrev pub by_file : Command → Request
by_file command = by_desk (request_text command) command

-- Requests of the desk, each with a new key: one letter, counted on from the one of this code.
abbrev pub lettered : ℕ → List Command → List Request
lettered letter [] = []
lettered letter (c ∷ cs) = by_desk (letter ∷ []) c ∷ lettered (suc letter) cs

-- Requests of the desk, with the keys `a`, `b`, `c` and so on.
abbrev pub desk : List Command → List Request
desk commands = lettered 97 commands

-- Which weekdays a mask closes.
abbrev pub closed_in : String → List Bool
closed_in mask = map (λ c. c == 99) (codes mask)

-- The replies to the requests, one at a time after the history, have these texts.
pub record Gives (H : History) (requests : List Request) (texts : List String) : Type 0 where
  pub texts_are : map reply_text (replies H requests) ≡ map codes texts

-- It is enough that they have them with the days counted on from near by.
pub gives : {H : History} {requests : List Request} {texts : List String} → map near_reply (replies H requests) ≡ map codes texts → Gives H requests texts
gives {H} {requests} e = record { texts_are = reply_texts-near (replies H requests) ∙ e }

-- The small library: two branches, one patron kind, two rules, three patrons and four copies. Today is 2026-03-02, a Monday.
-- Branch 1 is closed on Sundays, and branch 2 on Mondays and Sundays. The keys are `A`, `B`, `C` and so on.
abbrev pub founding : List Request
founding = lettered 65 (
    BeginDay 20514
    ∷ Branch 1 5 (codes "Main")
    ∷ Branch 2 3 (codes "Harbour")
    ∷ Week 1 (closed_in "ooooooc")
    ∷ Week 2 (closed_in "coooooc")
    ∷ Kind 1 5 5 500
    ∷ Rule 1 1 6 1 20 100
    ∷ Rule 1 2 12 1 20 100
    ∷ Patron 1 1 (codes "cardkey00001") (codes "Ann Bell")
    ∷ Patron 2 1 (codes "cardkey00002") (codes "Bo Carr")
    ∷ Patron 3 1 (codes "cardkey00003") (codes "Cy Dunn")
    ∷ Acquire 10 100 1 1 2500 (codes "Rivers of the North")
    ∷ Acquire 11 100 1 1 2500 (codes "Rivers of the North")
    ∷ Acquire 20 200 1 2 1200 (codes "Salt Roads")
    ∷ Acquire 30 300 2 1 800 (codes "Night Ferries")
    ∷ [])

-- Each request of the founding is accepted.
founding_is_accepted : Gives [] founding ("ok" ∷ "ok" ∷ "ok" ∷ "ok" ∷ "ok" ∷ "ok" ∷ "ok" ∷ "ok" ∷ "ok" ∷ "ok" ∷ "ok" ∷ "ok" ∷ "ok" ∷ "ok" ∷ "ok" ∷ [])
unfolding digits reply_text reply_words routed_words
founding_is_accepted = gives refl

-- The history of the small library.
abbrev pub ground : History
ground = after [] founding
