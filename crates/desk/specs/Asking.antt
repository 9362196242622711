-- The rows of the lists that the desk asks for, from the tables' rows.
use Rattle.std.specs.Prelude.{◌≡◌, ℕ, Bool, true, false, List, [], ◌∷◌, Some, codes, decimal}
use Rattle.calendar.specs.Days.{day_text}
use Rattle.terms.specs.declared.command.Command.TheVariants.{Ask}
use Rattle.terms.specs.declared.command.Owner.{Owner}
use Rattle.terms.specs.declared.question.Question.{Question}
use Rattle.terms.specs.declared.refusal.Refusal.{Refusal}
use Rattle.terms.specs.declared.reply.Reply.{Reply}
use Rattle.terms.specs.declared.reply.Reply.TheVariants.{Shown, Refused}
use Rattle.terms.specs.declared.row.LoanRow.{LoanRow}
use Rattle.terms.specs.declared.row.HoldRow.{HoldRow}
use Rattle.terms.specs.declared.row.LineRow.{LineRow}
use Rattle.terms.specs.declared.row.RuleRow.{RuleRow}
use Rattle.terms.specs.declared.row.TitleRow.{TitleRow}
use Rattle.model.specs.History.{History}
use Rattle.model.specs.Answers.{answer}
use Rattle.model.specs.Asking.{from_words, sort_word}
use Rattle.model.specs.Pages.{spaced}
use Rattle.model.specs.Picture.{picture}
use Rattle.desk.specs.Paging.{IsTitleOf}

-- A hold in line.
abbrev pub queue_words : HoldRow → List ℕ
queue_words row = spaced (codes "hold" ∷ decimal row.hold ∷ codes "patron" ∷ decimal row.patron ∷ codes "at" ∷ decimal row.branch
    ∷ from_words row.first_day)

-- An account line with these words after its amount.
abbrev pub account_words : LineRow → List (List ℕ) → List ℕ
account_words row more = spaced (codes "line" ∷ decimal row.line ∷ day_text row.day ∷ sort_word row.sort ∷ decimal row.amount ∷ more)

-- An account line, for no loan or for one.
abbrev pub line_words : LineRow → List ℕ
line_words row = account_words row []

abbrev pub words_of_loan : ℕ → TitleRow → List (List ℕ)
words_of_loan loan title = codes "loan" ∷ decimal loan ∷ codes "title" ∷ decimal title.title ∷ title.text ∷ []

abbrev pub charge_words : LineRow → ℕ → TitleRow → List ℕ
charge_words row loan title = account_words row (words_of_loan loan title)

-- A copy to pull from its shelf for a hold.
abbrev pub pull_words : ℕ → ℕ → TitleRow → List ℕ
pull_words hold copy title =
    spaced (codes "hold" ∷ decimal hold ∷ codes "copy" ∷ decimal copy ∷ codes "title" ∷ decimal title.title ∷ title.text ∷ [])

-- The loan exists, and this is the title of its copy.
abbrev pub IsTitleOfLoan : ℕ → History → TitleRow → Type 0
IsTitleOfLoan loan H title = (row : LoanRow) × ((picture H).loans loan ≡ Some row) × IsTitleOf row.copy H title

-- Today, and the kind of a patron.
abbrev pub today_words : ℕ → List ℕ
today_words day = spaced (codes "today" ∷ day_text day ∷ [])

abbrev pub kind_words : ℕ → List ℕ
kind_words kind = spaced (codes "kind" ∷ decimal kind ∷ [])

-- A rule, as far as its loans go, and the words after that, for its fines.
abbrev pub lending_words : RuleRow → List ℕ
lending_words row = spaced (codes "rule" ∷ decimal row.kind ∷ decimal row.copy_kind ∷ codes "period" ∷ decimal row.period
    ∷ codes "renewals" ∷ decimal row.renewals ∷ [])

abbrev pub fine_words : RuleRow → List (List ℕ)
fine_words row = codes "rate" ∷ decimal row.rate ∷ codes "cap" ∷ decimal row.cap ∷ codes "grace" ∷ decimal row.grace ∷ []

-- A closed day.
abbrev pub closed_day_words : ℕ → List ℕ
closed_day_words day = spaced (codes "day" ∷ day_text day ∷ [])

-- ---- replies

-- The reply is the answer to the question, whoever asks.
abbrev pub IsAnswer : Question → History → Reply → Type 0
IsAnswer q H reply = (owner : Owner) → reply ≡ answer H owner (Ask q)

-- The text is shown if its subject is known; otherwise the refusal says that it isn't.
abbrev pub reply_if : Bool → Refusal → List ℕ → Reply
reply_if known refusal text = elim known [ true ↦ Shown text | false ↦ Refused refusal ]

-- A title, as at the head of its lists.
abbrev pub title_words_of : TitleRow → List ℕ
title_words_of row = spaced (codes "title" ∷ decimal row.title ∷ row.text ∷ [])
