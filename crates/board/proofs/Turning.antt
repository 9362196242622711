-- One more frame is shown, from the promises of its calls.
use Rattle.std.proofs.Common.{◌≡◌, true, List, [], ◌∷◌, ◌++◌, fold, Global, sym, ap, ◌∙◌, subst}
use Rattle.std.specs.Arc.{arc_value}
use Rattle.std.specs.declared.sync.Arc.{Arc}
use Rattle.logbook.specs.Pages.{Book}
use Rattle.chronicle.specs.Growing.{Known, known}
use Rattle.board.specs.declared.board.Update.{Update}
use Rattle.board.specs.declared.board.Update.TheVariants as update
use Rattle.board.specs.declared.entry.Entry.{Entry}
use Rattle.board.specs.declared.entry.Frame.{Frame}
use Rattle.board.specs.declared.entry.Seen.{Seen}
use Rattle.board.specs.Showing.{Showing, IsNextEntry, next_frame, seen_of, updated, with_entry}
use Rattle.board.specs.Rule.{ShowsAll, are_pages}
use Rattle.board.proofs.Beginnings.{fold-append}
use Rattle.board.proofs.Keeping.{frames_next}

-- An entry may be shown next on this board, and these are all frames then.
pub record MayTurn (x : Showing) (us : List Update) (e : Entry) (whole : Known Frame) : Type 0 where
  pub shows : ShowsAll (seen_of x.frames.items) x
  pub may : IsNextEntry (seen_of x.frames.items).entries e
  pub pages : are_pages us ≡ true
  pub whole_is : whole ≡ frames_next x us e

pub may-turn : (x board : Showing) (us : List Update) (d e : Entry) (book chronicle : Book) (frames next whole : Known Frame) (shown : Seen)
    → x ≡ board → ShowsAll (seen_of frames.items) board → board.frames ≡ frames
    → are_pages us ≡ true → chronicle ≡ book → frames.book ≡ book → seen_of frames.items ≡ shown → IsNextEntry shown.entries e → next ≡ frames → d ≡ e
    → whole ≡ known chronicle (next.items ++ next_frame board us d ∷ []) → MayTurn x us e whole
may-turn x board us d e book chronicle frames next whole shown same shows holds pages name named seen may again is added =
    let all : x.frames ≡ frames = ap (λ (y : Showing). y.frames) same ∙ holds in
    let items : next.items ≡ x.frames.items = ap (λ (k : Known Frame). k.items) (again ∙ sym all) in
    let book-is : chronicle ≡ x.frames.book = name ∙ (sym named ∙ ap (λ (k : Known Frame). k.book) (sym all)) in
    record {
      shows = subst (λ (k : Known Frame). ShowsAll (seen_of k.items) x) (sym all) (subst (λ (y : Showing). ShowsAll (seen_of frames.items) y) (sym same) shows);
      may = subst (λ (k : Known Frame). IsNextEntry (seen_of k.items).entries e) (sym all) (subst (λ (s : Seen). IsNextEntry s.entries e) (sym seen) may);
      pages = pages;
      whole_is = added ∙ (ap (λ b. known b (next.items ++ next_frame board us d ∷ [])) book-is
          ∙ (ap (λ l. known x.frames.book (l ++ next_frame board us d ∷ [])) items
          ∙ (ap (λ (y : Showing). known x.frames.book (x.frames.items ++ next_frame y us d ∷ [])) (sym same)
          ∙ ap (λ (f : Entry). known x.frames.book (x.frames.items ++ next_frame x us f ∷ [])) is)));
    }

-- what the board is once it is shown
pub turned : (x y : Showing) (us all : List Update) (a : Arc Entry Global) (e : Entry) (k whole : Known Frame) → MayTurn x us e whole
    → arc_value a ≡ e → k ≡ whole → all ≡ us ++ update.Entry a k ∷ []
    → y ≡ fold updated x all → y ≡ with_entry (fold updated x us) e (frames_next x us e)
turned x y us all a e k whole may is again pending shown =
    let mid : Showing = fold updated x us in
    shown ∙ (ap (fold updated x) pending
    ∙ (fold-append updated x us (update.Entry a k ∷ [])
    ∙ (ap (λ (f : Entry). with_entry mid f k) is ∙ ap (with_entry mid e) (again ∙ may.whole_is))))
