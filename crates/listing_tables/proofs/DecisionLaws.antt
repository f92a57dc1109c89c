-- What is decided of a delivery, by what each part of it does.
use Rattle.std.proofs.Common.{◌≡◌, ◌||◌, ⊎_elim, inl, inr, ℕ, nat_eq, true, false, not, List, [], ◌∷◌, ◌++◌, refl, sym, ap, subst, ◌∙◌}
use Rattle.std.specs.Prelude.{◌⊎◌}
use Rattle.indexmap.specs.IndexSet.{contains}
use Rattle.listing_tables.specs.Certainty.{IsOnlyOne, LooksAtAll}
use Rattle.listing_tables.specs.Changes.{RatesPair}
use Rattle.listing_tables.specs.Decisions.{ComesInDoubt, Decides, DoubtsEach, IsSure, KeepsWaiting, LeavesOpen, NotesCrowded}
use Rattle.listing_tables.specs.Doubts.{CountsDoubt, CountsLeaving}
use Rattle.listing_tables.specs.OneHandle.{LeavesAll, LeavesOneHandle}
use Rattle.listing_tables.specs.Pairing.{IsEvidenceOf, MarksFits, MarksSome, messages_of}
use Rattle.listing_tables.specs.Waiting.{AllWait, OthersWaitBut, entry_of, waits}
use Rattle.listing_tables.specs.declared.certainty.Evidence.{Evidence}
use Rattle.listing_tables.specs.declared.certainty.Sought.{Sought}
use Rattle.listing_tables.specs.declared.fitting.Fit.{Fit}
use Rattle.listing_tables.specs.declared.fitting.Fitting.{Fitting}
use Rattle.listing_tables.specs.declared.marks.Mark.{Mark}
use Rattle.listing_tables.specs.declared.numbered.Numbered.{Numbered}
use Rattle.listing_tables.specs.declared.pairs.Pairing.{Pairing}
use Rattle.listing_tables.specs.declared.waiting.Waiting.{Waiting}

-- what does not change keeps what waits
pub keeps_itself : (waiting : Waiting) → KeepsWaiting waiting waiting
keeps_itself waiting = record { waits = λ send h. h; doubted = refl; doubts = refl }

-- one more send comes into doubt
pub doubts_more : (a b c : Waiting) (fits : List Fit) (fit : Fit) → DoubtsEach a b fits → AllWait b c → CountsDoubt b fit.listed c
    → DoubtsEach a c (fits ++ fit ∷ [])
doubts_more a b c [] fit before kept counts =
    (c, subst (λ (w : Waiting). AllWait w c) before kept, subst (λ (w : Waiting). CountsDoubt w fit.listed c) before counts, refl)
doubts_more a b c (first ∷ fits) fit before kept counts =
    (before.0, before.1, before.2, doubts_more before.0 b c fits fit before.3 kept counts)

-- what is decided says what is marked
pub marks_of : (old new : Pairing) (sought : Sought) → Decides old sought new
    → MarksSome sought.message.oneway sought.index old.marks.all.items new.marks.all.items
marks_of old new sought decided = ⊎_elim (λ (sure : IsSure old sought new). inl (ap (λ (m : Numbered Mark). m.all.items) sure.marks))
    (λ (open_left : LeavesOpen old sought new). inr (new.fitting, open_left.marks)) decided

-- the keys that are noted stay noted while no more is looked at
pub crowded_still : (old mid new : Pairing) (sought : Sought) (found : Fitting)
    → mid ≡ record old { fitting = found; crowded = mid.crowded }
    → (found.is_whole ≡ false → contains nat_eq mid.crowded sought.message.key ≡ true)
    → ((key : ℕ) → contains nat_eq old.crowded key ≡ true → contains nat_eq mid.crowded key ≡ true)
    → new.fitting ≡ mid.fitting → new.crowded ≡ mid.crowded → NotesCrowded old sought new
crowded_still old mid new sought found same noted stays fitting crowded = record {
  crowded = λ h. ap (λ keys. contains nat_eq keys sought.message.key) crowded
      ∙ noted (sym (ap (λ (f : Fitting). f.is_whole) (fitting ∙ ap (λ (p : Pairing). p.fitting) same)) ∙ h);
  stays = λ key h. ap (λ keys. contains nat_eq keys key) crowded ∙ stays key h;
}

-- a delivery whose fits are these, and of which only what was crowded was noted so far
module _ (old mid new : Pairing) (sought : Sought) (evidence : Evidence) (known : IsEvidenceOf old evidence) (found : Fitting)
    (same : mid ≡ record old { fitting = found; crowded = mid.crowded }) where
  pub decides_sure : (fit : Fit) → IsOnlyOne evidence sought fit
      → RatesPair (messages_of mid) (messages_of new) fit.listed.index sought.index 1 true → new.marks ≡ mid.marks
      → waits new.waiting (entry_of fit.listed) ≡ false → OthersWaitBut (entry_of fit.listed) mid.waiting new.waiting
      → CountsLeaving mid.waiting fit.listed 0 new.waiting → new.news ≡ (mid.news || not fit.fresh) → Decides old sought new
  decides_sure fit only pairs marks gone others counts news =
      inl (record {
        evidence = evidence;
        known = known;
        fit = fit;
        only = only;
        pairs = subst (λ (p : Pairing). RatesPair (messages_of p) (messages_of new) fit.listed.index sought.index 1 true) same pairs;
        marks = marks ∙ ap (λ (p : Pairing). p.marks) same;
        gone = gone;
        others = subst (λ (p : Pairing). OthersWaitBut (entry_of fit.listed) p.waiting new.waiting) same others;
        counts = subst (λ (p : Pairing). CountsLeaving p.waiting fit.listed 0 new.waiting) same counts;
        news = news ∙ ap (λ (p : Pairing). p.news || not fit.fresh) same;
      })

  module _ (fitting : new.fitting ≡ mid.fitting) (more : new.news ≡ mid.news)
      (marked : MarksFits sought.message.oneway mid.fitting sought.index mid.marks.all.items new.marks.all.items) where
    is : new.fitting ≡ found
    is = fitting ∙ ap (λ (p : Pairing). p.fitting) same

    news : new.news ≡ old.news
    news = more ∙ ap (λ (p : Pairing). p.news) same

    marks : MarksFits sought.message.oneway new.fitting sought.index old.marks.all.items new.marks.all.items
    marks =
        subst (λ (f : Fitting). MarksFits sought.message.oneway f sought.index old.marks.all.items new.marks.all.items) (sym fitting)
        (subst (λ (p : Pairing). MarksFits sought.message.oneway mid.fitting sought.index p.marks.all.items new.marks.all.items) same marked)

    pub decides_none : LooksAtAll evidence sought found → KeepsWaiting mid.waiting new.waiting → Decides old sought new
    decides_none looks kept =
        inr (record {
          evidence = evidence;
          known = known;
          marks = marks;
          how = inl (record {
            looks = subst (LooksAtAll evidence sought) (sym is) looks;
            kept = subst (λ (p : Pairing). KeepsWaiting p.waiting new.waiting) same kept;
          });
          news = news;
        })

    pub decides_one : (LeavesAll evidence sought found ⊎ LeavesOneHandle evidence sought found) → (guessed : Waiting)
        → KeepsWaiting mid.waiting guessed → ComesInDoubt guessed mid.fitting.list.items sought.message.key new.waiting
        → Decides old sought new
    decides_one left guessed kept doubts =
        inr (record {
          evidence = evidence;
          known = known;
          marks = marks;
          how = inr (record {
            left = subst (λ (f : Fitting). LeavesAll evidence sought f ⊎ LeavesOneHandle evidence sought f) (sym is) left;
            guessed = guessed;
            kept = subst (λ (p : Pairing). KeepsWaiting p.waiting guessed) same kept;
            doubts = subst (λ (f : Fitting). ComesInDoubt guessed f.list.items sought.message.key new.waiting) (sym fitting) doubts;
          });
          news = news;
        })
