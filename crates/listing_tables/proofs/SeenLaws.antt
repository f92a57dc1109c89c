-- What is seen after one more frame.
use Rattle.std.proofs.Common.{◌≡◌, ◌≤◌, ◌<◌, inl, inr, ℕ, Bool, true, false, List, length, leb, leb-true, leb-false, sym, ap, subst, ◌∙◌}
use Rattle.std.specs.Bool.{OnFalse}
use Rattle.std.specs.List.Sorted.{IsPartitionPoint}
use Rattle.capture_frame.specs.declared.direction.Direction.{Direction}
use Rattle.listing_tables.specs.Gaps.{BeginsThread, ComesAfterGap, GoesOn, NotesAge, NotesGap, NotesProcess, TakesFrame}
use Rattle.listing_tables.specs.declared.seen.Seen.{Seen}
use Rattle.listing_tables.specs.declared.seen.Watched.{Watched}
use Rattle.listing_tables.specs.declared.spans.Owner.{Owner}

-- what holds unless a test passes holds where it fails
pub holds_unless : {P : Type 0} (b : Bool) → OnFalse b P → b ≡ false → P
holds_unless false h e = h
holds_unless true h e = absurd (apart e)
  where
    apart : true ≡ false → ⊥
    apart e = cc

-- the elements up to a number, and those above it
pub split_by : (xs : List ℕ) (place count : ℕ) → IsPartitionPoint (λ y. leb y place ≡ true) (λ y. leb y place ≡ false) xs count
    → IsPartitionPoint (λ y. y ≤ place) (λ y. place < y) xs count
split_by xs place count point = (
  λ k d low high. leb-true _ _ (point.0 k d low high),
  λ k d low high. leb-false _ _ (point.1 k d low high),
)

-- a gap is noted and nothing else of the gaps changes later
gap_kept : (old a new : Seen) (sequence place : ℕ) → NotesGap old a sequence place → new.gaps.items ≡ a.gaps.items
    → new.sequence ≡ a.sequence → NotesGap old new sequence place
gap_kept old a new sequence place notes gaps last = record {
  gap = λ (h : ComesAfterGap old.sequence sequence). gaps ∙ notes.gap h;
  none = λ (h : ComesAfterGap old.sequence sequence → ⊥). gaps ∙ notes.none h;
  last = last ∙ notes.last;
}

module _ (old a b : Seen) (sequence place : ℕ) (direction : Direction) (owner : Owner) (gap : NotesGap old a sequence place)
    (a_rest : a ≡ record old { gaps = a.gaps; sequence = a.sequence }) (process : NotesProcess a.old.all.items b.old.all.items owner.upid.index)
    (b_rest : b ≡ record a { old = b.old }) where
  known_process : NotesProcess old.old.all.items b.old.all.items owner.upid.index
  known_process =
      subst (λ (l : List Bool). NotesProcess l b.old.all.items owner.upid.index) (ap (λ (s : Seen). s.old.all.items) a_rest) process

  same_threads : b.threads.all.items ≡ old.threads.all.items
  same_threads = ap (λ (s : Seen). s.threads.all.items) b_rest ∙ ap (λ (s : Seen). s.threads.all.items) a_rest

  -- a frame of a thread that had one before
  pub goes_on : (new : Seen) → GoesOn b.threads.all.items new.threads.all.items owner.utid.index (length b.gaps.items)
      → new ≡ record b { threads = new.threads } → TakesFrame old sequence place direction owner new
  goes_on new goes rest =
      let gaps : new.gaps.items ≡ b.gaps.items = ap (λ (s : Seen). s.gaps.items) rest in
      let all : new.gaps.items ≡ a.gaps.items = gaps ∙ ap (λ (s : Seen). s.gaps.items) b_rest in
      let last : new.sequence ≡ a.sequence = ap (λ (s : Seen). s.sequence) rest ∙ ap (λ (s : Seen). s.sequence) b_rest in
      record {
        gaps = gap_kept old a new sequence place gap all last;
        known = b.old.all.items;
        process = known_process;
        thread = inr (
          subst (λ (l : List Watched). GoesOn l new.threads.all.items owner.utid.index (length new.gaps.items)) same_threads
              (subst (λ (l : List ℕ). GoesOn b.threads.all.items new.threads.all.items owner.utid.index (length l)) (sym gaps) goes),
          ap (λ (s : Seen). s.old.all.items) rest,
        );
        referred = ap (λ (s : Seen). s.referred) rest ∙ ap (λ (s : Seen). s.referred) b_rest ∙ ap (λ (s : Seen). s.referred) a_rest;
      }

  -- the first frame of a thread
  pub begins : (c new : Seen) → BeginsThread b.threads.all.items c.threads.all.items owner.utid.index (length b.gaps.items)
      → c ≡ record b { threads = c.threads } → NotesAge direction c.old.all.items new.old.all.items owner.upid.index
      → new ≡ record c { old = new.old } → TakesFrame old sequence place direction owner new
  begins c new begun rest age new_rest =
      let gaps : new.gaps.items ≡ b.gaps.items = ap (λ (s : Seen). s.gaps.items) new_rest ∙ ap (λ (s : Seen). s.gaps.items) rest in
      let all : new.gaps.items ≡ a.gaps.items = gaps ∙ ap (λ (s : Seen). s.gaps.items) b_rest in
      let last : new.sequence ≡ a.sequence
      = ap (λ (s : Seen). s.sequence) new_rest ∙ ap (λ (s : Seen). s.sequence) rest ∙ ap (λ (s : Seen). s.sequence) b_rest in
      let threads : new.threads.all.items ≡ c.threads.all.items = ap (λ (s : Seen). s.threads.all.items) new_rest in
      let known : c.old.all.items ≡ b.old.all.items = ap (λ (s : Seen). s.old.all.items) rest in
      record {
        gaps = gap_kept old a new sequence place gap all last;
        known = b.old.all.items;
        process = known_process;
        thread = inl (
          subst (λ (l : List Watched). BeginsThread l new.threads.all.items owner.utid.index (length new.gaps.items)) same_threads
              (subst (λ (l : List Watched). BeginsThread b.threads.all.items l owner.utid.index (length new.gaps.items)) (sym threads)
              (subst (λ (l : List ℕ). BeginsThread b.threads.all.items c.threads.all.items owner.utid.index (length l)) (sym gaps) begun)),
          subst (λ (l : List Bool). NotesAge direction l new.old.all.items owner.upid.index) known age,
        );
        referred = ap (λ (s : Seen). s.referred) new_rest ∙ ap (λ (s : Seen). s.referred) rest ∙ ap (λ (s : Seen). s.referred) b_rest
            ∙ ap (λ (s : Seen). s.referred) a_rest;
      }
