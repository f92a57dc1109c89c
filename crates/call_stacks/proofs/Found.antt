-- The openers and the unmatched closers of bracketed events, as they are defined and as they are read from the end.
use Rattle.std.proofs.Common.{◌≡◌, ℕ, zero, suc, ◌+◌, ◌-◌, ◌==◌, ◌&&◌, Bool, true, false, cond, Option, Some, None, refl, sym, ap, ap₂, subst, ◌∙◌, arith, ne_eqb}
use Rattle.std.proofs.Common.{List, [], ◌∷◌, ◌++◌, map, drop}
use Rattle.std.proofs.lemmas.List.{drop_all, map-append}
use Rattle.std.proofs.lemmas.List.Sums.{fold-append}
use Rattle.std.proofs.lemmas.Simd.{map-map}
use Rattle.std.specs.List.{cons_option, fold}
use Rattle.std.specs.Prelude.{slice_get, option_map}
use Rattle.call_stacks.specs.declared.opener.Opener.{Opener}
use Rattle.event_core.specs.declared.marks.Mark.{Mark}
use Rattle.call_stacks.specs.Calls.{Reads, Bracketed, as_bracketed, bracket_read, bracketed_with, bracketed_of, mark_after, is_unmatched, open_after, open_count, opener_by, opener_place, opener_read, openers_in, openers_of, sides_of, strays_in, unmatched_closers}
use Rattle.call_stacks.specs.Matched.{IsOpener, IsStrayEvent}
use Rattle.call_stacks.specs.Matching.{Side, opener, closer, neither, is_closer, is_opener}
use Rattle.call_stacks.specs.Verdicts.{side_of}
use Rattle.call_stacks.proofs.Bracketing.{bracketed-append, pair, side}
use Rattle.call_stacks.proofs.Lists.{event_of, found, openers_found, openers_listed, strays_found, strays_listed}
use Rattle.call_stacks.proofs.Model.{both, entry, first_of, openers, openers-map, put, strays, strays-map}
use Rattle.summary_law.proofs.Members.{rises_from_pairs}
use Rattle.summary_law.proofs.ReadingLaws.{read-made}
use Rattle.summary_law.specs.Fits.{PlacesRise}
use Rattle.summary_law.specs.Ranked.{ListsInOrder}
use Rattle.summary_law.specs.Readings.{chosen, read_each}

module _ {E : Type 0} where
  abbrev own_side : Bracketed E → Side
  own_side found = side_of found.bracket

  -- one more event
  count-more : (before : List (Bracketed E)) (x : Bracketed E) → open_count (before ++ x ∷ []) ≡ open_after (open_count before) (own_side x)
  count-more before x =
      ap (fold open_after 0) (map-append own_side before (x ∷ [])) ∙ fold-append open_after 0 (sides_of before) (own_side x ∷ [])

  -- the open calls take the first of the later unmatched closers, and the others are left
  left : (s : Side) (n : ℕ) (x : Bracketed E) (later after : List (Bracketed E)) → drop (open_after n s) later ≡ after
      → drop n (put s x later) ≡ cons_option (cond (is_closer s && (n == 0)) (Some x) None) after
  left opener n x [] after same = drop_all n [] (omega arith) ∙ sym (drop_all (n + 1) [] (omega arith)) ∙ same
  left opener n x (y ∷ later) after same = ap (λ (k : ℕ). drop k (y ∷ later)) (let one : suc n ≡ n + 1 = omega arith in one) ∙ same
  left closer zero x later after same = ap (λ (t : List (Bracketed E)). x ∷ t) same
  left closer (suc n) x later after same =
      ap (λ (k : ℕ). drop k later) (let one : n ≡ suc n - 1 = omega arith in one) ∙ same
      ∙ ap (λ (b : Bool). cons_option (cond b (Some x) None) after) (sym (ne_eqb (suc n) 0 (λ zero_is. absurd (omega (arith, zero_is)))))
  left neither n x later after same = same

  unmatched-left : (before items : List (Bracketed E)) → drop (open_count before) (strays own_side items) ≡ read_each (chosen is_unmatched) before items
  unmatched-left before [] = drop_all (open_count before) [] (omega arith)
  unmatched-left before (x ∷ items) =
      left (own_side x) (open_count before) x (strays own_side items) (read_each (chosen is_unmatched) (before ++ x ∷ []) items)
      (ap (λ (n : ℕ). drop n (strays own_side items)) (sym (count-more before x)) ∙ unmatched-left (before ++ x ∷ []) items)

  pub unmatched-found : (items : List (Bracketed E)) → unmatched_closers items ≡ strays own_side items
  unmatched-found items = sym (unmatched-left [] items)

  stray-chosen : (b : Bool) (x : Bracketed E) → cond b (Some x.event) None ≡ option_map (λ (f : Bracketed E). f.event) (cond b (Some x) None)
  stray-chosen true x = refl
  stray-chosen false x = refl

  pub strays-found : (items : List (Bracketed E)) → strays_in items ≡ strays_found items
  strays-found items =
      ap (λ (read : List (Bracketed E) → Bracketed E → List (Bracketed E) → Option E). read_each read [] items)
      (λ i before x later. stray-chosen (is_unmatched before x later) x i)
      ∙ sym (read-made (chosen is_unmatched) (λ (f : Bracketed E). f.event) [] items)
      ∙ ap (map (λ (x : Bracketed E). x.event)) (unmatched-found items)
      ∙ sym (ap (map event_of) (strays-map pair side items) ∙ map-map event_of pair (strays own_side items))

module _ {E : Type 0} (reads : Reads E) where
  by_found : (x : Bracketed E) (h : Option (Bracketed E)) → opener_by reads x.event h ≡ found reads (both pair (x, h))
  by_found x None = refl
  by_found x (Some answer) = refl

  one-found : (s : Side) (x : Bracketed E) (items : List (Bracketed E)) (rest : List (Opener E)) (model : List (Bracketed E × Option (Bracketed E)))
      → rest ≡ map (λ p. found reads (both pair p)) model
      → cons_option (cond (is_opener s) (Some (opener_by reads x.event (slice_get (unmatched_closers items) 0))) None) rest
      ≡ map (λ p. found reads (both pair p)) (entry s x (strays own_side items) model)
  one-found opener x items rest model same =
      ap₂ (λ (call : Opener E) (calls : List (Opener E)). call ∷ calls)
      (ap (λ (closers : List (Bracketed E)). opener_by reads x.event (slice_get closers 0)) (unmatched-found items)
      ∙ by_found x (first_of (strays own_side items))) same
  one-found closer x items rest model same = same
  one-found neither x items rest model same = same

  each-found : (before items : List (Bracketed E)) → read_each (opener_read reads) before items ≡ map (λ p. found reads (both pair p)) (openers own_side items)
  each-found before [] = refl
  each-found before (x ∷ items) =
      one-found (own_side x) x items (read_each (opener_read reads) (before ++ x ∷ []) items) (openers own_side items) (each-found (before ++ x ∷ []) items)

  pub openers-found : (items : List (Bracketed E)) → openers_in reads items ≡ openers_found reads items
  openers-found items =
      each-found [] items
      ∙ sym (ap (map (found reads)) (openers-map pair side items) ∙ map-map (found reads) (both pair) (openers own_side items))

module _ {E : Type 0} (reads : Reads E) (events : List E) (rise : PlacesRise reads.place events) where
  -- the openers of a thread are the openers that are matched, or that nothing matches
  pub openers-listed : ListsInOrder (opener_place reads) (IsOpener reads (bracketed_of reads events)) (openers_of reads events)
  openers-listed =
      subst (ListsInOrder (opener_place reads) (IsOpener reads (bracketed_of reads events))) (sym (openers-found reads (bracketed_of reads events)))
      (openers_listed reads (bracket_read reads) None events (rises_from_pairs reads.place events rise))

  -- the strays are the closers that match nothing
  pub strays-listed : ListsInOrder reads.place (IsStrayEvent (bracketed_of reads events)) (strays_in (bracketed_of reads events))
  strays-listed =
      subst (ListsInOrder reads.place (IsStrayEvent (bracketed_of reads events))) (sym (strays-found (bracketed_of reads events)))
      (strays_listed reads (bracket_read reads) None events (rises_from_pairs reads.place events rise))

-- what is read of bracketed events is what is read of the events
pub bracketed-read : {E Y : Type 0} (reads : Reads E) (read : List (Bracketed E) → Bracketed E → List (Bracketed E) → Option Y) (before events : List E)
    → read_each read (bracketed_of reads before) (bracketed_with reads (bracket_read reads) (fold (mark_after reads) None before) events)
    ≡ read_each (as_bracketed reads read) before events
bracketed-read reads read before [] = refl
bracketed-read {E} {Y} reads read before (event ∷ later) =
    let mark = fold (mark_after reads) None before in
    let next = before ++ event ∷ [] in
    let found : Bracketed E = record { event = event; before = mark; bracket = bracket_read reads mark event } in
    let after : Option Mark → List (Bracketed E) = λ m. bracketed_with reads (bracket_read reads) m later in
    let marks : fold (mark_after reads) None next ≡ mark_after reads mark event = fold-append (mark_after reads) None before (event ∷ []) in
    let bracketed : bracketed_of reads next ≡ bracketed_of reads before ++ found ∷ [] = bracketed-append reads (bracket_read reads) None before (event ∷ []) in
    ap (cons_option (read (bracketed_of reads before) found (after (mark_after reads mark event))))
    (ap₂ (λ (b : List (Bracketed E)) (m : Option Mark). read_each read b (after m)) (sym bracketed) (sym marks) ∙ bracketed-read reads read next later)
