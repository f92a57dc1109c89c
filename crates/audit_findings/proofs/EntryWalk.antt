-- A walk through the events of a frame and through the places of the chosen ones at the same time.
use Rattle.std.proofs.Common.{◌≡◌, ◌≢◌, ℕ, ◌+◌, ◌<◌, ◌≤◌, Bool, true, false, List, [], ◌∷◌, ◌++◌, length, map, All, Option, Some, None, refl, sym, ap, ap₂, subst, ◌∙◌, append_assoc, arith, ⊎_elim}
use Rattle.std.specs.Prelude.{filter}
use Rattle.std.specs.List.{sum_by}
use Rattle.std.proofs.lemmas.Bool.{cases_Bool}
use Rattle.std.proofs.lemmas.List.{append-nil, map-append}
use Rattle.std.proofs.lemmas.List.Elements.{All-append, All-filter, All-head, All-map, All-weaker, filter-append, filter_map-append}
use Rattle.std.proofs.lemmas.List.Sums.{sum_by-append}
use Rattle.capture_frame.specs.Envelope.{PlacedFrame}
use Rattle.capture_frame.specs.Lookup.{span_of}
use Rattle.capture_frame.specs.Units.{Placed}
use Rattle.transaction_view.specs.Attachments.{EntryText}
use Rattle.transaction_view.specs.State.{placed_entry}
use Rattle.event_core.specs.Events.{EventRead, events_of}
use Rattle.event_core.specs.Reading.{event_text}
use Rattle.event_core.specs.declared.event.Event.{Event}
use Rattle.event_core.proofs.FrameEvents.{events_rise, events_within, lists_fit}
use Rattle.summary_law.specs.Fits.{PlacesRise, all_halves, rising_halves}
use Rattle.transaction_view.specs.declared.entry.Entry.{Entry}
use Rattle.audit_findings.specs.Entries.{AddsEntries, AreChosen, ShowAttachments, carried_by, entries_in, entry_list, list_bytes}
use Rattle.audit_findings.specs.Kept.{places_of}
use Rattle.audit_findings.specs.Ledgers.{offset_bytes_of}
use Rattle.audit_findings.proofs.FrameLaws.{IsWithin, first_same}
use Rattle.capture_frame.proofs.Pairs.{pairs_head}

-- ---- an event that is chosen, and one that is not

kept_first : {X : Type 0} (p : X → Bool) (x : X) (xs : List X) → p x ≡ true → filter p (x ∷ xs) ≡ x ∷ filter p xs
kept_first p x xs is = rw is refl

left_out : {X : Type 0} (p : X → Bool) (x : X) (xs : List X) → p x ≡ false → filter p (x ∷ xs) ≡ filter p xs
left_out p x xs is = rw is refl

-- ---- the entry of an event

-- the list of offsets of an entry
abbrev list_long : Entry → ℕ
list_long entry = length entry.offsets.now

one_carried : (e : Event) (entry : Option Entry) → e.entry ≡ entry
    → (map placed_entry (entry_list entry) ≡ carried_by (event_text e ∷ [])) × (list_bytes (entry_list entry) ≡ offset_bytes_of (event_text e))
one_carried e None is =
    let none : carried_by (event_text e ∷ []) ≡ [] = rw is refl in
    let no_bytes : offset_bytes_of (event_text e) ≡ 0 = rw is refl in
    (sym none, sym no_bytes)
one_carried e (Some entry) is =
    let one : carried_by (event_text e ∷ []) ≡ placed_entry entry ∷ [] = rw is refl in
    let bytes : offset_bytes_of (event_text e) ≡ length entry.offsets.now = rw is refl in
    (sym one, omega (arith, bytes))

-- ---- the events that a reader has given

-- These events are ahead. The entries of the chosen ones before them are added, and the places of the chosen ones ahead
-- are left.
pub record IsRead (old : List Entry) (frame : PlacedFrame) (places : List ℕ) (ahead : List EventRead) (new : List Entry) (left : List ℕ) : Type 0 where
  pub done : List EventRead
  pub are : events_of frame ≡ done ++ ahead
  pub grows : list_bytes new ≤ list_bytes old + sum_by offset_bytes_of done
  pub told : (choice : EventRead → Bool) (others : List ℕ) → All (λ p. frame.place + span_of frame ≤ p) others → AreChosen choice (events_of frame) others places
      → (left ≡ places_of (filter choice ahead) ++ others) × ShowAttachments new (map placed_entry old ++ carried_by (filter choice done))

pub none_read : (entries : List Entry) (frame : PlacedFrame) (places : List ℕ) (ahead : List EventRead) → ahead ≡ events_of frame
    → IsRead entries frame places ahead entries places
none_read entries frame places ahead is = record {
  done = [];
  are = sym is;
  grows = omega arith;
  told = λ choice others after chosen.
      (chosen ∙ ap (λ es. places_of (filter choice es) ++ others) (sym is), sym (append-nil (map placed_entry entries)));
}

module _ (old middle : List Entry) (frame : PlacedFrame) (places left : List ℕ) (ahead rest : List EventRead) (found : Event)
    (is_read : IsRead old frame places ahead middle left) (next : ahead ≡ event_text found ∷ rest) where
  abbrev E : EventRead
  E = event_text found

  abbrev done : List EventRead
  done = is_read.done

  here : events_of frame ≡ done ++ E ∷ rest
  here = is_read.are ∙ ap (λ es. done ++ es) next

  are_more : events_of frame ≡ (done ++ E ∷ []) ++ rest
  are_more = here ∙ sym (append_assoc done (E ∷ []) rest)

  lists_more : sum_by offset_bytes_of (done ++ E ∷ []) ≡ sum_by offset_bytes_of done + offset_bytes_of E
  lists_more = let split = sum_by-append offset_bytes_of done (E ∷ []) in omega (arith, split)

  -- the places after the event
  above : (choice : EventRead → Bool) (others : List ℕ) → All (λ p. frame.place + span_of frame ≤ p) others
      → All (λ p. E.place < p) (places_of (filter choice rest) ++ others)
  above choice others after =
      let place : EventRead → ℕ = λ e. e.place in
      let within = All-head (IsWithin frame) E rest (all_halves (IsWithin frame) done (E ∷ rest) (subst (All (IsWithin frame)) here (events_within frame))).1 in
      let rise = pairs_head (λ a b. a.place < b.place) E rest (rising_halves place done (E ∷ rest) (subst (PlacesRise place) here (events_rise frame))).1 in
      let ends = within.1 in
      All-append (λ p. E.place < p) (places_of (filter choice rest)) others
      (All-map (λ p. E.place < p) place (filter choice rest) (All-filter choice (λ e. E.place < e.place) rest rise))
      (All-weaker (λ p. frame.place + span_of frame ≤ p) (λ p. E.place < p) (λ p far. omega (arith, far, ends)) others after)

  filter_more : (choice : EventRead → Bool) → filter choice (done ++ E ∷ []) ≡ filter choice done ++ filter choice (E ∷ [])
  filter_more choice = filter-append choice done (E ∷ [])

  -- the next place is that of the event
  pub read_chosen : (new : List Entry) (others_left : List ℕ) → left ≡ E.place ∷ others_left → new ≡ middle ++ entries_in found
      → IsRead old frame places rest new others_left
  read_chosen new others_left first added =
      let one = one_carried found found.entry refl in
      let grows = is_read.grows in
      let longer = ap list_bytes added ∙ sum_by-append list_long middle (entries_in found) in
      record {
        done = done ++ E ∷ [];
        are = are_more;
        grows = omega (arith, grows, lists_more, longer, one.1);
        told = λ choice others after chosen.
            let i = is_read.told choice others after chosen in
            let before = filter choice done in
            let left_is = sym first ∙ i.0 ∙ ap (λ es. places_of (filter choice es) ++ others) next in
            ⊎_elim
            (λ (yes : choice E ≡ true).
            let same = first_same E.place E.place others_left (places_of (filter choice rest) ++ others)
            (left_is ∙ ap (λ es. places_of es ++ others) (kept_first choice E rest yes)) in
            let kept : filter choice (done ++ E ∷ []) ≡ before ++ E ∷ [] = filter_more choice ∙ ap (λ es. before ++ es) (kept_first choice E [] yes) in (
              same.1,
              ap (map placed_entry) added ∙ map-append placed_entry middle (entries_in found)
                  ∙ ap₂ (λ (us vs : List (Placed EntryText)). us ++ vs) i.1 one.0
                  ∙ append_assoc (map placed_entry old) (carried_by before) (carried_by (E ∷ []))
                  ∙ ap (λ us. map placed_entry old ++ us) (sym (filter_map-append (λ (e : EventRead). e.entry) before (E ∷ [])) ∙ ap carried_by (sym kept)),
            ))
            (λ (no : choice E ≡ false).
            let higher = All-head (λ p. E.place < p) E.place others_left
            (subst (All (λ p. E.place < p)) (sym (left_is ∙ ap (λ es. places_of es ++ others) (left_out choice E rest no))) (above choice others after)) in
            absurd (omega (arith, higher)))
            (cases_Bool (choice E));
      }

  -- the next place is not that of the event
  pub read_other : ((others : List ℕ) → left ≢ E.place ∷ others) → IsRead old frame places rest middle left
  read_other never =
      let grows = is_read.grows in
      record {
        done = done ++ E ∷ [];
        are = are_more;
        grows = omega (arith, grows, lists_more);
        told = λ choice others after chosen.
            let i = is_read.told choice others after chosen in
            let before = filter choice done in
            let left_is = i.0 ∙ ap (λ es. places_of (filter choice es) ++ others) next in
            ⊎_elim
            (λ (yes : choice E ≡ true).
            absurd (never (places_of (filter choice rest) ++ others) (left_is ∙ ap (λ es. places_of es ++ others) (kept_first choice E rest yes))))
            (λ (no : choice E ≡ false).
            let kept : filter choice (done ++ E ∷ []) ≡ before =
            filter_more choice ∙ ap (λ es. before ++ es) (left_out choice E [] no) ∙ append-nil before in (
              left_is ∙ ap (λ es. places_of es ++ others) (left_out choice E rest no),
              i.1 ∙ ap (λ es. map placed_entry old ++ carried_by es) (sym kept),
            ))
            (cases_Bool (choice E));
      }

-- at the end all events of the frame are given
module _ (old new : List Entry) (frame : PlacedFrame) (places left : List ℕ) (ahead : List EventRead) (is_read : IsRead old frame places ahead new left)
    (none : ahead ≡ []) where
  all_done : events_of frame ≡ is_read.done
  all_done = is_read.are ∙ ap (λ es. is_read.done ++ es) none ∙ append-nil is_read.done

  pub grows_frame : list_bytes new ≤ list_bytes old + length frame.unit.attachments
  grows_frame =
      let grows = is_read.grows in
      let fit = lists_fit frame in
      let all = ap (sum_by offset_bytes_of) all_done in
      omega (arith, grows, fit, all)

  pub adds_frame : AddsEntries old frame places new left
  adds_frame choice others after chosen =
      let i = is_read.told choice others after chosen in (
        i.0 ∙ ap (λ es. places_of (filter choice es) ++ others) none,
        i.1 ∙ ap (λ es. map placed_entry old ++ carried_by (filter choice es)) (sym all_done),
      )
