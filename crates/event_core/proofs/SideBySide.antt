-- The events of the records of a frame beside its entries are the events of the frame.
use Rattle.std.proofs.Common.{◌≡◌, ℕ, ◌<◌, inl, inr, List, [], ◌∷◌, map, get_or, Some, None, refl, sym, ap, ◌∙◌, arith}
use Rattle.std.specs.Prelude.{All, AllPairs, Contains, find}
use Rattle.std.proofs.lemmas.Bool.{cases_eq, eq-eqb, ne_eqb}
use Rattle.std.proofs.lemmas.List.Elements.{All-cons, All-contains, All-head, All-map, All-nil, All-tail}
use Rattle.std.proofs.lemmas.Map.Made.{Contains-tail}
use Rattle.capture_frame.specs.Envelope.{FrameText, PlacedFrame}
use Rattle.capture_frame.specs.Units.{Placed}
use Rattle.record_view.specs.Records.{RecordText, records_of}
use Rattle.record_view.proofs.RecordLaws.{records_apart}
use Rattle.transaction_view.specs.Attachments.{EntryText, entries_of}
use Rattle.event_core.specs.Events.{EventRead, belongs_to, event_with, events_of}
use Rattle.event_core.specs.State.{events_beside}
use Rattle.transaction_view.proofs.EntryLaws.{owners_rise, owners_there}
use Rattle.capture_frame.proofs.Pairs.{pairs_head, pairs_tail}

abbrev place_of : Placed RecordText → ℕ
place_of there = there.place

abbrev owner_of : Placed EntryText → ℕ
owner_of e = e.unit.owner

-- each of these entries belongs to one of these records
abbrev Belong : List (Placed RecordText) → List (Placed EntryText) → Type 0
Belong records entries = All (λ e. Contains (map place_of records) (owner_of e)) entries

-- the event of a record of a frame that has these entries
abbrev event_among : FrameText → List (Placed EntryText) → Placed RecordText → EventRead
event_among frame entries there = event_with frame there (find (belongs_to there.place) entries)

none_found : (place : ℕ) (entries : List (Placed EntryText)) → All (λ e. place < owner_of e) entries → find (belongs_to place) entries ≡ None
none_found place [] above = refl
none_found place (e ∷ entries) above =
    let first = All-head (λ x. place < owner_of x) e entries above in
    rw (ne_eqb (owner_of e) place (λ same. absurd (omega (arith, first, same)))) (none_found place entries (All-tail (λ x. place < owner_of x) e entries above))

-- entries after the first record belong to the others
belong_later : (r : Placed RecordText) (records : List (Placed RecordText)) (entries : List (Placed EntryText)) → All (λ e. r.place < owner_of e) entries
    → Belong (r ∷ records) entries → Belong records entries
belong_later r records entries above belong k d within =
    let less = above k d within in
    Contains-tail r.place (map place_of records) (owner_of (get_or entries k d)) (λ same. absurd (omega (arith, less, same))) (belong k d within)

same_events : (frame : FrameText) (e : Placed EntryText) (entries : List (Placed EntryText)) (records : List (Placed RecordText))
    → All (λ r. owner_of e < r.place) records → map (event_among frame entries) records ≡ map (event_among frame (e ∷ entries)) records
same_events frame e entries [] above = refl
same_events frame e entries (r ∷ records) above =
    let first = All-head (λ x. owner_of e < x.place) r records above in
    rw (ne_eqb (owner_of e) r.place (λ same. absurd (omega (arith, first, same))))
    (ap (λ (l : List EventRead). event_among frame entries r ∷ l) (same_events frame e entries records (All-tail (λ x. owner_of e < x.place) r records above)))

beside : (frame : FrameText) (records : List (Placed RecordText)) (entries : List (Placed EntryText)) → AllPairs (λ a b. place_of a < place_of b) records
    → AllPairs (λ a b. owner_of a < owner_of b) entries → Belong records entries
    → events_beside frame records entries ≡ map (event_among frame entries) records
beside frame [] entries rise owners belong = refl
beside frame (r ∷ records) [] rise owners belong =
    ap (λ (l : List EventRead). event_with frame r None ∷ l)
    (beside frame records [] (pairs_tail (λ a b. place_of a < place_of b) r records rise) owners (All-nil (λ e. Contains (map place_of records) (owner_of e))))
beside frame (r ∷ records) (e ∷ entries) rise owners belong =
    let records_later = pairs_head (λ a b. place_of a < place_of b) r records rise in
    let entries_later = pairs_head (λ a b. owner_of a < owner_of b) e entries owners in
    let rise_later = pairs_tail (λ a b. place_of a < place_of b) r records rise in
    elim (cases_eq (owner_of e) r.place) [
      | inl same ↦
          let above : All (λ x. r.place < owner_of x) entries = λ k d within. let less = entries_later k d within in omega (arith, less, same) in
          let above_owner : All (λ x. owner_of e < x.place) records = λ k d within. let less = records_later k d within in omega (arith, less, same) in
          let rest = beside frame records entries rise_later (pairs_tail (λ a b. owner_of a < owner_of b) e entries owners)
          (belong_later r records entries above (All-tail (λ x. Contains (map place_of (r ∷ records)) (owner_of x)) e entries belong)) in
          rw (eq-eqb (owner_of e) r.place same)
          (ap (λ (l : List EventRead). event_with frame r (Some e) ∷ l) (rest ∙ same_events frame e entries records above_owner))
      | inr other ↦
          let own = All-head (λ x. Contains (map place_of (r ∷ records)) (owner_of x)) e entries belong in
          let first : r.place < owner_of e = All-contains (λ p. r.place < p) (map place_of records) (owner_of e)
          (All-map (λ p. r.place < p) place_of records records_later)
          (Contains-tail r.place (map place_of records) (owner_of e) (λ same. other (sym same)) own) in
          let above : All (λ x. r.place < owner_of x) entries = λ k d within. let less = entries_later k d within in omega (arith, less, first) in
          let rest = beside frame records (e ∷ entries) rise_later owners
          (belong_later r records (e ∷ entries) (All-cons (λ x. r.place < owner_of x) e entries first above) belong) in
          rw (ne_eqb (owner_of e) r.place other, none_found r.place entries above)
          (ap (λ (l : List EventRead). event_with frame r None ∷ l) rest)
    ]

pub side_by_side : (frame : PlacedFrame) → events_beside frame.unit (records_of frame).units (entries_of frame).units ≡ events_of frame
side_by_side frame =
    beside frame.unit (records_of frame).units (entries_of frame).units
    (λ i j d below within. let apart = records_apart frame i j d below within in omega (arith, apart)) (owners_rise frame) (owners_there frame)
