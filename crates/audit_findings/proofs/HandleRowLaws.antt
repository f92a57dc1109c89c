-- The rows of `handles` are those of the counts over all events.
use Rattle.std.proofs.Common.{◌≡◌, ℕ, ◌+◌, ◌<◌, Bool, true, false, cond, eqb, List, map, refl, sym, ap₂, subst, ◌∙◌, arith}
use Rattle.std.specs.Map.{keys_of}
use Rattle.std.specs.Ordering.{nat_cmp}
use Rattle.std.specs.Prelude.{count_by}
use Rattle.std.proofs.lemmas.Bool.{eq-eqb, eqb-true}
use Rattle.std.proofs.lemmas.Cmp.{nat_cmp_total}
use Rattle.std.proofs.lemmas.List.Sums.{sum_by-append}
use Rattle.std.proofs.lemmas.Map.Lookups.{exact_unsigned}
use Rattle.capture_frame.specs.Envelope.{PlacedFrame}
use Rattle.capture_frame.specs.declared.process.Process.{Process}
use Rattle.event_core.specs.Events.{EventRead, events_of_frames}
use Rattle.event_core.specs.Handles.{HandleItem}
use Rattle.event_core.specs.declared.strength.Strength.{Strength}
use Rattle.event_core.specs.declared.strength.Strength.TheVariants.{Strong, Weak}
use Rattle.handle_ledger.specs.Handles.{handle_change, handle_count}
use Rattle.handle_ledger.specs.Held.{Held, handles_of, held_count, held_row}
use Rattle.handle_ledger.specs.Rows.{change_at}
use Rattle.handle_ledger.specs.declared.held_row.HeldRow.{HeldRow}
use Rattle.process_ledgers.specs.Items.{handle_item_of}
use Rattle.process_ledgers.specs.Processes.{items_of_process, processes_of}
use Rattle.summary_law.specs.Count.{is_lower, is_raise}
use Rattle.summary_law.proofs.Members.{In}
use Rattle.audit_findings.specs.EventCounts.{HasValue, times_in}
use Rattle.audit_findings.specs.HandleRows.{IsHandleRow, changes_handle, gives_back, handle_value, names_handle, takes}
use Rattle.audit_findings.specs.Handles.{handle_references, handles_in}
use Rattle.audit_findings.specs.Held.{held_of_process, unweighed}
use Rattle.audit_findings.specs.Places.{RiseInPlace}
use Rattle.audit_findings.specs.RowsInTurn.{AreRowsInTurn}
use Rattle.summary_law.proofs.FilterLaws.{count_by-map}
use Rattle.audit_findings.proofs.EventCountLaws.{items_value, value_once}
use Rattle.audit_findings.proofs.HandleValues.{handle_effects, handle_named, if_handle}
use Rattle.audit_findings.proofs.HeldObjects.{all_held, both_strengths, held_is}
use Rattle.audit_findings.proofs.KeyRows.{count_items, counted_in, in_counted, rows_exact, rows_rising}

module _ (events : List EventRead) (rise : RiseInPlace events) (process : Process) where
  abbrev items : List HandleItem
  items = items_of_process handle_item_of process events

  abbrev held : List (Held × ℕ)
  held = unweighed (held_of_process events process)

  counts : (handle : ℕ) (strength : Strength) → HasValue (handle_value process handle strength) events (handle_count items handle strength)
  counts handle strength =
      let does = handle_change strength in
      items_value handle_item_of (change_at nat_cmp does handle) (names_handle (takes strength) handle) (names_handle (gives_back strength) handle)
      (λ e. if_handle handle is_raise refl does e.kind e.payload (takes strength e.kind) (handle_effects strength e.kind).0)
      (λ e. if_handle handle is_lower refl does e.kind e.payload (gives_back strength e.kind) (handle_effects strength e.kind).1) process events

  -- how often a handle is listed
  named : (handle : ℕ) → count_by (λ k. eqb k handle) (handles_of items held)
      ≡ times_in process (names_handle changes_handle handle) events + held_count held handle false + held_count held handle true
  named handle =
      let test : ℕ → Bool = λ k. eqb k handle in
      let own = held_of_process events process in
      let listed_and_held : count_by test (handles_of items held) ≡ count_by test (keys_of items) + count_by test (map (λ (r : Held × ℕ). r.0.0) held)
      = sum_by-append (λ (k : ℕ). cond (test k) 1 0) (keys_of items) (map (λ (r : Held × ℕ). r.0.0) held) in
      let listed : count_by test (keys_of items) ≡ times_in process (names_handle changes_handle handle) events
      = count_by-map (λ (item : HandleItem). item.0) test items
      ∙ count_items handle_item_of (λ item. test item.0) (names_handle changes_handle handle) (λ e. handle_named handle e.kind e.payload) process events in
      listed_and_held
      ∙ ap₂ (λ (a b : ℕ). a + b) listed
      (both_strengths handle own ∙ ap₂ (λ (a b : ℕ). a + b) (sym (held_is handle false own)) (sym (held_is handle true own)))
      ∙ three (times_in process (names_handle changes_handle handle) events) (held_count held handle false) (held_count held handle true)
    where
      three : (a b c : ℕ) → a + (b + c) ≡ a + b + c
      three a b c = omega arith

  sound : (handle : ℕ) → In handle (handles_of items held) → IsHandleRow events process (held_row items held handle)
  sound handle there = record {
    listed = subst (λ (n : ℕ). 0 < n) (named handle) (counted_in (λ k. eqb k handle) handle (eq-eqb handle handle refl) (handles_of items held) there);
    strong = counts handle Strong;
    weak = counts handle Weak;
    held_strong = all_held events rise process handle false;
    held_weak = all_held events rise process handle true;
  }

  whole : (row : HeldRow) → IsHandleRow events process row → In row.handle (handles_of items held) × (held_row items held row.handle ≡ row)
  whole row is =
      let handle = row.handle in
      let strong = value_once (handle_value process handle Strong) events (handle_count items handle Strong) row.taken.strong (counts handle Strong) is.strong in
      let weak = value_once (handle_value process handle Weak) events (handle_count items handle Weak) row.taken.weak (counts handle Weak) is.weak in
      let held_strong : held_count held handle false ≡ row.held_strong = all_held events rise process handle false ∙ sym is.held_strong in
      let held_weak : held_count held handle true ≡ row.held_weak = all_held events rise process handle true ∙ sym is.held_weak in
      let listed : 0 < count_by (λ k. eqb k handle) (handles_of items held)
      = subst (λ (n : ℕ). 0 < n)
      (sym (named handle ∙ ap₂ (λ (a b : ℕ). times_in process (names_handle changes_handle handle) events + a + b) held_strong held_weak)) is.listed in (
        in_counted (λ k. eqb k handle) handle (λ k same. eqb-true k handle same) (handles_of items held) listed,
        λ i. record { handle = handle; taken = record { strong = strong i; weak = weak i }; held_strong = held_strong i; held_weak = held_weak i },
      )

pub handle_rows_are : (frames : List PlacedFrame) → RiseInPlace (events_of_frames frames)
    → AreRowsInTurn nat_cmp (λ (row : HeldRow). row.handle) (IsHandleRow (events_of_frames frames)) (processes_of frames)
    (handle_references frames).rows
handle_rows_are frames rise =
    let events = events_of_frames frames in
    let row_of : Process → ℕ → HeldRow = λ process. held_row (items events rise process) (held events rise process) in
    let handles : Process → List ℕ = λ process. handles_of (items events rise process) (held events rise process) in
    record {
      own = handles_in events;
      rows_are = refl;
      rising = λ process.
          rows_rising nat_cmp nat_cmp_total exact_unsigned (λ (row : HeldRow). row.handle) (row_of process) (λ handle. refl) (handles process);
      exact = λ process.
          rows_exact nat_cmp nat_cmp_total exact_unsigned (λ (row : HeldRow). row.handle) (row_of process) (λ handle. refl) (handles process)
          (IsHandleRow events process) (sound events rise process) (whole events rise process);
    }
