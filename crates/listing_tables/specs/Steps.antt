-- The records of each thread that leave a mark, of which the calls of the thread are found.
use Rattle.std.specs.Prelude.{◌≡◌, ℕ, Bool, List, [], ◌∷◌, ◌++◌, map, Option, is_some, ⊤, if◌then◌else◌}
use Rattle.std.specs.List.{flat_map}
use Rattle.std.specs.List.Sorted.{IsNonDecreasingBy, IsPermutation}
use Rattle.std.specs.Map.{values_of}
use Rattle.binder_code.specs.Commands.{kind_of_word}
use Rattle.binder_code.specs.declared.record_kind.Kind.{Kind}
use Rattle.capture_frame.specs.declared.process.Thread.{Thread}
use Rattle.capture_frame.specs.Envelope.{PlacedFrame}
use Rattle.capture_frame.specs.Process.{same_thread}
use Rattle.capture_frame.specs.Units.{Placed}
use Rattle.record_view.specs.Records.{RecordText, records_of}
use Rattle.event_core.specs.Brackets.{is_oneway, mark_of}
use Rattle.summary_law.specs.InOrder.{SumsInOrder}
use Rattle.summary_law.specs.Summary.{FitsInHalves}
use Rattle.listing_fields.specs.Frames.{thread_of}
use Rattle.listing_tables.specs.Calls.{CallRow, call_place, row_of_call, rows_of}
use Rattle.listing_tables.specs.Columns.{AddsRows}
use Rattle.listing_tables.specs.Messages.{IsCallRow}
use Rattle.listing_tables.specs.declared.calls.Call.{Call}
use Rattle.listing_tables.specs.declared.calls.CallStep.{CallStep}
use Rattle.listing_tables.specs.declared.messages.Message.{Message}
use Rattle.listing_tables.specs.declared.steps.StepList.{StepList}

-- the list has these records
abbrev pub HasSteps : StepList → List CallStep → Type 0
HasSteps v items = v.list.items ≡ items

-- a list can have any records
abbrev pub AnySteps : List CallStep → Type 0
AnySteps items = ⊤

-- so both halves of a list can
pub any_halves : FitsInHalves AnySteps
any_halves first second any = (tt, tt)

-- a record of a thread that leaves a mark: its place, its kind, and whether it is a oneway transaction
pub record Marked : Type 0 where
  pub thread : Thread
  pub place : ℕ
  pub kind : Kind
  pub oneway : Bool

-- the record of this frame, if it leaves a mark
abbrev pub marked_of : PlacedFrame → Placed RecordText → List Marked
marked_of frame there =
    let kind = kind_of_word there.unit.code in
    let oneway = is_oneway kind there.unit.payload in
    if is_some (mark_of kind oneway)
    then record { thread = thread_of frame; place = there.place; kind = kind; oneway = oneway } ∷ []
    else []

-- the records of a frame that leave a mark
abbrev pub marked_in : PlacedFrame → List Marked
marked_in frame = flat_map (marked_of frame) (records_of frame).units

-- what is kept of a record, with its thread
abbrev pub kept_of : Thread × CallStep → Marked
kept_of (thread, step) = record { thread = thread; place = step.place; kind = step.kind; oneway = step.oneway }

-- each of these records is in the list of its thread, in order, and no other is; the threads are in the order in which
-- they first have one
pub record KeepsAll (steps : List (Thread × StepList)) (marked : List Marked) : Type 0 where
  pub items : List (Thread × CallStep)
  pub sums : SumsInOrder same_thread HasSteps steps items
  pub are : map kept_of items ≡ marked

-- these are the lists of some records
abbrev pub IsKept : List (Thread × StepList) → Type 0
IsKept steps = (marked : List Marked) × KeepsAll steps marked

-- these records are added to the lists of their threads
abbrev pub AddsMarked : List (Thread × StepList) → List (Thread × StepList) → List Marked → Type 0
AddsMarked old new more = (marked : List Marked) → KeepsAll old marked → KeepsAll new (marked ++ more)

-- the calls of all threads, where these are the lists of the threads
abbrev pub rows_of_lists : List StepList → List CallRow
rows_of_lists lists = flat_map (λ list. rows_of list.list.items) lists

-- these are the calls of the threads in which these records leave a mark, in rising place, and no others
pub record AreCallsOf (marked : List Marked) (calls : List Call) : Type 0 where
  pub threads : List (Thread × StepList)
  pub kept : KeepsAll threads marked
  pub are : IsPermutation (rows_of_lists (values_of threads)) (map row_of_call calls)
  pub sorted : IsNonDecreasingBy call_place calls

-- a writer has grown by a row for each of these calls, in order, and by nothing else
pub record WritesCalls (old new : Option (List ℕ)) (calls : List Call) : Type 0 where
  pub messages : List Message
  pub written : AddsRows (IsCallRow messages) old new calls
