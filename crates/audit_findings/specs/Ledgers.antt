-- The ledgers of events and of frames while they are made: what each keeps of the list that it sums.
use Rattle.std.specs.Prelude.{◌≡◌, ℕ, ◌+◌, ◌<◌, ◌^◌, List, [], ◌∷◌, length, map, count_by, All}
use Rattle.capture_frame.specs.Envelope.{PlacedFrame}
use Rattle.std.proofs.Common.{subst}
use Rattle.std.proofs.lemmas.List.{map-append}
use Rattle.std.specs.Option.{option_map_or}
use Rattle.capture_frame.specs.Units.{Placed}
use Rattle.transaction_view.specs.Attachments.{EntryText}
use Rattle.event_core.specs.Events.{EventRead}
use Rattle.summary_law.specs.Fits.{IsShort, IsPlaced, all_halves, placed_halves}
use Rattle.audit_findings.specs.declared.event_ledgers.EventLedgers.{EventLedgers}
use Rattle.audit_findings.specs.declared.flags.FlagLedger.{FlagLedger}
use Rattle.audit_findings.specs.declared.objects.ObjectLedger.{ObjectLedger}
use Rattle.audit_findings.specs.declared.sequences.Sequences.{Sequences}
use Rattle.audit_findings.specs.CodeCounts.{CountWords}
use Rattle.audit_findings.specs.Codes.{code_words, is_opaque}
use Rattle.audit_findings.specs.Findings.{last_sequence}
use Rattle.audit_findings.specs.Flags.{flagged}
use Rattle.audit_findings.specs.Buffers.{is_leaked}
use Rattle.audit_findings.specs.Handles.{handles_in}
use Rattle.handle_ledger.specs.declared.held_row.HeldRow.{HeldRow}
use Rattle.event_core.specs.Events.{events_of_frames}
use Rattle.audit_findings.specs.Kept.{bad_at_place}
use Rattle.audit_findings.specs.Objects.{bad_objects, sort_count, good_objects, times_of}
use Rattle.audit_findings.specs.Oneway.{oneway_counts}
use Rattle.audit_findings.specs.Places.{places_in}
use Rattle.object_view.specs.declared.sort.Sort.{Sort}
use Rattle.event_core.specs.Reading.{event_text}
use Rattle.event_core.specs.declared.event.Event.{Event}
use Rattle.process_ledgers.specs.Concerns.{concerned}
use Rattle.process_ledgers.specs.EachProcess.{AreLedgersOf}
use Rattle.process_ledgers.specs.Processes.{processes_of}
use Rattle.capture_frame.specs.declared.process.Process.{Process}
use Rattle.process_ledgers.specs.ProcessLedgers.{SumsProcess}
use Rattle.process_ledgers.specs.declared.process_ledgers.ProcessLedgers.{ProcessLedgers}
use Rattle.summary_law.specs.Fed.{SumsPicked}
use Rattle.summary_law.specs.InOrder.{SumsInOrder}
use Rattle.summary_law.specs.Summary.{FitsInHalves}
use Rattle.capture_frame.specs.Process.{same_process}
use Rattle.audit_findings.specs.declared.event_sums.EventSums.{EventSums}
use Rattle.audit_findings.specs.ThreadLedger.{SumsThreadCalls}

-- how many bytes the list of offsets of an event's attachment has; 0 without an attachment
abbrev pub offset_bytes_of : EventRead → ℕ
offset_bytes_of e = option_map_or (λ (a : Placed EntryText). length a.unit.offset_bytes) e.entry 0

-- few events: at most 2^32, whose places rise and whose lists of offsets each have fewer than 2^32 bytes
abbrev pub AreFewEvents : List EventRead → Type 0
AreFewEvents events = IsPlaced (λ e. e.place) events × All (λ e. offset_bytes_of e < 2 ^ 32) events

-- the ledger lists the places of the events with unknown flags
abbrev pub ListsFlagged : FlagLedger → List EventRead → Type 0
ListsFlagged ledger events = ledger.places.items ≡ map (λ e. e.place) (flagged events)

-- the ledger counts the good objects of the events' attachments by sort, and keeps the bad ones
pub record SumsObjects (ledger : ObjectLedger) (events : List EventRead) : Type 0 where
  pub counted : (sort : Sort) → sort_count ledger.counts sort ≡ times_of sort (good_objects events)
  pub kept : ledger.bad.items ≡ map bad_at_place (bad_objects events)

-- the ledgers are the sums of these events
pub record SumsEvents (ledgers : EventLedgers) (events : List EventRead) : Type 0 where
  pub records : ledgers.records ≡ length events
  pub opaque : ledgers.opaque ≡ count_by is_opaque events
  pub codes : CountWords ledgers.codes (code_words events)
  pub oneway : ledgers.oneway ≡ oneway_counts events
  pub objects : SumsObjects ledgers.objects events
  pub flags : ListsFlagged ledgers.flags events

-- the value has the number of these frames, and the sequences of the first and of the last
abbrev pub SumsFrames : Sequences → List PlacedFrame → Type 0
SumsFrames sequences [] = sequences.frames ≡ 0
SumsFrames sequences (first ∷ others) =
    (sequences.frames ≡ length others + 1) × (sequences.first ≡ first.unit.sequence)
    × (sequences.last ≡ last_sequence first others)

-- these events are few, as they are read
abbrev pub AreFewGiven : List Event → Type 0
AreFewGiven events = AreFewEvents (map event_text events)

-- both halves of few events are few
pub few_given_halves : FitsInHalves AreFewGiven
few_given_halves first second few =
    let all = subst AreFewEvents (map-append event_text first second) few in
    let placed = placed_halves (λ (e : EventRead). e.place) (map event_text first) (map event_text second) all.0 in
    let small = all_halves (λ (e : EventRead). offset_bytes_of e < 2 ^ 32) (map event_text first) (map event_text second) all.1 in
    ((placed.0, small.0), (placed.1, small.1))

-- the ledgers are the sums of these events: of all together, of those of each thread, and of those of each process
pub record SumsGiven (sums : EventSums) (events : List Event) : Type 0 where
  pub all : SumsEvents sums.all (map event_text events)
  pub threads : SumsThreadCalls sums.threads (map event_text events)
  pub processes : SumsPicked concerned (SumsInOrder same_process SumsProcess) sums.processes.entries.entries events

-- few frames, with few events
abbrev pub AreFewFrames : List PlacedFrame → Type 0
AreFewFrames frames = IsShort frames × AreFewEvents (events_of_frames frames)

-- a list for each process of these frames, in order: the places of its leaked deliveries
abbrev pub AreUnfreed : List PlacedFrame → List (List ℕ) → Type 0
AreUnfreed frames lists = lists ≡ map (places_in is_leaked (events_of_frames frames)) (processes_of frames)

-- whatever process of these frames the ledgers are those of: if the places are those of its leaked deliveries, the
-- rows are its rows of `handles`
abbrev pub GivesHandles : ProcessLedgers → List PlacedFrame → List ℕ → List HeldRow → Type 0
GivesHandles ledgers frames unfreed rows =
    (process : Process) → AreLedgersOf ledgers (events_of_frames frames) process
    → unfreed ≡ places_in is_leaked (events_of_frames frames) process
    → rows ≡ handles_in (events_of_frames frames) process
