-- What the report says of a capture in the grammar (docs/REPORT.md).
use Rattle.std.specs.Prelude.{ℕ, ◌-◌, List, [], ◌∷◌, length, count_by}
use Rattle.capture_frame.specs.Envelope.{PlacedFrame}
use Rattle.event_core.specs.Events.{EventRead, events_of_frames}
use Rattle.process_ledgers.specs.Processes.{processes_of}
use Rattle.audit_findings.specs.Buffers.{leaked, stray_frees}
use Rattle.audit_findings.specs.Calls.{call_sections}
use Rattle.audit_findings.specs.Clears.{clear_findings}
use Rattle.audit_findings.specs.Codes.{code_rows, code_words, is_opaque}
use Rattle.audit_findings.specs.Deaths.{death_findings}
use Rattle.audit_findings.specs.Flags.{flagged}
use Rattle.audit_findings.specs.Handles.{handle_references}
use Rattle.audit_findings.specs.InTurn.{in_turn}
use Rattle.audit_findings.specs.Nodes.{node_references}
use Rattle.audit_findings.specs.Objects.{bad_objects, good_objects, sort_counts}
use Rattle.audit_findings.specs.Oneway.{oneway_counts, oneway_of}
use Rattle.audit_findings.specs.RecordCounts.{record_counts}
use Rattle.audit_findings.specs.Requests.{standing_requests}
use Rattle.audit_findings.specs.declared.event_sections.EventSections.{EventSections}
use Rattle.audit_findings.specs.declared.findings.Sections.{Sections}
use Rattle.audit_findings.specs.declared.process_sections.ProcessSections.{ProcessSections}

-- the sequence of the last of these frames
abbrev pub last_sequence : PlacedFrame → List PlacedFrame → ℕ
last_sequence first [] = first.unit.sequence
last_sequence first (next ∷ others) = last_sequence next others

-- the missing frames: (last sequence - first sequence) - (frames - 1), and 0 where there is no frame
abbrev pub missing_count : List PlacedFrame → ℕ
missing_count [] = 0
missing_count (first ∷ others) = (last_sequence first others - first.unit.sequence) - length others

-- what the report counts and lists over all events, whatever their process and thread
abbrev pub event_sections : List EventRead → EventSections EventRead
event_sections events = record {
  records = length events;
  opaque = count_by is_opaque events;
  codes = code_rows (code_words events);
  counts = record_counts (code_words events);
  oneway = oneway_counts events;
  objects = sort_counts (good_objects events);
  bad_objects = bad_objects events;
  flags = flagged events;
}

-- what the report says of each process: the sections from `handles` to `clears`, and the rows of `oneway`
abbrev pub process_sections : List PlacedFrame → ProcessSections EventRead
process_sections frames =
    let events = events_of_frames frames in
    record {
      handles = handle_references frames;
      nodes = node_references frames;
      leaked = leaked events;
      stray_frees = stray_frees events;
      standing = standing_requests events;
      deaths = death_findings events;
      clears = clear_findings events;
      oneway = in_turn (oneway_of events) (processes_of frames);
    }

-- The findings: what the report says of these frames. What is kept of a listed record is its event.
abbrev pub findings_of : List PlacedFrame → Sections EventRead
findings_of frames = record {
  frames = length frames;
  missing = missing_count frames;
  events = event_sections (events_of_frames frames);
  calls = call_sections (events_of_frames frames);
  processes = process_sections frames;
}
