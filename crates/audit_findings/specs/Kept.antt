-- The findings as the code keeps them: of each listed event it keeps the place.
use Rattle.std.specs.Prelude.{◌≡◌, ℕ, List, map, All}
use Rattle.capture_frame.specs.Envelope.{FrameText, PlacedFrame}
use Rattle.capture_frame.specs.Parts.{joined_frames}
use Rattle.transaction_view.specs.Grammar.{IsGood}
use Rattle.event_core.specs.Events.{EventRead}
use Rattle.call_stacks.specs.declared.opener.Opener.{Opener}
use Rattle.audit_findings.specs.Findings.{findings_of}
use Rattle.audit_findings.specs.declared.call_sections.CallSections.{CallSections}
use Rattle.audit_findings.specs.declared.calls.Calls.{Calls}
use Rattle.audit_findings.specs.declared.refused.Refused.{Refused}
use Rattle.audit_findings.specs.declared.served.Served.{Served}
use Rattle.audit_findings.specs.declared.event_sections.EventSections.{EventSections}
use Rattle.audit_findings.specs.declared.findings.Sections.{Sections}
use Rattle.audit_findings.specs.declared.objects.BadRow.{BadRow}
use Rattle.audit_findings.specs.declared.open_and_stray.OpenAndStray.{OpenAndStray}
use Rattle.audit_findings.specs.declared.process_sections.ProcessSections.{ProcessSections}

-- the places of these events
abbrev pub places_of : List EventRead → List ℕ
places_of events = map (λ e. e.place) events

-- a bad object, with the place of its owner
abbrev pub bad_at_place : BadRow EventRead → BadRow ℕ
bad_at_place row = record { owner = row.owner.place; bad = row.bad }

-- a call, with the place of its event
abbrev pub call_at_place : Opener EventRead → Opener ℕ
call_at_place o = record { event = o.event.place; verdict = o.verdict; closer = o.closer }

-- unclosed opens and stray closes, with the places of their events
abbrev pub pairs_at_places : OpenAndStray EventRead → OpenAndStray ℕ
pairs_at_places found = record { unclosed = found.unclosed; strays = found.strays; rows = places_of found.rows }

-- the sections over all events, with the place of each listed event
abbrev pub events_at_places : EventSections EventRead → EventSections ℕ
events_at_places s = record {
  records = s.records;
  opaque = s.opaque;
  codes = s.codes;
  counts = s.counts;
  oneway = s.oneway;
  objects = s.objects;
  bad_objects = map bad_at_place s.bad_objects;
  flags = places_of s.flags;
}

-- `calls`, with the place of each listed call
abbrev pub made_at_places : Calls EventRead → Calls ℕ
made_at_places c = record {
  all = c.all;
  answered = c.answered;
  failed = c.failed;
  unanswered = c.unanswered;
  rows = map call_at_place c.rows;
}

-- `served`, with the place of each listed call
abbrev pub served_at_places : Served EventRead → Served ℕ
served_at_places c = record {
  all = c.all;
  replied = c.replied;
  crossed = c.crossed;
  left_open = c.left_open;
  rows = map call_at_place c.rows;
}

-- `refused`, with the place of each error reply
abbrev pub refused_at_places : Refused EventRead → Refused ℕ
refused_at_places c = record { oneway = c.oneway; rows = places_of c.rows }

-- the four sections of calls, with the place of each listed event
abbrev pub calls_at_places : CallSections EventRead → CallSections ℕ
calls_at_places s = record {
  calls = made_at_places s.calls;
  served = served_at_places s.served;
  strays = places_of s.strays;
  refused = refused_at_places s.refused;
}

-- the sections of each process, with the place of each listed event
abbrev pub processes_at_places : ProcessSections EventRead → ProcessSections ℕ
processes_at_places s = record {
  handles = s.handles;
  nodes = s.nodes;
  leaked = places_of s.leaked;
  stray_frees = places_of s.stray_frees;
  standing = places_of s.standing;
  deaths = pairs_at_places s.deaths;
  clears = pairs_at_places s.clears;
  oneway = s.oneway;
}

-- all findings, with the place of each listed event
abbrev pub at_places : Sections EventRead → Sections ℕ
at_places s = record {
  frames = s.frames;
  missing = s.missing;
  events = events_at_places s.events;
  calls = calls_at_places s.calls;
  processes = processes_at_places s.processes;
}

-- the sections keep the findings of these frames
abbrev pub AreSectionsOf : List PlacedFrame → Sections ℕ → Type 0
AreSectionsOf frames sections = sections ≡ at_places (findings_of frames)

-- the frames are good, and they follow one another after a file header
pub record AreOfCapture (frames : List PlacedFrame) : Type 0 where
  pub texts : List FrameText
  pub in_order : frames ≡ joined_frames texts
  pub good : All IsGood frames
