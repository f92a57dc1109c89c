-- The references that the buffers of a process hold: one for each HANDLE or WEAK_HANDLE among the good objects of a
-- delivery, until the process frees it (docs/REPORT.md).
use Rattle.std.specs.Prelude.{ℕ, List, map, Option}
use Rattle.std.specs.List.{filter_map}
use Rattle.capture_frame.specs.declared.process.Process.{Process}
use Rattle.event_core.specs.Events.{EventRead}
use Rattle.handle_ledger.specs.Held.{Held}
use Rattle.object_view.specs.Held.{held_of}
use Rattle.object_view.specs.Objects.{ObjectText}
use Rattle.audit_findings.specs.Buffers.{is_leaked}
use Rattle.audit_findings.specs.Objects.{good_objects}
use Rattle.audit_findings.specs.Places.{passing_in}

-- the reference that an object is: a HANDLE is a strong one, a WEAK_HANDLE a weak one, and no other object is a
-- reference
abbrev pub reference_of : ObjectText → Option Held
reference_of o = held_of o.sort o.bytes

-- what is held for a process: the references among the good objects of its leaked deliveries, in order
abbrev pub held_of_process : List EventRead → Process → List Held
held_of_process events process = filter_map reference_of (good_objects (passing_in is_leaked process events))

-- references as items of a tally that only counts them: each has weight 0
abbrev pub unweighed : List Held → List (Held × ℕ)
unweighed held = map (λ reference. (reference, 0)) held
