-- The section `deaths`: unacknowledged deaths and stray acknowledgements (docs/REPORT.md).
use Rattle.std.specs.Prelude.{List}
use Rattle.event_core.specs.Events.{EventRead}
use Rattle.process_ledgers.specs.Items.{death_item_of}
use Rattle.audit_findings.specs.Places.{open_and_stray}
use Rattle.audit_findings.specs.declared.open_and_stray.OpenAndStray.{OpenAndStray}

-- How many deaths are unacknowledged, how many acknowledgements are stray, and all of these in order. A death is
-- unacknowledged where no later acknowledgement of its process has its cookie. An acknowledgement is stray where no
-- earlier death or acknowledgement of its process has its cookie, or where the latest one that has it is an
-- acknowledgement.
abbrev pub death_findings : List EventRead → OpenAndStray EventRead
death_findings events = open_and_stray death_item_of events
