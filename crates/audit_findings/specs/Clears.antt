-- The section `clears`: unconfirmed clears and stray confirmations (docs/REPORT.md).
use Rattle.std.specs.Prelude.{List}
use Rattle.event_core.specs.Events.{EventRead}
use Rattle.process_ledgers.specs.Items.{clear_item_of}
use Rattle.audit_findings.specs.Places.{open_and_stray}
use Rattle.audit_findings.specs.declared.open_and_stray.OpenAndStray.{OpenAndStray}

-- How many clears are unconfirmed, how many confirmations are stray, and all of these in order. A clear is unconfirmed
-- where no later confirmation of its process has its cookie. A confirmation is stray where no earlier clear or
-- confirmation of its process has its cookie, or where the latest one that has it is a confirmation.
abbrev pub clear_findings : List EventRead → OpenAndStray EventRead
clear_findings events = open_and_stray clear_item_of events
