-- The section `requests`: standing requests for death notifications (docs/REPORT.md).
use Rattle.std.specs.Prelude.{List}
use Rattle.event_core.specs.Events.{EventRead}
use Rattle.pending_ledger.specs.Requests.{is_standing}
use Rattle.process_ledgers.specs.Items.{request_item_of}
use Rattle.audit_findings.specs.Places.{EventTest, item_is, passing_events}

-- whether the event is a standing request: no later event is a clear with its handle and its cookie, or a death with
-- its cookie
abbrev pub is_standing_request : EventTest
is_standing_request = item_is request_item_of is_standing

-- the standing requests: those that no later event of their process ends
abbrev pub standing_requests : List EventRead → List EventRead
standing_requests events = passing_events is_standing_request events
