-- The section `oneway`: the oneway transactions that each process sends to each handle, and those that it receives
-- (docs/REPORT.md).
use Rattle.std.specs.Prelude.{ℕ, not, Bool, true, false, List, count_by}
use Rattle.std.specs.List.{filter_map}
use Rattle.capture_frame.specs.declared.process.Process.{Process}
use Rattle.event_core.specs.Events.{EventRead}
use Rattle.event_core.specs.declared.oneway.OnewayKey.{OnewayKey}
use Rattle.event_core.specs.declared.oneway.OnewayKey.TheVariants.{Sent, Received}
use Rattle.summary_law.specs.Tally.{tally_rows}
use Rattle.process_ledgers.specs.Items.{oneway_item_of}
use Rattle.process_ledgers.specs.Oneway.{oneway_cmp}
use Rattle.process_ledgers.specs.Processes.{items_of_process}
use Rattle.audit_findings.specs.declared.oneway_counts.OnewayCounts.{OnewayCounts}

-- whether the key is that of transactions sent to some handle
abbrev pub is_sent_key : OnewayKey → Bool
is_sent_key (Sent handle) = true
is_sent_key Received = false

-- whether the oneway transaction is sent; if not, it is received
abbrev pub is_sent : OnewayKey × ℕ → Bool
is_sent item = is_sent_key item.0

-- how many oneway transactions are sent by these events
abbrev pub sent_count : List EventRead → ℕ
sent_count events = count_by is_sent (filter_map oneway_item_of events)

-- how many oneway transactions are received by these events
abbrev pub received_count : List EventRead → ℕ
received_count events = count_by (λ item. not (is_sent item)) (filter_map oneway_item_of events)

-- the counts of the head: how many oneway transactions are sent, and how many received
abbrev pub oneway_counts : List EventRead → OnewayCounts
oneway_counts events = record { sent = sent_count events; received = received_count events }

-- the rows of a process: one for each handle that it sends oneway transactions to, handles rising, and then one for
-- those that it receives, if any; each has its key, how many there are, and the sum of their data_size
abbrev pub oneway_of : List EventRead → Process → List (OnewayKey × ℕ × ℕ)
oneway_of events process = tally_rows oneway_cmp (items_of_process oneway_item_of process events)
