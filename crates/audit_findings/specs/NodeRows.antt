-- What a row of `nodes` says, in counts of records over all events (docs/REPORT.md). By a law, the findings have the
-- same rows.
use Rattle.std.specs.Prelude.{◌≡◌, ◌==◌, ◌<◌, ℤ, ◌&&◌, ◌||◌, Bool, true, false, List}
use Rattle.binder_code.specs.declared.record_kind.Kind.{Kind}
use Rattle.binder_code.specs.declared.record_kind.Kind.TheVariants.{BcAcquireDone, BcIncrefsDone, BrAcquire, BrDecrefs, BrIncrefs, BrRelease}
use Rattle.capture_frame.specs.Envelope.{number_at}
use Rattle.capture_frame.specs.declared.process.Process.{Process}
use Rattle.event_core.specs.Events.{EventRead}
use Rattle.event_core.specs.declared.node.NodeKey.{NodeKey}
use Rattle.event_core.specs.declared.strength.Strength.{Strength}
use Rattle.event_core.specs.declared.strength.Strength.TheVariants.{Strong, Weak}
use Rattle.handle_ledger.specs.declared.node_row.NodeRow.{NodeRow}
use Rattle.audit_findings.specs.EventCounts.{HasValue, difference_in, times_in}

-- whether a record asks the process for a reference of this strength to a node: BR_ACQUIRE for a strong one, BR_INCREFS
-- for a weak one
abbrev pub asks : Strength → Kind → Bool
asks Strong BrAcquire = true
asks Weak BrIncrefs = true
asks _ _ = false

-- whether it lets the process drop one: BR_RELEASE a strong one, BR_DECREFS a weak one
abbrev pub lets_go : Strength → Kind → Bool
lets_go Strong BrRelease = true
lets_go Weak BrDecrefs = true
lets_go _ _ = false

-- whether it acknowledges one: BC_ACQUIRE_DONE a strong one, BC_INCREFS_DONE a weak one
abbrev pub acknowledges : Strength → Kind → Bool
acknowledges Strong BcAcquireDone = true
acknowledges Weak BcIncrefsDone = true
acknowledges _ _ = false

-- whether it is one of these six
abbrev pub changes_node : Kind → Bool
changes_node kind =
    asks Strong kind || asks Weak kind || lets_go Strong kind || lets_go Weak kind || acknowledges Strong kind
    || acknowledges Weak kind

-- whether the event is of a kind that passes the test, and names the node by its ptr and its cookie
abbrev pub names_node : (Kind → Bool) → NodeKey → EventRead → Bool
names_node test key e =
    test e.kind && (number_at 8 0 e.payload == key.ptr && number_at 8 8 e.payload == key.cookie)

-- how many references of this strength to the node are asked for in these events, less how many are let go
abbrev pub node_value : Process → NodeKey → Strength → List EventRead → ℤ
node_value process key strength events =
    difference_in process (names_node (asks strength) key) (names_node (lets_go strength) key) events

-- how many are asked for, less how many are acknowledged
abbrev pub node_due : Process → NodeKey → Strength → List EventRead → ℤ
node_due process key strength events =
    difference_in process (names_node (asks strength) key) (names_node (acknowledges strength) key) events

-- the row is one of the process: one of its events names the node, and the counts, the lows and what is due are those
-- of all events
pub record IsNodeRow (events : List EventRead) (process : Process) (row : NodeRow) : Type 0 where
  pub listed : 0 < times_in process (names_node changes_node row.key) events
  pub strong : HasValue (node_value process row.key Strong) events row.counts.strong
  pub weak : HasValue (node_value process row.key Weak) events row.counts.weak
  pub strong_due : row.counts.strong_due ≡ node_due process row.key Strong events
  pub weak_due : row.counts.weak_due ≡ node_due process row.key Weak events
