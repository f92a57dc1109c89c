-- References that the driver asks a process to keep to its nodes: what a record does to the counts of a node
-- (docs/REPORT.md).
use Rattle.std.specs.Prelude.{ℕ, List, Option, Some, None}
use Rattle.std.specs.Option.{option_map}
use Rattle.binder_code.specs.declared.record_kind.Kind.{Kind}
use Rattle.binder_code.specs.declared.record_kind.Kind.TheVariants.{BrAcquire, BrRelease, BrIncrefs, BrDecrefs, BcAcquireDone, BcIncrefsDone}
use Rattle.capture_frame.specs.Envelope.{number_at}
use Rattle.event_core.specs.declared.node.NodeChange.{NodeChange}
use Rattle.event_core.specs.declared.node.NodeChange.TheVariants.{Raise, Lower, Done}
use Rattle.event_core.specs.declared.node.NodeKey.{NodeKey}
use Rattle.event_core.specs.declared.strength.Strength.{Strength}
use Rattle.event_core.specs.declared.strength.Strength.TheVariants.{Strong, Weak}

-- the node that a payload names by its ptr and its cookie (`linux/android/binder.h`, `struct binder_ptr_cookie`)
abbrev pub node_key : List ℕ → NodeKey
node_key payload = record { ptr = number_at 8 0 payload; cookie = number_at 8 8 payload }

-- which references to its node a record of this kind changes, and how: BR_ACQUIRE raises the strong ones, BR_RELEASE
-- lowers them, and BC_ACQUIRE_DONE acknowledges one; BR_INCREFS, BR_DECREFS and BC_INCREFS_DONE do the same to the weak
-- ones (`linux/android/binder.h`, `binder_driver_return_protocol`, and the two answers to it)
abbrev pub node_effect : Kind → Option (Strength × NodeChange)
node_effect BrAcquire = Some (Strong, Raise)
node_effect BrRelease = Some (Strong, Lower)
node_effect BcAcquireDone = Some (Strong, Done)
node_effect BrIncrefs = Some (Weak, Raise)
node_effect BrDecrefs = Some (Weak, Lower)
node_effect BcIncrefsDone = Some (Weak, Done)
node_effect _ = None

-- a node, and which references to it a record changes, and how
abbrev pub NodeItem : Type 0
NodeItem = NodeKey × (Strength × NodeChange)

-- the change that a record makes to the node in its payload; None for other kinds
abbrev pub node_item : Kind → List ℕ → Option NodeItem
node_item kind payload = option_map (λ effect. (node_key payload, effect)) (node_effect kind)
