-- The rows of `handles` and `nodes`, by what is a row of a process (docs/REPORT.md).
use Rattle.std.specs.Prelude.{◌≡◌, ◌↔◌, ℕ, List, map, Contains, Ok}
use Rattle.std.specs.List.Sorted.{IsStrictlySortedBy}
use Rattle.std.specs.Ordering.{nat_cmp}
use Rattle.std.specs.declared.cmp.Ordering.{Ordering}
use Rattle.capture_frame.specs.Envelope.{PlacedFrame}
use Rattle.capture_frame.specs.declared.process.Process.{Process}
use Rattle.event_core.specs.Events.{events_of_frames}
use Rattle.handle_ledger.specs.Nodes.{node_cmp}
use Rattle.process_ledgers.specs.Processes.{processes_of}
use Rattle.transaction_view.specs.Grammar.{frames_of_parts}
use Rattle.audit_findings.specs.Findings.{findings_of}
use Rattle.audit_findings.specs.HandleRows.{IsHandleRow}
use Rattle.audit_findings.specs.InTurn.{in_turn}
use Rattle.audit_findings.specs.NodeRows.{IsNodeRow}
use Rattle.audit_findings.specs.declared.in_turn.ProcessRow.{ProcessRow}

-- the rows of each of these processes in turn: of each process all that are rows of it and nothing else, their keys
-- rising
pub record AreRowsInTurn {K R : Type 0} (cmp : K → K → Ordering) (key : R → K) (IsRow : Process → R → Type 0)
    (processes : List Process) (rows : List (ProcessRow R)) : Type 0 where
  pub own : Process → List R
  pub rows_are : rows ≡ in_turn own processes
  pub rising : (process : Process) → IsStrictlySortedBy cmp (map key (own process))
  pub exact : (process : Process) (row : R) → Contains (own process) row ↔ IsRow process row

-- in a capture in the grammar, the rows of `handles` are those of each process in turn, handles rising
abbrev pub HaveHandleRows : Type 0
HaveHandleRows = (parts : List (List ℕ)) (frames : List PlacedFrame) → frames_of_parts parts ≡ Ok frames
    → AreRowsInTurn nat_cmp (λ row. row.handle) (IsHandleRow (events_of_frames frames))
    (processes_of frames) (findings_of frames).processes.handles.rows

-- the rows of `nodes` are those of each process in turn, by rising ptr and then by rising cookie
abbrev pub HaveNodeRows : Type 0
HaveNodeRows = (frames : List PlacedFrame)
    → AreRowsInTurn node_cmp (λ row. row.key) (IsNodeRow (events_of_frames frames))
    (processes_of frames) (findings_of frames).processes.nodes.rows
