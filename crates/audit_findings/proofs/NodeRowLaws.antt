-- The rows of `nodes` are those of the counts over all events.
use Rattle.std.proofs.Common.{◌≡◌, ℕ, ◌<◌, List, refl, sym, subst, ◌∙◌}
use Rattle.std.specs.Map.{keys_of}
use Rattle.std.specs.Ordering.{eq_by_cmp}
use Rattle.std.specs.Prelude.{count_by}
use Rattle.std.proofs.lemmas.Cmp.{eq_by_cmp_equiv}
use Rattle.std.proofs.lemmas.Map.Views.{tells_apart}
use Rattle.capture_frame.specs.Envelope.{PlacedFrame}
use Rattle.capture_frame.specs.declared.process.Process.{Process}
use Rattle.event_core.specs.Events.{EventRead, events_of_frames}
use Rattle.event_core.specs.Nodes.{NodeItem}
use Rattle.event_core.specs.declared.node.NodeKey.{NodeKey}
use Rattle.event_core.specs.declared.strength.Strength.{Strength}
use Rattle.event_core.specs.declared.strength.Strength.TheVariants.{Strong, Weak}
use Rattle.handle_ledger.proofs.NodeLaws.{node_cmp_exact, node_cmp_total}
use Rattle.handle_ledger.specs.Nodes.{due_count, node_change, node_cmp, node_count, node_due_change, node_row}
use Rattle.handle_ledger.specs.Rows.{change_at}
use Rattle.handle_ledger.specs.declared.node_row.NodeRow.{NodeRow}
use Rattle.process_ledgers.specs.Items.{node_item_of}
use Rattle.process_ledgers.specs.Processes.{items_of_process, processes_of}
use Rattle.summary_law.specs.Count.{is_lower, is_raise}
use Rattle.summary_law.proofs.Members.{In}
use Rattle.audit_findings.specs.EventCounts.{HasValue, times_in}
use Rattle.audit_findings.specs.NodeRows.{IsNodeRow, acknowledges, asks, changes_node, lets_go, names_node, node_due, node_value}
use Rattle.audit_findings.specs.Nodes.{node_references, nodes_in}
use Rattle.audit_findings.specs.RowsInTurn.{AreRowsInTurn}
use Rattle.summary_law.proofs.FilterLaws.{count_by-map}
use Rattle.audit_findings.proofs.EventCountLaws.{items_value, value_once}
use Rattle.audit_findings.proofs.KeyRows.{count_items, counted_in, in_counted, rows_exact, rows_rising}
use Rattle.audit_findings.proofs.NodeValues.{if_node, node_effects, node_named}

module _ (events : List EventRead) (process : Process) where
  abbrev items : List NodeItem
  items = items_of_process node_item_of process events

  counts : (key : NodeKey) (strength : Strength) → HasValue (node_value process key strength) events (node_count items key strength)
  counts key strength =
      let does = node_change strength in
      items_value node_item_of (change_at node_cmp does key) (names_node (asks strength) key) (names_node (lets_go strength) key)
      (λ e. if_node key is_raise refl does e.kind e.payload (asks strength e.kind) (node_effects strength e.kind).0)
      (λ e. if_node key is_lower refl does e.kind e.payload (lets_go strength e.kind) (node_effects strength e.kind).1) process events

  due : (key : NodeKey) (strength : Strength) → due_count items key strength ≡ node_due process key strength events
  due key strength =
      let does = node_due_change strength in
      (items_value node_item_of (change_at node_cmp does key) (names_node (asks strength) key) (names_node (acknowledges strength) key)
      (λ e. if_node key is_raise refl does e.kind e.payload (asks strength e.kind) (node_effects strength e.kind).2)
      (λ e. if_node key is_lower refl does e.kind e.payload (acknowledges strength e.kind) (node_effects strength e.kind).3) process events).sum

  -- how often a node is listed
  named : (key : NodeKey) → count_by (λ k. eq_by_cmp node_cmp key k) (keys_of items) ≡ times_in process (names_node changes_node key) events
  named key =
      count_by-map (λ (item : NodeItem). item.0) (λ k. eq_by_cmp node_cmp key k) items
      ∙ count_items node_item_of (λ item. eq_by_cmp node_cmp key item.0) (names_node changes_node key) (λ e. node_named key e.kind e.payload) process events

  sound : (key : NodeKey) → In key (keys_of items) → IsNodeRow events process (node_row items key)
  sound key there = record {
    listed = subst (λ (n : ℕ). 0 < n) (named key)
        (counted_in (λ k. eq_by_cmp node_cmp key k) key ((eq_by_cmp_equiv node_cmp_total).refl key) (keys_of items) there);
    strong = counts key Strong;
    weak = counts key Weak;
    strong_due = due key Strong;
    weak_due = due key Weak;
  }

  whole : (row : NodeRow) → IsNodeRow events process row → In row.key (keys_of items) × (node_row items row.key ≡ row)
  whole row is =
      let key = row.key in
      let strong = value_once (node_value process key Strong) events (node_count items key Strong) row.counts.strong (counts key Strong) is.strong in
      let weak = value_once (node_value process key Weak) events (node_count items key Weak) row.counts.weak (counts key Weak) is.weak in
      let strong_due = due key Strong ∙ sym is.strong_due in
      let weak_due = due key Weak ∙ sym is.weak_due in (
        in_counted (λ k. eq_by_cmp node_cmp key k) key (λ k same. sym (tells_apart node_cmp_exact key k same)) (keys_of items)
            (subst (λ (n : ℕ). 0 < n) (sym (named key)) is.listed),
        λ i. record { key = key; counts = record { strong = strong i; weak = weak i; strong_due = strong_due i; weak_due = weak_due i } },
      )

pub node_rows_are : (frames : List PlacedFrame)
    → AreRowsInTurn node_cmp (λ (row : NodeRow). row.key) (IsNodeRow (events_of_frames frames)) (processes_of frames) (node_references frames).rows
node_rows_are frames =
    let events = events_of_frames frames in
    record {
      own = nodes_in events;
      rows_are = refl;
      rising = λ process.
          rows_rising node_cmp node_cmp_total node_cmp_exact (λ (row : NodeRow). row.key) (node_row (items events process)) (λ key. refl)
          (keys_of (items events process));
      exact = λ process.
          rows_exact node_cmp node_cmp_total node_cmp_exact (λ (row : NodeRow). row.key) (node_row (items events process)) (λ key. refl)
          (keys_of (items events process)) (IsNodeRow events process) (sound events process) (whole events process);
    }
