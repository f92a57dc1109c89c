use Rattle.std.proofs.Common.{◌++◌, sym, subst, inl, inr, ◌∙◌}
use Rattle.call_stacks.specs.declared.calls.Calls.{Calls}
use Rattle.summary_law.specs.Fits.{IsPlaced}
use Rattle.summary_law.specs.Summary.{Adds}
use Rattle.call_stacks.specs.Calls.{CallsSum}
use Rattle.call_stacks.specs.Content.{content_of, ClosesAll}
use Rattle.call_stacks.proofs.Joins.{joined, placed_undecided, front_holds, AddsUndecided}
use Rattle.call_stacks.proofs.Sums.{holds, sums}
use Rattle.call_stacks.proofs.calls.CallsSummary.join.Goals as goal
use Rattle.call_stacks.proofs.calls.CallsSummary.join.Goals.{in-Some+in_ok-add, in_default}

pub add-requires : goal.add-requires
add-requires g c =
    let reads = g.E.CallRecord.reads in
    let first = c.requires.0 in
    let second = c.requires.1 in
    (first, c.requires.2, placed_undecided reads first second c.in-Some.event c.requires.4 (sym c.requires.3.undecided ∙ c.in-Some.is))

pub returns : goal.returns
returns g c = λ first second mine_sums later_sums placed.
    let reads = g.E.CallRecord.reads in
    let all_kept = g.E.CallRecord.all_kept in
    let mine = c.args.self in
    let later = c.args.later in
    let front = c.match-later.joined in
    let closed = content_of c.close_all.new.self in
    let adds : AddsUndecided reads all_kept mine later front
    = elim c.match-later.branch [
      | in-Some+in_ok-add w ↦
          inr (w.in-Some.event, w.in-Some.is, subst (λ (v : Calls _). Adds (CallsSum reads all_kept) (IsPlaced reads.place) mine w.in-Some.event v) (sym w.joined-is) w.in_ok-add.ensures)
      | in_default w ↦ inl (w.in_default.is, w.joined-is)
    ]
    in
    let closes : ClosesAll reads all_kept (content_of front) later.strays.items closed
    = subst (λ l. ClosesAll reads all_kept (content_of front) l closed) c.deref.ensures.value c.in_ok-close_all.ensures in
    sums reads all_kept _ (first ++ second)
    (joined reads all_kept (content_of front) (content_of later) closed _ first second placed
    (front_holds reads all_kept mine later front first second mine_sums later_sums placed adds) (holds reads all_kept later second later_sums) closes
    c.in_ok-append.ensures)
