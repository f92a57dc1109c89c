use Rattle.std.proofs.Common.{ap, map, ◌∙◌}
use Rattle.call_stacks.specs.Calls.{open_call}
use Rattle.call_stacks.proofs.Joins.{left_open}
use Rattle.call_stacks.proofs.Sums.{holds}
use Rattle.call_stacks.proofs.calls.Calls.open_calls.Goals as goal

pub returns : goal.returns
returns g c = λ events sums.
    let reads = g.E.CallRecord.reads in
    let all_kept = g.E.CallRecord.all_kept in
    let calls = c.args.self.now in
    ap (map open_call) c.as_slice.ensures.value ∙ left_open reads all_kept calls events (holds reads all_kept calls events sums)
