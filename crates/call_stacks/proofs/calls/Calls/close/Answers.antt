use Rattle.std.proofs.Common.{ap, ◌∙◌}
use Rattle.call_stacks.specs.Content.{content_of, taken, closed_with, closes_last}
use Rattle.call_stacks.proofs.calls.Calls.close.Goals as goal

pub returns-in_ok-take-in-Some : goal.returns-in_ok-take-in-Some
returns-in_ok-take-in-Some g c =
    let reads = g.E.CallRecord.reads in
    let all_kept = g.E.CallRecord.all_kept in
    let front = c.pop.new.self.items in
    closes_last front c.in-Some.event c.in-Some.ensures.items
    (c.in_ok-take-in-Some.ensures
    ∙ ap (λ call. taken all_kept call (record (content_of c.args.self.now) { unmatched = front }))
    (c.closed_with.ensures ∙ ap (closed_with reads c.args.closer) c.new.ensures))
