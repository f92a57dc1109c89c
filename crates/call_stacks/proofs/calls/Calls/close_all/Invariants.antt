use Rattle.std.proofs.Common.{take}
use Rattle.call_stacks.specs.Content.{content_of, ClosesAll}
use Rattle.call_stacks.proofs.calls.Calls.close_all.Given as goal

abbrev pub invariant-loop-closer : goal.invariant-loop-closer
invariant-loop-closer g l = ClosesAll g.E.CallRecord.reads g.E.CallRecord.all_kept (content_of l.fn.self) (take l.closer-index l.closers) (content_of l.self)
