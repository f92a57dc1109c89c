use Rattle.std.proofs.Common.{rules}
use Rattle.object_view.proofs.held.held_step.Goals as goal

pub returns-in-WeakHandle : goal.returns-in-WeakHandle
returns-in-WeakHandle c = search rules
