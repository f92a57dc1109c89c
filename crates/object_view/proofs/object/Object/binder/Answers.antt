use Rattle.std.proofs.Common.{rules}
use Rattle.object_view.proofs.object.Object.binder.Goals as goal

pub returns-in_default : goal.returns-in_default
returns-in_default c = search rules
