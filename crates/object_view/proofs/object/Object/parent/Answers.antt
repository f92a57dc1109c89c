use Rattle.std.proofs.Common.{rules}
use Rattle.object_view.proofs.object.Object.parent.Goals as goal

pub returns-in-Fda : goal.returns-in-Fda
returns-in-Fda c = search rules
