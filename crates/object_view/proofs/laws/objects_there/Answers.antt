use Rattle.object_view.proofs.ObjectLaws.{are_there}
use Rattle.object_view.proofs.laws.objects_there.Goals as goal

pub returns : goal.returns
returns c = are_there
