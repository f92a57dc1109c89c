use Rattle.binder_code.proofs.LinesOfKinds.{line_of_tag}
use Rattle.binder_code.proofs.record_kind.Kind.place.Goals as goal

pub returns : goal.returns
returns c = line_of_tag c.args.self
