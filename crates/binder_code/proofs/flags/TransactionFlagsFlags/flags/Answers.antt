use Rattle.std.proofs.Common.{rules}
use Rattle.binder_code.proofs.flags.TransactionFlagsFlags.flags.Goals as goal

pub returns : goal.returns
returns c = search rules
