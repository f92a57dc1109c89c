use Rattle.std.proofs.Common.{rules}
use Rattle.event_core.proofs.brackets.bracket_of.Goals as goal

pub returns-in-BrReply : goal.returns-in-BrReply
returns-in-BrReply c = search rules
