use Rattle.std.proofs.Common.{rules}
use Rattle.event_core.proofs.buffer.BufferItem.pending.Goals as goal

pub returns-in-Free : goal.returns-in-Free
returns-in-Free c = search rules
