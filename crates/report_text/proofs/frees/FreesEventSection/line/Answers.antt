use Rattle.report_text.proofs.Payloads.{free_sized}
use Rattle.report_text.proofs.frees.FreesEventSection.line.Goals as goal

pub u64_at-requires : goal.u64_at-requires
u64_at-requires c = free_sized c.args.event.kind _ c.requires c.args.event.sized
