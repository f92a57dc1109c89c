use Rattle.report_text.proofs.Payloads.{death_sized}
use Rattle.report_text.proofs.deaths.DeathsEventSection.line.Goals as goal

pub u64_at-requires : goal.u64_at-requires
u64_at-requires c = death_sized c.args.event.kind _ c.requires c.args.event.sized
