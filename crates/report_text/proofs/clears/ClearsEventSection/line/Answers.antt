use Rattle.std.proofs.Common.{sym, ◌∙◌}
use Rattle.report_text.proofs.Payloads.{clear_long, clear_sized}
use Rattle.report_text.proofs.clears.ClearsEventSection.line.Goals as goal

pub u64_at-requires : goal.u64_at-requires
u64_at-requires c = clear_long c.args.event.kind _ (sym c.eq.ensures ∙ c.if-eq.true) c.args.event.sized

pub u64_at-requires-else-eq : goal.u64_at-requires-else-eq
u64_at-requires-else-eq c = clear_sized c.args.event.kind _ c.requires c.args.event.sized
