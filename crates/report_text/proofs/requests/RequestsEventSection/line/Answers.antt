use Rattle.std.proofs.Common.{arith}
use Rattle.report_text.proofs.Payloads.{request_sized}
use Rattle.report_text.proofs.requests.RequestsEventSection.line.Goals as goal

pub u32_at-requires : goal.u32_at-requires
u32_at-requires c =
    let long = request_sized c.args.event.kind _ c.requires c.args.event.sized in
    omega (arith, long)

pub u64_at-requires : goal.u64_at-requires
u64_at-requires c = request_sized c.args.event.kind _ c.requires c.args.event.sized
