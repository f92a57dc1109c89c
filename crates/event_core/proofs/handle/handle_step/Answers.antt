use Rattle.std.proofs.Common.{sym, ◌∙◌, arith}
use Rattle.event_core.proofs.Sizes.{handle_sized}
use Rattle.event_core.proofs.handle.handle_step.Goals as goal

pub u32_at-requires : goal.u32_at-requires
u32_at-requires c =
    let is = sym c.handle_effect.ensures ∙ c.in_ok-effect.was in
    omega (arith, handle_sized c.args.event.kind _ _ is c.args.event.sized)
