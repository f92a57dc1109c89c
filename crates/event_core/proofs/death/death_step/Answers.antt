use Rattle.std.proofs.Common.{sym, ◌∙◌, arith}
use Rattle.event_core.proofs.Sizes.{death_sized}
use Rattle.event_core.proofs.death.death_step.Goals as goal

pub u64_at-requires : goal.u64_at-requires
u64_at-requires c =
    let is = sym c.death_change.ensures ∙ c.in_ok-change.was in
    omega (arith, death_sized c.args.event.kind _ _ is c.args.event.sized)
