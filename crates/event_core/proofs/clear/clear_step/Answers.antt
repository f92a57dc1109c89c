use Rattle.std.proofs.Common.{refl, arith}
use Rattle.binder_code.specs.Commands.{command_lines, return_lines}
use Rattle.binder_code.specs.declared.record_kind.Kind.TheVariants.{BcClearDeathNotification, BrClearDeathNotificationDone}
use Rattle.event_core.proofs.Sizes.{sized_as}
use Rattle.event_core.proofs.clear.clear_step.Goals as goal

pub of-requires : goal.of-requires
unfolding command_lines return_lines
of-requires c = omega (arith, sized_as c.args.event.kind BcClearDeathNotification _ 12 c.in-BcClearDeathNotification.is refl c.args.event.sized)

pub u64_at-requires : goal.u64_at-requires
unfolding command_lines return_lines
u64_at-requires c =
    omega (arith, sized_as c.args.event.kind BrClearDeathNotificationDone _ 8 c.in-BrClearDeathNotificationDone.is refl c.args.event.sized)
