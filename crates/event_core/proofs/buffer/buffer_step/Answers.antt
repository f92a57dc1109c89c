use Rattle.std.proofs.Common.{refl, arith}
use Rattle.binder_code.specs.Commands.{command_lines, return_lines}
use Rattle.binder_code.specs.declared.record_kind.Kind.TheVariants.{BcFreeBuffer}
use Rattle.event_core.proofs.Sizes.{sized_as}
use Rattle.event_core.proofs.buffer.buffer_step.Goals as goal

pub u64_at-requires : goal.u64_at-requires
unfolding command_lines return_lines
u64_at-requires c = omega (arith, sized_as c.args.event.kind BcFreeBuffer _ 8 c.in-BcFreeBuffer.is refl c.args.event.sized)
