use Rattle.std.proofs.Common.{sym, ◌∙◌, arith}
use Rattle.event_core.proofs.Sizes.{node_sized}
use Rattle.event_core.proofs.node.node_step.Goals as goal

pub of-requires : goal.of-requires
of-requires c =
    let is = sym c.node_effect.ensures ∙ c.in_ok-effect.was in
    omega (arith, node_sized c.args.event.kind _ _ is c.args.event.sized)
