use Rattle.std.proofs.Common.{◌≡◌, ◌∙◌}
use Rattle.std.specs.Vec.Iter.{into_iter_items}
use Rattle.std.proofs.KnownBytes.{Keeps-refl}
use Rattle.streams.specs.declared.run_error.RunError.TheVariants.{Memory}
use Rattle.streams.specs.declared.failure.Failure.TheVariants.{Run}
use Rattle.audit_program.specs.Program.{failed}
use Rattle.audit_program.proofs.status.program_on_args.Goals as goal

-- the list has all the words
pub returns-in-Ok : goal.returns-in-Ok
returns-in-Ok g c =
    let same : c.as_slice.result.now ≡ into_iter_items c.args.words = c.as_slice.ensures.value ∙ c.in-Ok.ensures in
    rw (← same) c.program.ensures

pub returns-in-Err : goal.returns-in-Err
returns-in-Err g c = (c.ended_by.result.told, failed (Run Memory) (Keeps-refl _) c.ended_by.ensures.line c.ended_by.ensures.status)
