use Rattle.std.proofs.Common.{◌≡◌, ◌<◌, ◌^◌, length, map, refl, arith, rules}
use Rattle.streams.specs.declared.run_error.RunError.TheVariants.{Memory}
use Rattle.std.proofs.KnownBytes.{Keeps-refl}
use Rattle.std.proofs.lemmas.Result.{err_from_is_err_and}
use Rattle.audit_run.specs.Run.{given, none_given}
use Rattle.audit_run.proofs.RunLaws.{a_part_each, few_slices}
use Rattle.audit_run.proofs.part_runs.run_first_fault_parts.Goals as goal

pub returns-in_err-room : goal.returns-in_err-room
returns-in_err-room g c =
    let error = err_from_is_err_and c.from_residual.result c.from_residual.ensures.1 in
    none_given Memory tt (rw (error.1, error.2, c.in_err-room.ensures.memory) refl) (Keeps-refl _)

pub returns-in_err-parts : goal.returns-in_err-parts
returns-in_err-parts g c =
    let error = err_from_is_err_and c.from_residual-in_err-parts.result c.from_residual-in_err-parts.ensures.1 in
    none_given _ c.in_err-parts.ensures.none (rw (← error.2) error.1) (Keeps-refl _)

pub slices_of-slices-requires-clause-room : goal.slices_of-slices-requires-clause-room
slices_of-slices-requires-clause-room g c =
    let many = a_part_each g.R.Read.remaining c.args.readers.items c.in_ok-parts.parts.items c.in_ok-parts.ensures.parts.0 in
    omega (arith, many, c.as_slice.ensures.len, c.len.ensures, c.in_ok-room.ensures.room, c.in_ok-parts.parts.ok.0, c.args.readers.ok.0)

pub write_first_fault_parts-requires : goal.write_first_fault_parts-requires
write_first_fault_parts-requires g c =
    let slices : map (λ slice. slice.now) c.as_slice-2.result.now ≡ map (λ part. part.items) c.in_ok-parts.parts.items = search rules in
    let few : length c.args.readers.items < 2 ^ 32 = (let many = c.args.readers.ok in let fits = c.requires in omega (arith, many.0, fits)) in
    few_slices g.R.Read.remaining c.args.readers.items _ c.as_slice-2.result.now _ c.in_ok-parts.ensures.parts.0 slices few

pub returns : goal.returns
returns g c =
    let slices : map (λ slice. slice.now) c.as_slice-2.result.now ≡ map (λ part. part.items) c.in_ok-parts.parts.items = search rules in
    given _ (c.in_ok-parts.ensures.parts, rw (c.slices_of-slices.ensures.slices, c.as_slice.ensures.value) at c.slices_of-slices.ensures.bytes) (rw slices at c.write_first_fault_parts.ensures.written)
