use Rattle.std.proofs.lemmas.Grind.{common_steps}
use Rattle.std.proofs.Common.{ℕ, ◌-◌, ◌≤◌, length, arith, length-drop, length-take}
use Rattle.std.proofs.lemmas.List.{take-take}
use Rattle.std.proofs.Math.Seq.{take-add}
use Rattle.std.proofs.KnownBytes.{Appends-trans}
use Rattle.streams.proofs.writing.write_text.Goals as goal

-- what the write took follows what was written before
pub loop-written-preserved : goal.loop-written-preserved
loop-written-preserved g c =
    let small : c.in-Ok.count ≤ length c.args.text.now - c.loop-written.written =
    omega (arith, c.in-Ok.ensures.bound, length-take {A = ℕ}, length-drop {A = ℕ}) in
    let taken = rw take-take at c.in-Ok.ensures.bytes in
    (rw take-add (Appends-trans _ _ _ _ _ c.loop-written.invariant.0 taken), omega arith)

pub returns-clause-ok : goal.returns-clause-ok
returns-clause-ok c = grind (arith, common_steps)
