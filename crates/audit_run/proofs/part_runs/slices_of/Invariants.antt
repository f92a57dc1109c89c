use Rattle.std.proofs.Common.{◌≡◌, ◌≤◌, All, length, map, take, vec_capacity, vec_len}
use Rattle.capture_frame.specs.Units.{IsBytes}
use Rattle.audit_run.proofs.part_runs.slices_of.Given as goal

-- the slices so far are those of the first parts and consist of bytes, and there is room for the rest
abbrev pub invariant-loop-part : goal.invariant-loop-part
invariant-loop-part l =
    (map (λ slice. slice.now) l.slices.items ≡ map (λ part. part.items) (take l.part-index l.fn.parts))
    × All (λ slice. IsBytes slice.now) l.slices.items × (vec_len l.slices ≡ l.part-index) × (length l.fn.parts ≤ vec_capacity l.slices)
