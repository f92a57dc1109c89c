use Rattle.std.proofs.Common.{◌≡◌, length}
use Rattle.capture_frame.specs.Parts.{frames_of_part, last_of}
use Rattle.capture_frame.specs.Units.{units_of}
use Rattle.transaction_view.specs.Grammar.{whole_parser}
use Rattle.transaction_view.proofs.WholeLaws.{judged}
use Rattle.transaction_view.proofs.check.check_part.Given as goal

-- the frames that are ahead, judged with their content, end as those of the part do
abbrev pub invariant-loop-frame : goal.invariant-loop-frame
invariant-loop-frame l =
    let whole = frames_of_part whole_parser l.fn.before l.fn.part in
    let ahead = judged l.frames in
    (whole.fault ≡ ahead.fault) × (last_of l.fn.before (units_of whole.units) ≡ last_of l.last (units_of ahead.units))

abbrev pub decreases-loop-frame : goal.decreases-loop-frame
decreases-loop-frame l = length l.frames.units
