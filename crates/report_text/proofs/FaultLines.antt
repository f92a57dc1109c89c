-- The line of a fault, for one part and for several.
use Rattle.std.proofs.Common.{◌≡◌, ◌≢◌, ℕ, zero, suc, ◌++◌, refl}
use Rattle.std.specs.Prelude.{codes}
use Rattle.std.specs.Fmt.{decimal}
use Rattle.capture_frame.specs.declared.fault.PartFault.{PartFault}
use Rattle.report_text.specs.Fault.{fault_line, fault_words, part_fault_line}

pub one_line_said : (found : PartFault) → part_fault_line 1 found ≡ fault_line found.fault
unfolding part_fault_line
one_line_said found = refl

pub many_lines_said : (parts : ℕ) (found : PartFault) → parts ≢ 1
    → part_fault_line parts found ≡ (fault_words found.fault ++ codes " in part " ++ decimal found.part) ++ codes "\n"
unfolding part_fault_line
many_lines_said zero found many = refl
many_lines_said (suc zero) found many = absurd (many refl)
many_lines_said (suc (suc parts)) found many = refl
