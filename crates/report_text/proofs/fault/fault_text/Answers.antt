use Rattle.std.proofs.Common.{rules}
use Rattle.report_text.specs.Fault.{fault_line}
use Rattle.report_text.proofs.fault.fault_text.Goals as goal

pub returns-clause-line : goal.returns-clause-line
unfolding fault_line
returns-clause-line c = search rules
