use Rattle.std.proofs.Common.{rules}
use Rattle.report_text.proofs.served.ServedCallSection.push_field.Goals as goal

pub returns-clause-text : goal.returns-clause-text
returns-clause-text c = search rules
