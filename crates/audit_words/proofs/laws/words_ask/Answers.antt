use Rattle.audit_words.proofs.WordLaws.{first_fault_asks, others_ask_for_nothing, report_asks}
use Rattle.audit_words.proofs.laws.words_ask.Goals as goal

pub returns-clause-report : goal.returns-clause-report
returns-clause-report c = report_asks

pub returns-clause-first_fault : goal.returns-clause-first_fault
returns-clause-first_fault c = first_fault_asks

pub returns-clause-others : goal.returns-clause-others
returns-clause-others c = others_ask_for_nothing
