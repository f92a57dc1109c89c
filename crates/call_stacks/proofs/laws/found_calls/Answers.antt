use Rattle.call_stacks.proofs.Found.{openers-listed, strays-listed}
use Rattle.call_stacks.proofs.laws.found_calls.Goals as goal

pub returns-clause-openers : goal.returns-clause-openers
returns-clause-openers g c = openers-listed

pub returns-clause-strays : goal.returns-clause-strays
returns-clause-strays g c = strays-listed
