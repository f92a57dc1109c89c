use Rattle.binder_code.specs.CommandLaws.{words-stated, kind_of-word}
use Rattle.binder_code.proofs.WordKinds.{kind_of_word-is}
use Rattle.binder_code.proofs.laws.code_words.Goals as goal

pub returns-clause-stated : goal.returns-clause-stated
returns-clause-stated c = words-stated

pub returns-clause-meant : goal.returns-clause-meant
returns-clause-meant c = kind_of-word

pub returns-clause-alone : goal.returns-clause-alone
returns-clause-alone c = kind_of_word-is
