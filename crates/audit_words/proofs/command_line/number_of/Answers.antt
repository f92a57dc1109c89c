use Rattle.clap.specs.Words.{found_of, rows_of}
use Rattle.clap.proofs.WalkLemmas.{one_text-rows}
use Rattle.audit_words.proofs.RequestLemmas.{number_large, number_read}
use Rattle.audit_words.proofs.command_line.number_of.Goals as goal

pub returns-clause-some : goal.returns-clause-some
returns-clause-some c =
    number_read c.args.name.now (rows_of (found_of c.args.matches.now)) _ c.get_one.result
    (one_text-rows (found_of c.args.matches.now) c.args.name.now) c.get_one.ensures.none c.get_one.ensures.value

pub returns-clause-none : goal.returns-clause-none
returns-clause-none c =
    number_large c.args.name.now (rows_of (found_of c.args.matches.now)) _ c.get_one.result
    (one_text-rows (found_of c.args.matches.now) c.args.name.now) c.get_one.ensures.none c.get_one.ensures.value
