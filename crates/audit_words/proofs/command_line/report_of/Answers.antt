use Rattle.std.proofs.Common.{rules}
use Rattle.clap.specs.Words.{found_of, rows_of}
use Rattle.audit_words.proofs.RequestLemmas.{IfNone-always, no_piece, no_workers}
use Rattle.audit_words.proofs.command_line.report_of.Goals as goal

pub returns-in_err-number_of-clause-none : goal.returns-in_err-number_of-clause-none
returns-in_err-number_of-clause-none c =
    IfNone-always _ (no_workers (rows_of (found_of c.args.matches.now)) c.in_err-number_of.ensures.none)

pub returns-in_err-number_of-2-clause-none : goal.returns-in_err-number_of-2-clause-none
returns-in_err-number_of-2-clause-none c =
    IfNone-always _ (no_piece (rows_of (found_of c.args.matches.now)) c.in_err-number_of-2.ensures.none)

pub returns-clause-some : goal.returns-clause-some
returns-clause-some c = search rules
