use Rattle.std.proofs.Common.{◌≡◌, ◌∙◌, Some, None, codes, arith, rules}
use Rattle.clap.specs.Words.{found_of, rows_of}
use Rattle.clap.proofs.WalkLemmas.{raw_values-rows}
use Rattle.audit_words.proofs.RequestLemmas.{IfNone-always, files_missing, files_read, files_too_many}
use Rattle.audit_words.proofs.command_line.files_of.Goals as goal

pub returns-in_err-files-clause-none : goal.returns-in_err-files-clause-none
returns-in_err-files-clause-none c =
    let none : c.get_strs.result ≡ None = search rules in
    IfNone-always _ (files_missing (rows_of (found_of c.args.matches.now)) c.get_strs.result
    (c.get_strs.ensures ∙ raw_values-rows (found_of c.args.matches.now) (codes "files")) none)

pub returns-then-files-gt-MOST_FILES-clause-none : goal.returns-then-files-gt-MOST_FILES-clause-none
returns-then-files-gt-MOST_FILES-clause-none c =
    let some : c.get_strs.result ≡ Some c.in_ok-files.files = search rules in
    let many = c.if-files-gt-MOST_FILES.true in
    files_too_many (rows_of (found_of c.args.matches.now)) c.get_strs.result c.in_ok-files.files
    (c.get_strs.ensures ∙ raw_values-rows (found_of c.args.matches.now) (codes "files")) some (λ most. omega (arith, most, many))

pub returns-clause-some : goal.returns-clause-some
returns-clause-some c =
    let some : c.get_strs.result ≡ Some c.in_ok-files.files = search rules in
    let few = c.if-files-gt-MOST_FILES.false in
    files_read (rows_of (found_of c.args.matches.now)) c.get_strs.result c.in_ok-files.files
    (c.get_strs.ensures ∙ raw_values-rows (found_of c.args.matches.now) (codes "files")) some (omega (arith, few))
