-- What a failure leaves on standard output if the words ask for something.
use Rattle.std.proofs.Common.{List, ℕ, Option, Err}
use Rattle.clap.specs.Words.{Text}
use Rattle.streams.specs.declared.failure.Failure.TheVariants.{Run}
use Rattle.streams.specs.declared.run_error.RunError.{RunError}
use Rattle.streams.specs.declared.run_error.RunError.TheVariants.{Memory, TooLarge, Read, Write, Open}
use Rattle.audit_run.specs.Run.{given, none_given}
use Rattle.audit_words.specs.declared.request.Request.{Request}
use Rattle.audit_words.specs.CommandLine.{Ask}
use Rattle.audit_program.specs.Program.{FailureLeaves, RunsOnFiles}

pub failed_on_files : (bytes_of : Text → Option (List ℕ)) (words : List Text) (asked : Request) (old new : Option (List ℕ)) (error : RunError) → Ask words asked
    → RunsOnFiles bytes_of asked old new (Err error) → FailureLeaves bytes_of words old new (Run error)
failed_on_files bytes_of words asked old new Memory ask (given capture gives writes) = writes
failed_on_files bytes_of words asked old new Memory ask (none_given error gives is keeps) = keeps
failed_on_files bytes_of words asked old new TooLarge ask runs = (asked, ask, runs)
failed_on_files bytes_of words asked old new Read ask runs = (asked, ask, runs)
failed_on_files bytes_of words asked old new Write ask runs = (asked, ask, runs)
failed_on_files bytes_of words asked old new Open ask runs = (asked, ask, runs)
