-- The failure if clap does not take the words of a command line.
use Rattle.streams.specs.declared.failure.Failure.{Failure}
use Rattle.streams.specs.declared.failure.Failure.TheVariants.{Usage, Run}
use Rattle.streams.specs.declared.run_error.RunError.TheVariants.{Memory}
use Rattle.audit_words.specs.declared.command_line.WordsError.{WordsError}
use Rattle.audit_words.specs.declared.command_line.WordsError.TheVariants as words

-- `Memory` if clap was refused memory, else `Usage`
abbrev pub failure_of : WordsError → Failure
failure_of words.Memory = Run Memory
failure_of words.Usage = Usage
