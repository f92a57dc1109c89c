-- The failure if the process could not get its words.
use Rattle.std.specs.declared.io.ErrorKind.{ErrorKind}
use Rattle.std.specs.declared.io.ErrorKind.TheVariants.{OutOfMemory}
use Rattle.streams.specs.declared.failure.Failure.{Failure}
use Rattle.streams.specs.declared.failure.Failure.TheVariants.{Usage, Run}
use Rattle.streams.specs.declared.run_error.RunError.TheVariants.{Memory}

-- `Memory` if memory was refused, else `Usage`, for example if a word is not UTF-8
abbrev pub failure_of_words : ErrorKind → Failure
failure_of_words OutOfMemory = Run Memory
failure_of_words _ = Usage
