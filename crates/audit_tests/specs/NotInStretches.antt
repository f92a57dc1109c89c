-- Files no stretch of which can be read.
use Rattle.std.specs.Prelude.{Bool, true, false}
use Rattle.streams.specs.declared.run_error.RunError.{RunError}
use Rattle.streams.specs.declared.run_error.RunError.TheVariants.{Read, Open}

-- the error with which each reading ends, by whether the file can't be opened again
abbrev pub error_of : Bool → RunError
error_of true = Open
error_of false = Read
