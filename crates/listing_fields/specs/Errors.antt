-- The errors that end a listing early: what they come from, their statuses and their lines.
use Rattle.std.specs.Prelude.{ℕ, List, [], ◌∷◌, ◌++◌, codes}
use Rattle.std.specs.declared.io.ErrorKind.{ErrorKind}
use Rattle.std.specs.declared.io.ErrorKind.TheVariants.{BrokenPipe}
use Rattle.streams.specs.declared.run_error.RunError.{RunError}
use Rattle.streams.specs.declared.run_error.RunError.TheVariants as run
use Rattle.listing_fields.specs.declared.error.ListingError.{ListingError}
use Rattle.listing_fields.specs.declared.error.ListingError.TheVariants.{Usage, Memory, TooLarge, Read, Write, Open, Closed}

-- the error of the same name
abbrev pub listing_error : RunError → ListingError
listing_error run.Memory = Memory
listing_error run.TooLarge = TooLarge
listing_error run.Read = Read
listing_error run.Write = Write
listing_error run.Open = Open

-- for a write that failed: `Closed` if the pipe has no reader, else `Write`
abbrev pub error_of_write : ErrorKind → ListingError
error_of_write BrokenPipe = Closed
error_of_write _ = Write

-- the status that an error ends the process with
abbrev pub status_of : ListingError → ℕ
status_of Usage = 64
status_of Memory = 3
status_of TooLarge = 4
status_of Read = 4
status_of Write = 4
status_of Open = 4
status_of Closed = 0

-- the line of an error on standard error, with its line feed; none if the reader closed the pipe
abbrev pub line_of : ListingError → List ℕ
line_of Usage = codes "usage: binder_tables --tables FOLDER FILE..., --table NAME FILE..., or --lines [--objects] [--at PLACE]... [--frame PLACE]... [--call PLACE]... FILE..." ++ 10 ∷ []
line_of Memory = codes "fault Memory" ++ 10 ∷ []
line_of TooLarge = codes "fault TooLarge" ++ 10 ∷ []
line_of Read = codes "fault Read" ++ 10 ∷ []
line_of Write = codes "fault Write" ++ 10 ∷ []
line_of Open = codes "fault Open" ++ 10 ∷ []
line_of Closed = []
