-- The errors that end a run without an answer, and their lines (docs/REPORT.md).
use Rattle.std.specs.Prelude.{ℕ, List, [], ◌∷◌, ◌++◌, codes, ⊤}
use Rattle.streams.specs.declared.run_error.RunError.{RunError}
use Rattle.streams.specs.declared.run_error.RunError.TheVariants.{Memory, TooLarge, Read, Write, Open}

-- an error that reading a capture may end with: `Memory`, `TooLarge` or `Read`
abbrev pub IsReadingError : RunError → Type 0
IsReadingError Memory = ⊤
IsReadingError TooLarge = ⊤
IsReadingError Read = ⊤
IsReadingError Write = ⊥
IsReadingError Open = ⊥

-- an error because there is no room for more bytes: memory was refused, or they would pass the limit
abbrev pub IsRoomError : RunError → Type 0
IsRoomError Memory = ⊤
IsRoomError TooLarge = ⊤
IsRoomError Read = ⊥
IsRoomError Write = ⊥
IsRoomError Open = ⊥

-- what standard error says of an error, without the line feed
abbrev pub error_message : RunError → List ℕ
error_message Memory = codes "fault Memory"
error_message TooLarge = codes "fault TooLarge"
error_message Read = codes "fault Read"
error_message Write = codes "fault Write"
error_message Open = codes "fault Open"

-- the line of an error on standard error, with its line feed
abbrev pub error_line : RunError → List ℕ
error_line error = error_message error ++ 10 ∷ []
