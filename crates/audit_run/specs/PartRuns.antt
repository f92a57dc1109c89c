-- What reading gives of a capture in several parts, one from each reader or from each file.
use Rattle.std.specs.Prelude.{ℕ, List, [], ◌∷◌, All, Option, Result, Ok, Err, ⊤}
use Rattle.capture_frame.specs.Units.{IsBytes}
use Rattle.audit_join.specs.declared.limits.TheConstants.{CAPTURE_LIMIT}
use Rattle.streams.specs.Parts.{AreRead, ArePastLimit}
use Rattle.streams.specs.Stretches.{AreStretchesOf}
use Rattle.streams.specs.declared.run_error.RunError.{RunError}
use Rattle.streams.specs.declared.run_error.RunError.TheVariants.{Memory, TooLarge, Read, Write, Open}

-- Readers that had these bytes give parts or an error. There is a part from each reader, in order. Each part consists
-- of bytes, and if it is known what its reader had, the part is all of that. Together the parts are within the limit.
-- If it is known what each reader had, `TooLarge` comes only if that is more than the limit together. `Memory` and
-- `Read` may come at any time, `Write` and `Open` never.
abbrev pub ReadersGive : List (Option (List ℕ)) → Result (List (List ℕ)) RunError → Type 0
ReadersGive had (Ok parts) = AreRead CAPTURE_LIMIT had parts × All IsBytes parts
ReadersGive had (Err Memory) = ⊤
ReadersGive had (Err TooLarge) = ArePastLimit CAPTURE_LIMIT had
ReadersGive had (Err Read) = ⊤
ReadersGive had (Err Write) = ⊥
ReadersGive had (Err Open) = ⊥

-- Files that have these bytes, which are all opened before the first is read, give what their readers give, or
-- `Open`, which may come at any time.
abbrev pub FilesGive : List (Option (List ℕ)) → Result (List (List ℕ)) RunError → Type 0
FilesGive had (Err Open) = ⊤
FilesGive had given = ReadersGive had given

-- parts that were read as stretches of the one file, if there is one file, with these bytes
abbrev pub AreOfOneFile : List (Option (List ℕ)) → List (List ℕ) → Type 0
AreOfOneFile (had ∷ []) parts = AreStretchesOf CAPTURE_LIMIT had parts
AreOfOneFile _ parts = ⊥

-- an error that opening files may end with: `Memory` or `Open`
abbrev pub IsOpeningError : RunError → Type 0
IsOpeningError Memory = ⊤
IsOpeningError Open = ⊤
IsOpeningError _ = ⊥
