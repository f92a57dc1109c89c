-- How a run ends: what reading gave, what was written, and what is returned. A run reads a capture, which is a list of
-- bytes or a list of parts, and writes a text on it. The bytes of a reader or of a writer are an `Option (List ℕ)`:
-- `Some` bytes for a slice or a vector, and `None` for a file, a pipe or a terminal, whose bytes no contract can say.
-- With `None`, these definitions say nothing about the bytes.
use Rattle.std.specs.Prelude.{◌≡◌, ℕ, ◌≤◌, ◌<◌, List, [], ◌∷◌, length, Option, IfSome, Result, Ok, Err, ⊤}
use Rattle.std.specs.Result.{result_map_both}
use Rattle.std.specs.Io.KnownBytes.{Appends, Keeps}
use Rattle.capture_frame.specs.declared.fault.Fault.{Fault}
use Rattle.capture_frame.specs.Envelope.{PlacedFrame}
use Rattle.capture_frame.specs.Units.{IsBytes}
use Rattle.transaction_view.specs.Grammar.{frames_of_parts}
use Rattle.audit_join.specs.declared.limits.TheConstants.{CAPTURE_LIMIT}
use Rattle.streams.specs.KnownBytes.{AppendsPrefix}
use Rattle.streams.specs.declared.run_error.RunError.{RunError}
use Rattle.streams.specs.declared.run_error.RunError.TheVariants.{Memory, TooLarge, Read, Write, Open}
use Rattle.audit_run.specs.declared.written.Written.{Written}
use Rattle.audit_run.specs.declared.written.Written.TheVariants.{Report, Malformed}

-- A reader that had these bytes gives a capture or an error. The capture consists of bytes and is within the limit. If
-- it is known what the reader had, the capture is all of that, and `TooLarge` comes only if that is more than the
-- limit. `Memory` and `Read` may come at any time, `Write` and `Open` never.
abbrev pub ReaderGives : Option (List ℕ) → Result (List ℕ) RunError → Type 0
ReaderGives had (Ok capture) =
    IfSome had (λ bytes. capture ≡ bytes) × (length capture ≤ CAPTURE_LIMIT) × IsBytes capture
ReaderGives had (Err Memory) = ⊤
ReaderGives had (Err TooLarge) = IfSome had (λ bytes. CAPTURE_LIMIT < length bytes)
ReaderGives had (Err Read) = ⊤
ReaderGives had (Err Write) = ⊥
ReaderGives had (Err Open) = ⊥

-- How a run ends once it has the capture. `text_of` gives the text that is to be written on a capture, and `value_of`
-- the value that is to be returned. At Ok the writer has grown by this text, whole, and by nothing else, and the value
-- is this one. With `Memory` the writer is unchanged. With `Write` it has grown by a beginning of the text, which can be
-- nothing or the whole text. Once the capture is read, no other error comes.
abbrev pub Writes : {C A : Type 0} → (C → List ℕ) → (C → A) → C → Option (List ℕ) → Option (List ℕ)
    → Result A RunError → Type 0
Writes text_of value_of capture old new (Ok value) = Appends old new (text_of capture) × (value ≡ value_of capture)
Writes text_of value_of capture old new (Err Memory) = Keeps old new
Writes text_of value_of capture old new (Err TooLarge) = ⊥
Writes text_of value_of capture old new (Err Read) = ⊥
Writes text_of value_of capture old new (Err Write) = AppendsPrefix old new (text_of capture)
Writes text_of value_of capture old new (Err Open) = ⊥

-- How a run ends. `Gives` says what reading may give, `text_of` which text is to be written on a capture, and
-- `value_of` which value is to be returned. The writer has the bytes `old` before the run and `new` after it, and
-- `result` is the value or the error. Either reading gave a capture, and the run ends as `Writes` says of that capture.
-- Or reading gave an error, the run ends with that error, and the writer is unchanged.
pub data RunEnds {C A : Type 0} (Gives : Result C RunError → Type 0) (text_of : C → List ℕ) (value_of : C → A)
    (old new : Option (List ℕ)) (result : Result A RunError) : Type 0 where
  given : (capture : C) → Gives (Ok capture) → Writes text_of value_of capture old new result
      → RunEnds Gives text_of value_of old new result
  none_given : (error : RunError) → Gives (Err error) → result ≡ Err error → Keeps old new
      → RunEnds Gives text_of value_of old new result

-- what a run has written, by what was read of the capture: the report on its frames, or the line of its first fault
abbrev pub written_of : {W F : Type 0} → Result W F → Written F
written_of (Ok frames) = Report
written_of (Err fault) = Malformed fault

-- the frames of a capture in one part, or its first fault, which is told without the number of the part
abbrev pub frames_of_capture : List ℕ → Result (List PlacedFrame) Fault
frames_of_capture capture = result_map_both (λ frames. frames) (λ found. found.fault) (frames_of_parts (capture ∷ []))
