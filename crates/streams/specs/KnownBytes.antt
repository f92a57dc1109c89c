-- What reading does to the bytes that a reader has left, and writing to the bytes that a writer has. `None` means that
-- no contract can say which bytes these are; then nothing is said of them.
use Rattle.std.specs.Prelude.{ℕ, ◌≤◌, List, length, take, Option}
use Rattle.std.specs.Io.KnownBytes.{Appends, Consumes}

-- the reader has lost some bytes from its front, or none, and has the others left
abbrev pub ConsumesSome : Option (List ℕ) → Option (List ℕ) → Type 0
ConsumesSome old new = (bs : List ℕ) × Consumes old new bs

-- the writer has grown by a beginning of `bs`, which can be nothing or all of `bs`
abbrev pub AppendsPrefix : Option (List ℕ) → Option (List ℕ) → List ℕ → Type 0
AppendsPrefix old new bs = (n : ℕ) × (n ≤ length bs) × Appends old new (take n bs)
