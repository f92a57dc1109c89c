-- A capture that is read in stretches, each of which becomes a part of a capture.
use Rattle.std.specs.Prelude.{◌≡◌, ℕ, ◌+◌, ◌≤◌, List, length, take, drop, All, Option, IfSome, Ok, ⊤}
use Rattle.std.specs.List.{flat_map}
use Rattle.capture_frame.specs.declared.version.Version.{Version}
use Rattle.capture_frame.specs.Parts.{header_at, joined_as}
use Rattle.capture_frame.specs.Units.{IsBytes}
use Rattle.streams.specs.Parts.{bytes_of}
use Rattle.streams.specs.declared.run_error.RunError.{RunError}
use Rattle.streams.specs.declared.run_error.RunError.TheVariants.{Memory, TooLarge, Read, Write, Open}

-- these are the bytes from `start` on, at most so many, if it is known what there is to read
abbrev pub IsStretch : Option (List ℕ) → ℕ → ℕ → List ℕ → Type 0
IsStretch known start most bytes = IfSome known (λ all. bytes ≡ take most (drop start all))

-- what follows the file headers of these parts, of which there is at least one, is the stretch
abbrev pub ArePartsOf : Option (List ℕ) → ℕ → ℕ → List (List ℕ) → Type 0
ArePartsOf known start most parts = (1 ≤ length parts) × IsStretch known start most (flat_map (drop 16) parts)

-- the part consists of bytes, and its file header names this version
abbrev pub IsPartOf : Version → List ℕ → Type 0
IsPartOf version part = (header_at part ≡ Ok version) × IsBytes part

-- parts that were read as stretches of one capture: their file headers name one version, and their joined capture of
-- this version, which is within the limit, is all there is to read, if that is known
pub record AreStretchesOf (limit : ℕ) (known : Option (List ℕ)) (parts : List (List ℕ)) : Type 0 where
  pub version : Version
  pub same : All (IsPartOf version) parts
  pub some : 1 ≤ length parts
  pub within : 16 + bytes_of parts ≤ limit
  pub are : IfSome known (λ all. joined_as version parts ≡ all)

-- an error that reading a stretch may end with: `Memory`, or `Read` or `Open` if a reading of the file may end so
abbrev pub IsStretchError : (RunError → Type 0) → RunError → Type 0
IsStretchError errors Memory = ⊤
IsStretchError errors TooLarge = ⊥
IsStretchError errors Read = errors Read
IsStretchError errors Write = ⊥
IsStretchError errors Open = errors Open
