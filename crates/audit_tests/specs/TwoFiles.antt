-- Files whose bytes are known.
use Rattle.std.specs.Prelude.{ℕ, List, Option, Some, None, codes, if◌then◌else◌}
use Rattle.std.specs.Str.{bytes_eq}

-- the bytes of the files `first` and `second`; of no other name it is known which bytes its file has
abbrev pub two_files : List ℕ → List ℕ → List ℕ → Option (List ℕ)
two_files first second name =
    if bytes_eq name (codes "first") then Some first
    else (if bytes_eq name (codes "second") then Some second else None)
