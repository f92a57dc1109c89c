-- What `handles`, `nodes` and `oneway`, whose rows go by processes, have in common (docs/REPORT.md).
use Rattle.std.specs.Prelude.{ℕ, ℤ, List, ◌++◌, codes}
use Rattle.std.specs.Fmt.{decimal, signed_decimal}
use Rattle.capture_frame.specs.declared.process.Process.{Process}
use Rattle.report_text.specs.Process.{process_field}

-- the beginning of a row: device and process
abbrev pub process_start : Process → List ℕ
process_start process = codes "  " ++ process_field process

-- a count of references, and its low
abbrev pub count_fields : ℤ → ℤ → List ℕ
count_fields count low = codes " " ++ signed_decimal count ++ codes " " ++ signed_decimal low

-- the head of a section with this name: how many rows there are, and how many of them are unbalanced
abbrev pub unbalanced_head : List ℕ → ℕ → ℕ → List ℕ
unbalanced_head name rows unbalanced =
    name ++ codes " " ++ decimal rows ++ codes " unbalanced " ++ decimal unbalanced
