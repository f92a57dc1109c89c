-- The lines of `deaths` and `clears`, the sections of unclosed opens and stray closes (docs/REPORT.md). Each has its
-- name, and its word for an unclosed open.
use Rattle.std.specs.Prelude.{ℕ, List, ◌++◌, codes}
use Rattle.std.specs.Fmt.{decimal}
use Rattle.event_core.specs.Events.{EventRead}
use Rattle.report_text.specs.EventRow.{row_start}
use Rattle.report_text.specs.Line.{hex_number}

-- the head: how many opens there are, how many of them are unclosed, and how many closes are stray
abbrev pub open_and_stray_head : List ℕ → List ℕ → ℕ → ℕ → ℕ → List ℕ
open_and_stray_head name word all unclosed strays =
    name ++ codes " " ++ decimal all ++ codes " " ++ word ++ codes " " ++ decimal unclosed
    ++ codes " stray " ++ decimal strays

-- a row: place, device, process, cookie, and a word: that of the section for an unclosed open, `stray` for a stray
-- close
abbrev pub open_and_stray_row : (word : List ℕ) (cookie : ℕ) → EventRead → List ℕ
open_and_stray_row word cookie e = row_start e ++ codes " " ++ hex_number cookie ++ codes " " ++ word
