-- The lines of the header's tables, as the code has them. No public clause names these definitions.
use Rattle.std.specs.Prelude.{ℕ, ◌==◌, ◌&&◌, Bool, List, Result, find, option_map}
use Rattle.std.specs.List.{list_any}
use Rattle.binder_code.specs.Code.{number, size}
use Rattle.binder_code.specs.Commands.{Row, judged}
use Rattle.binder_code.specs.declared.code.CodeFault.{CodeFault}
use Rattle.binder_code.specs.declared.record_kind.Kind.{Kind}
use Rattle.binder_code.specs.declared.record_kind.Line.{Line}

-- a line's kind, and the number and the size that its code word has
abbrev pub spelled : Line → Kind × ℕ × ℕ
spelled line = (line.kind, number line.word, size line.word)

-- what they have to be for a line of the header
abbrev pub spelled_as : Row → Kind × ℕ × ℕ
spelled_as row = (row.kind, row.number, row.size)

-- whether the code word of a line has this number
abbrev pub is_numbered : ℕ → Line → Bool
is_numbered n line = number line.word == n

-- whether the code word of a line has this number and this size
abbrev pub is_sized : ℕ → ℕ → Line → Bool
is_sized n bytes line = is_numbered n line && (size line.word == bytes)

-- what a number and a payload size mean, by the code words of these lines
abbrev pub listing_in : List Line → ℕ → ℕ → Result Kind CodeFault
listing_in lines n bytes =
    judged (option_map (λ line. line.kind) (find (is_sized n bytes) lines)) (list_any (is_numbered n) lines)
