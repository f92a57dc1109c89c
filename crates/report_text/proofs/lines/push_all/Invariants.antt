use Rattle.std.proofs.Common.{map, take}
use Rattle.std.specs.List.{FoldsTo}
use Rattle.report_text.proofs.lines.push_all.Given as goal

-- the lines so far were taken
abbrev pub invariant-loop-row : goal.invariant-loop-row
invariant-loop-row g l = FoldsTo g.L.Lines.takes l.fn.lines (map (λ row. row.bytes) (take l.row-index l.rows)) l.lines
