use Rattle.std.proofs.Common.{◌≡◌, ℕ, List, ◌++◌}
use Rattle.std.specs.List.{AllZip, FoldsTo}
use Rattle.report_text.proofs.section.push_rows.Given as goal

-- the lines of the rows before those that are left were taken
abbrev pub invariant-loop-some : goal.invariant-loop-some
invariant-loop-some g l =
    (done : List _) × (shown : List (List ℕ)) × (l.kept ≡ done ++ l.some-iterator.rest.now) × AllZip (g.S.Section.shows l.found) done shown
    × FoldsTo g.L.Lines.takes l.fn.lines shown l.lines
