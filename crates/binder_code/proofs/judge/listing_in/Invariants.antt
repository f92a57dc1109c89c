use Rattle.std.proofs.Common.{◌≡◌, None, take}
use Rattle.std.specs.List.{find, list_any}
use Rattle.binder_code.specs.Code.{number, size}
use Rattle.binder_code.specs.Lines.{is_numbered, is_sized}
use Rattle.binder_code.proofs.judge.listing_in.Given as goal

-- no line so far has both the number and the size
abbrev pub invariant-loop-line : goal.invariant-loop-line
invariant-loop-line l = record {
  missed : find (is_sized (number l.code.0) (size l.code.0)) (take l.line-index l.lines) ≡ None;
  listed : l.is_listed ≡ list_any (is_numbered (number l.code.0)) (take l.line-index l.lines);
}
