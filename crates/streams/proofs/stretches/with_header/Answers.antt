use Rattle.std.proofs.Common.{◌≡◌, drop, ap, sym, ◌∙◌, arith}
use Rattle.std.proofs.lemmas.Grind.{common_steps}
use Rattle.std.proofs.lemmas.List.{drop_all}
use Rattle.streams.proofs.stretches.with_header.Goals as goal

pub returns-then-head-eq-FILE_HEADER-clause-after : goal.returns-then-head-eq-FILE_HEADER-clause-after
returns-then-head-eq-FILE_HEADER-clause-after c =
    let items : c.extend_from_slice.new.self.items ≡ c.args.head.now = grind (arith, common_steps) in
    let head = c.if-head-eq-FILE_HEADER.true in
    let short = c.if-len-lt-FILE_HEADER.true in
    ap (drop 16) items ∙ drop_all 16 c.args.head.now (omega (arith, head)) ∙ sym (drop_all 16 c.args.part.items (omega (arith, short, c.len.ensures, c.args.part.ok.0)))
