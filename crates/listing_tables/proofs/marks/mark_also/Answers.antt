use Rattle.std.proofs.Common.{ap, ◌∙◌}
use Rattle.std.specs.Prelude.{slice_set}
use Rattle.std.proofs.lemmas.Result.{on_ok_weaker}
use Rattle.listing_tables.specs.declared.marks.Marked.{Marked}
use Rattle.listing_tables.proofs.marks.mark_also.Goals as goal

pub returns : goal.returns
returns c =
    let mark = c.in_ok-mark.mark in
    on_ok_weaker c.set.result
    (λ put. record {
      before = mark;
      there = c.in_ok-mark.ensures;
      are = put ∙ ap (λ (m : Marked). slice_set c.args.marks.now.all.items c.args.index (record mark { other = m })) c.and-other.ensures;
    })
    c.set.ensures
