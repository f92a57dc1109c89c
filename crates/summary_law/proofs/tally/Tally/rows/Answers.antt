use Rattle.std.proofs.lemmas.Grind.{common_steps}
use Rattle.std.proofs.Common.{◌≡◌, ◌++◌, [], map, sym, ap, ◌∙◌, rules, arith}
use Rattle.std.proofs.lemmas.List.{append-nil}
use Rattle.std.specs.BTreeMap.{IsOrdered}
use Rattle.summary_law.proofs.TallyLaws.{row_of, map_rows}
use Rattle.summary_law.proofs.tally.Tally.rows.Goals as goal

pub returns : goal.returns
returns g c = λ items sums.
    let entries = c.args.self.now.amounts in
    let ordered : IsOrdered g.K.Ord.cmp entries = c.into_iter-key-iterator.ensures.into_iter_gives.1 in
    let rest : c.loop-key.key-iterator ≡ [] = search rules in
    let whole : c.loop-key.rows.items ≡ map row_of entries.entries
    = sym (append-nil c.loop-key.rows.items) ∙ sym (ap (λ es. c.loop-key.rows.items ++ map row_of es) rest) ∙ c.loop-key.invariant in
    map_rows g.K.Ord.cmp g.met.K.Ord.total entries ordered items sums c.loop-key.rows.items whole

pub loop-key-preserved : goal.loop-key-preserved
loop-key-preserved c = grind (arith, common_steps)
