use Rattle.std.proofs.Common.{◌≡◌, slice_set, sym, ap, ◌∙◌, rules}
use Rattle.listing_tables.specs.declared.meanings.Known.{Known}
use Rattle.listing_tables.proofs.MeaningLaws.{set_itself}
use Rattle.listing_tables.proofs.meanings.Meanings.settle_one.Goals as goal

pub returns-then-eq-clause-more : goal.returns-then-eq-clause-more
returns-then-eq-clause-more c =
    let all = c.args.self.now.list.all.items in
    let meaning = c.in_ok-meaning.meaning in
    let same : meaning.known ≡ meaning.learnt = search rules in
    c.in_ok-set.ensures ∙ ap (λ (k : Known). slice_set all c.args.index (record meaning { known = k })) (sym same)
    ∙ set_itself all c.args.index meaning c.in_ok-meaning.ensures
