use Rattle.std.proofs.Common.{◌≡◌, sym, ap, ◌∙◌, rules}
use Rattle.std.specs.Prelude.{slice_set}
use Rattle.listing_tables.specs.declared.meanings.Known.{Known}
use Rattle.listing_tables.proofs.MeaningLaws.{set_itself}
use Rattle.listing_tables.proofs.meanings.Meanings.join.Goals as goal

pub returns-then-eq-clause-learnt : goal.returns-then-eq-clause-learnt
returns-then-eq-clause-learnt c =
    let meaning = c.in_ok-meaning.meaning in
    record {
      before = meaning;
      there = c.in_ok-meaning.ensures;
      are = c.in_ok-set.ensures ∙ ap (λ (k : Known). slice_set c.args.self.now.list.all.items c.args.generation (record meaning { learnt = k })) c.joined-learnt.ensures;
    }

pub returns-then-eq-clause-more : goal.returns-then-eq-clause-more
returns-then-eq-clause-more c =
    let all = c.args.self.now.list.all.items in
    let meaning = c.in_ok-meaning.meaning in
    let same : meaning.learnt ≡ c.joined-learnt.result = search rules in
    c.in_ok-set.ensures ∙ ap (λ (k : Known). slice_set all c.args.generation (record meaning { learnt = k })) (sym same)
    ∙ set_itself all c.args.generation meaning c.in_ok-meaning.ensures

pub returns-clause-learnt : goal.returns-clause-learnt
returns-clause-learnt c =
    let meaning = c.in_ok-meaning.meaning in
    record {
      before = meaning;
      there = c.in_ok-meaning.ensures;
      are = c.in_ok-set.ensures ∙ ap (λ (k : Known). slice_set c.args.self.now.list.all.items c.args.generation (record meaning { learnt = k })) c.joined-learnt.ensures;
    }
