use Rattle.std.proofs.Common.{◌+◌, List, take, sym, subst}
use Rattle.std.proofs.lemmas.List.{take_more}
use Rattle.listing_tables.specs.Meanings.{BeginsEach}
use Rattle.listing_tables.specs.declared.generations.Generation.{Generation}
use Rattle.listing_tables.proofs.MeaningLaws.{begins_next}
use Rattle.listing_tables.proofs.meanings.Meanings.begin.Goals as goal

pub loop-generation-preserved : goal.loop-generation-preserved
loop-generation-preserved c =
    let generations = c.deref-generation-items.result.now in
    let value = c.deref-generation-items.ensures.value in
    let i = c.loop-generation.generation-index in
    let seen = c.args.seen.now in
    let old = c.args.self.now.list.all.items in
    let before = c.loop-generation.self.list.all.items in
    let new = c.push.new.self.all.items in
    record {
      begins = subst (λ (l : List Generation). BeginsEach seen old new (take (i + 1) l)) value
          (begins_next seen old before new generations i _ c.in_ok-gaps_before.field-0
          (subst (λ (l : List Generation). BeginsEach seen old before (take i l)) (sym value) c.loop-generation.invariant.begins)
          (take_more generations i _ c.loop-generation-test.true) c.in_ok-gaps_before.ensures c.in_ok-push.ensures.last);
      same = c.loop-generation.invariant.same;
    }
