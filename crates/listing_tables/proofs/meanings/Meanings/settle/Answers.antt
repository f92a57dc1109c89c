use Rattle.std.proofs.Common.{◌≡◌, Some, List, set, slice_get, add-one, sym, ap, ◌∙◌, arith}
use Rattle.listing_tables.specs.Meanings.{made_known}
use Rattle.listing_tables.specs.declared.meanings.Meaning.{Meaning}
use Rattle.std.proofs.lemmas.Bool.{OnFalse_at, or_parts}
use Rattle.listing_tables.proofs.MeaningLaws.{all_of, one_more, rest_at}
use Rattle.listing_tables.proofs.meanings.Meanings.settle.Goals as goal

pub loop-index-preserved : goal.loop-index-preserved
loop-index-preserved c =
    let all = c.spread.new.self.list.all.items in
    let i = c.loop-index.index in
    let made = c.in_ok-is_more.ensures.known in
    let before = c.loop-index.invariant in
    let here : slice_get all i ≡ Some made.before
    = sym (rest_at made_known all i) ∙ sym (ap (λ (l : List Meaning). slice_get l i) before.0) ∙ made.there in (
      made.are ∙ ap (λ (l : List Meaning). set l i (made_known made.before)) before.0
          ∙ rw add-one (one_more made_known all i made.before here),
      λ none. let both = or_parts c.loop-index.is_more c.in_ok-is_more.field-0 none in
          OnFalse_at both.1 c.in_ok-is_more.ensures.more ∙ before.1 both.0,
    )

pub returns : goal.returns
returns c =
    let all = c.spread.new.self.list.all.items in
    let past = c.loop-index-test.false in
    let end = c.in_ok-index-end.ensures in
    record {
      between = all;
      spreads = c.in_ok-spread.ensures;
      known = c.loop-index.invariant.0 ∙ all_of made_known all c.loop-index.index (omega (arith, past, end));
      same = c.loop-index.invariant.1;
    }
