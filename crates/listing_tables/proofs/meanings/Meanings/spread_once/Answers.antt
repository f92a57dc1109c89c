use Rattle.std.proofs.Common.{◌≡◌, ◌+◌, ℕ, [], ◌∷◌, ◌++◌, take, add-one, sym, ap, subst, ◌∙◌, arith}
use Rattle.std.proofs.lemmas.Bool.{OnFalse_at, OnFalse_from, or_parts}
use Rattle.listing_tables.specs.Meanings.{SpreadsEach}
use Rattle.listing_tables.specs.declared.numbered.Numbered.{Numbered}
use Rattle.listing_tables.proofs.MeaningLaws.{spread_all, spreads_more, take_next}
use Rattle.listing_tables.proofs.meanings.Meanings.spread_once.Goals as goal

pub loop-at-preserved : goal.loop-at-preserved
loop-at-preserved c =
    let before = c.loop-at.self in
    let new = c.spread_one.new.self in
    let at = c.loop-at.at in
    let pair : ℕ × ℕ = (c.in_ok-one.one, c.in_ok-one.other) in
    let more : take (at + 1) before.same.all.items ≡ take at before.same.all.items ++ pair ∷ []
    = rw add-one (take_next before.same.all.items at pair c.in_ok-one.ensures) in
    record {
      same = c.spread_one.ensures.same ∙ c.loop-at.invariant.same;
      spread = subst (λ (s : Numbered (ℕ × ℕ)). SpreadsEach c.args.self.now.list.all.items new.list.all.items (take (at + 1) s.all.items)) (sym c.spread_one.ensures.same)
          (subst (SpreadsEach c.args.self.now.list.all.items new.list.all.items) (sym more)
          (spreads_more c.args.self.now.list.all.items before.list.all.items new.list.all.items (take at before.same.all.items) pair
          c.loop-at.invariant.spread c.in_ok-noted.ensures.spread));
      more = λ none. let both = or_parts c.loop-at.noted c.in_ok-noted.field-0 none in
          OnFalse_at both.1 c.in_ok-noted.ensures.more ∙ c.loop-at.invariant.more both.0;
    }

pub returns : goal.returns
returns c =
    let at = c.loop-at.at in
    let past = c.loop-at-test.false in
    let end = c.in_ok-at-end.ensures in
    record {
      spread = spread_all c.args.self.now.list.all.items c.loop-at.self.list.all.items c.loop-at.self.same.all.items c.args.self.now.same.all.items at
          (ap (λ (s : Numbered (ℕ × ℕ)). s.all.items) c.loop-at.invariant.same) (omega (arith, past, end)) c.loop-at.invariant.spread;
      more = OnFalse_from c.loop-at.noted _ c.loop-at.invariant.more;
      same = c.loop-at.invariant.same;
    }
