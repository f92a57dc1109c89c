use Rattle.std.proofs.Common.{◌≡◌, Some, length, slice_get, refl, ap, sym, subst, ◌∙◌, arith, rules}
use Rattle.std.proofs.lemmas.Option.{slice_get_read}
use Rattle.listing_tables.specs.Certainty.{LooksAt}
use Rattle.listing_tables.specs.Waiting.{all_looks}
use Rattle.listing_tables.proofs.CertaintyLaws.{holds_if, no_look, one_look}
use Rattle.listing_tables.proofs.certainty.Evidence.look_at_all.Goals as goal

pub loop-at-init : goal.loop-at-init
loop-at-init c = record {
  looks = no_look c.args.self.now c.args.sought.now _ c.begin.ensures;
  all = λ e. holds_if c.in_ok-is_whole.is_whole c.in_ok-is_whole.ensures e ∙ ap (all_looks c.args.self.now.waiting.now c.args.sought.now.message.key) c.in_ok-list.ensures;
  end = search rules;
}

pub loop-at-preserved : goal.loop-at-preserved
loop-at-preserved c =
    let before = c.loop-at.fitting in
    let look = c.index-look.result.now in
    let inside = c.loop-at-test.true in
    let end = c.loop-at.invariant.end in
    let is : slice_get before.looked.items c.loop-at.at ≡ Some look
    = slice_get_read before.looked.items _ c.loop-at.at look refl (omega (arith, inside, end)) c.index-look.ensures in
    let one = c.in_ok-look_at.ensures in
    record {
      looks = one_look c.args.self.now c.args.sought.now before c.look_at.new.fitting c.loop-at.at look
          c.loop-at.invariant.looks is one;
      all = λ e. ap (λ l. l.items) one.looked ∙ c.loop-at.invariant.all (sym one.whole ∙ e);
      end = end ∙ sym (ap (λ l. length l.items) one.looked);
    }

pub index-look-requires : goal.index-look-requires
index-look-requires c =
    let inside = c.loop-at-test.true in
    let end = c.loop-at.invariant.end in
    omega (arith, inside, end)

pub returns : goal.returns
returns c =
    let past = c.loop-at-test.false in
    let end = c.loop-at.invariant.end in
    let upto = c.loop-at.auto.at-end in
    let all : c.loop-at.at ≡ length c.loop-at.fitting.looked.items = omega (arith, past, end, upto) in
    record {
      looks = subst (LooksAt c.args.self.now c.args.sought.now c.loop-at.fitting) all c.loop-at.invariant.looks;
      all = c.loop-at.invariant.all;
    }
