use Rattle.std.proofs.Common.{List, ◌∷◌, ◌≡◌, [], Option, sym, subst, ap, ◌∙◌, rules}
use Rattle.std.proofs.lemmas.Cmp.{eq_by_cmp_equiv}
use Rattle.std.proofs.lemmas.Map.Keys.{IsDistinct-tail}
use Rattle.std.specs.BTreeMap.{get}
use Rattle.std.specs.HashMap.Eq.{lookup_congr}
use Rattle.std.specs.List.{IsDistinct}
use Rattle.std.specs.Map.{keys_of}
use Rattle.std.specs.Ordering.{eq_by_cmp}
use Rattle.std.specs.Vec.Iter.{into_iter_items, into_iter_len}
use Rattle.summary_law.proofs.ByKeyLaws.{Merging, merging_starts, merging_goes_on, join_asks, merged_all}
use Rattle.summary_law.proofs.PlaceLaws.{if_some, list_is, none_left, parts_distinct}
use Rattle.summary_law.specs.ByKey.{IsOwn}
use Rattle.summary_law.proofs.by_key.ByKeySummary.join.Goals as goal

pub loop-key-init : goal.loop-key-init
loop-key-init g c =
    let total = g.met.K.Ord.total in
    let cmp = g.K.Ord.cmp in
    let eq = eq_by_cmp cmp in
    let gives = c.into_iter-key-iterator.ensures.into_iter_gives in
    let index = c.later.inside.index in
    let parts = c.later.inside.parts.items in
    let earlier = get cmp c.args.self in
    record {
      can_next = tt;
      is_finite = tt;
      distinct = subst (λ (es : List _). IsDistinct eq (keys_of es)) (sym gives.0) (parts_distinct cmp total index parts c.later.invariant);
      merging = subst (λ (es : List _). Merging eq g.S.Summary.sums g.S.Summary.fits earlier (get cmp c.args.later) earlier es) (sym gives.0)
          (λ q front back mine theirs fits.
          merging_starts eq (eq_by_cmp_equiv total) g.S.Summary.sums g.S.Summary.fits earlier parts q front back mine
          (subst (λ (o : Option _). IsOwn g.S.Summary.sums o back)
          (sym (list_is cmp total index parts c.later.invariant q ∙ ap (λ m. get cmp m q) c.later.view_is)) theirs) fits);
    }

pub merge-requires : goal.merge-requires
merge-requires g c =
    let laws = eq_by_cmp_equiv g.met.K.Ord.total in
    let cmp = g.K.Ord.cmp in
    let eq = eq_by_cmp cmp in
    let after = into_iter_items c.next.new.self in
    let rest : into_iter_items c.loop-key.key-iterator ≡ (c.in-Some.key, c.in-Some.part) ∷ after = search rules in
    let earlier = get cmp c.args.self in
    let later = get cmp c.args.later in
    let now = get cmp c.loop-key.joined in
    if_some (now c.in-Some.key)
    (join_asks eq laws g.S.Summary.sums g.S.Summary.fits earlier later now c.in-Some.key c.in-Some.part after
    (subst (λ (es : List _). Merging eq g.S.Summary.sums g.S.Summary.fits earlier later now es) rest c.loop-key.invariant.merging)
    c.requires.0 c.requires.1 c.requires.2 c.requires.3 c.requires.4)

pub loop-key-preserved : goal.loop-key-preserved
loop-key-preserved g c =
    let laws = eq_by_cmp_equiv g.met.K.Ord.total in
    let cmp = g.K.Ord.cmp in
    let eq = eq_by_cmp cmp in
    let sums = g.S.Summary.sums in
    let fits = g.S.Summary.fits in
    let after = into_iter_items c.next.new.self in
    let rest : into_iter_items c.loop-key.key-iterator ≡ (c.in-Some.key, c.in-Some.part) ∷ after = search rules in
    let earlier = get cmp c.args.self in
    let later = get cmp c.args.later in
    let now = get cmp c.loop-key.joined in
    let distinct = subst (λ (es : List _). IsDistinct eq (keys_of es)) rest c.loop-key.invariant.distinct in
    let merges = c.in_ok-merge.ensures in
    record {
      can_next = tt;
      is_finite = tt;
      distinct = IsDistinct-tail eq c.in-Some.key (keys_of after) distinct;
      merging =
          merging_goes_on eq laws sums fits earlier later now (get cmp c.merge.new.self) c.in-Some.key c.in-Some.part merges.merged after
          (λ x y e. lookup_congr eq laws.congr c.loop-key.joined.entries x y e)
          distinct merges.put merges.sums
          (subst (λ (es : List _). Merging eq sums fits earlier later now es) rest c.loop-key.invariant.merging);
    }

pub returns : goal.returns
returns g c =
    let laws = eq_by_cmp_equiv g.met.K.Ord.total in
    let cmp = g.K.Ord.cmp in
    let eq = eq_by_cmp cmp in
    let rest : into_iter_items c.loop-key.key-iterator ≡ []
    = none_left (into_iter_items c.loop-key.key-iterator) (into_iter_len c.loop-key.key-iterator) c.in-None.ensures.steps.0 c.loop-key.key-iterator.rest.ok.0 in
    let earlier = get cmp c.args.self in
    let later = get cmp c.args.later in
    let now = get cmp c.loop-key.joined in
    merged_all eq laws g.S.Summary.sums g.S.Summary.fits earlier later now
    (subst (λ (es : List _). Merging eq g.S.Summary.sums g.S.Summary.fits earlier later now es) rest c.loop-key.invariant.merging)
