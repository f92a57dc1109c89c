use Rattle.std.proofs.Common.{List, ◌∷◌, ◌++◌, ◌≡◌, [], Some, None, sym, subst, ap, ◌∙◌, rules}
use Rattle.std.proofs.lemmas.Map.Keys.{IsDistinct-head, IsDistinct-tail}
use Rattle.std.specs.HashMap.Eq.{lookup_congr}
use Rattle.std.specs.List.{IsDistinct}
use Rattle.std.specs.Map.{lookup, keys_of}
use Rattle.indexmap.specs.IndexMap.{get, keys}
use Rattle.summary_law.proofs.ByKeyLaws.{Merging, merging_starts, merging_goes_on, join_asks, alone, together, merged_all, rewritten}
use Rattle.summary_law.proofs.FirstLaws.{unseen, key_there, key_missing, inserted, order_stays, order_grows, order_ends, firsts_join}
use Rattle.summary_law.proofs.in_order.InOrderSummary.join.Goals as goal

pub loop-key-init : goal.loop-key-init
loop-key-init g c =
    let eq = g.K.PartialEq.eq in
    let gives = c.into_iter-key-iterator.ensures.into_iter_gives in
    let earlier = get eq c.args.self.entries in
    let first = keys c.args.self.entries in
    record {
      can_next = tt;
      is_finite = tt;
      distinct = subst (λ (es : List _). IsDistinct eq (keys_of es)) (sym gives.0) gives.4;
      order = ap (λ (es : List _). first ++ unseen eq first (keys_of es)) gives.0;
      merging = subst (λ (es : List _). Merging eq g.S.Summary.sums g.S.Summary.fits earlier (get eq c.args.later.entries) earlier es)
          (sym gives.0) (merging_starts eq g.met.K.Eq.laws g.S.Summary.sums g.S.Summary.fits earlier c.args.later.entries.entries);
    }

pub join-requires : goal.join-requires
join-requires g c =
    let eq = g.K.PartialEq.eq in
    let rest : c.loop-key.key-iterator ≡ (c.in-Some.key, c.in-Some.part) ∷ c.next.new.self = search rules in
    let earlier = get eq c.args.self.entries in
    let later = get eq c.args.later.entries in
    let now = get eq c.loop-key.joined.entries in
    let found : now c.in-Some.key ≡ Some c.in-Some-get_mut.slot.now = search rules in
    join_asks eq g.met.K.Eq.laws g.S.Summary.sums g.S.Summary.fits earlier later now c.in-Some.key c.in-Some.part c.next.new.self
    (subst (λ (es : List _). Merging eq g.S.Summary.sums g.S.Summary.fits earlier later now es) rest c.loop-key.invariant.merging)
    c.requires.0 c.requires.1 c.requires.2.parts c.requires.3.parts c.requires.4 c.replace-mine.result (found ∙ ap Some (sym c.replace-mine.ensures.value))

pub loop-key-preserved-in-Some-get_mut : goal.loop-key-preserved-in-Some-get_mut
loop-key-preserved-in-Some-get_mut g c =
    let laws = g.met.K.Eq.laws in
    let eq = g.K.PartialEq.eq in
    let sums = g.S.Summary.sums in
    let fits = g.S.Summary.fits in
    let key = c.in-Some.key in
    let rest : c.loop-key.key-iterator ≡ (key, c.in-Some.part) ∷ c.next.new.self = search rules in
    let earlier = get eq c.args.self.entries in
    let later = get eq c.args.later.entries in
    let old = c.loop-key.joined.entries in
    let now = get eq old in
    let found : now key ≡ Some c.in-Some-get_mut.slot.now = search rules in
    let distinct = subst (λ (es : List _). IsDistinct eq (keys_of es)) rest c.loop-key.invariant.distinct in
    let merged = c.in_ok-slot-in-Some-get_mut.field-0 in
    let written = c.get_mut.follows.holds merged in
    record {
      can_next = tt;
      is_finite = tt;
      distinct = IsDistinct-tail eq key (keys_of c.next.new.self) distinct;
      order =
          order_stays eq (keys old) (keys (c.get_mut.follows.lender merged)) c.loop-key.key-iterator c.next.new.self key c.in-Some.part
          (keys c.args.self.entries ++ unseen eq (keys c.args.self.entries) (keys c.args.later.entries))
          written.1 rest (key_there eq key c.in-Some-get_mut.slot.now old.entries found) c.loop-key.invariant.order;
      merging =
          merging_goes_on eq laws sums fits earlier later now (get eq (c.get_mut.follows.lender merged)) key c.in-Some.part merged c.next.new.self
          (λ x y e. lookup_congr eq laws.congr old.entries x y e)
          distinct
          (λ q. (written.3 (search rules)).0 q)
          (together eq laws sums fits (now key) c.replace-mine.result c.in-Some.part merged (found ∙ ap Some (sym c.replace-mine.ensures.value))
          c.in_ok-slot-in-Some-get_mut.ensures)
          (subst (λ (es : List _). Merging eq sums fits earlier later now es) rest c.loop-key.invariant.merging);
    }

pub loop-key-preserved : goal.loop-key-preserved
loop-key-preserved g c =
    let laws = g.met.K.Eq.laws in
    let eq = g.K.PartialEq.eq in
    let sums = g.S.Summary.sums in
    let fits = g.S.Summary.fits in
    let key = c.in-Some.key in
    let rest : c.loop-key.key-iterator ≡ (key, c.in-Some.part) ∷ c.next.new.self = search rules in
    let earlier = get eq c.args.self.entries in
    let later = get eq c.args.later.entries in
    let old = c.loop-key.joined.entries in
    let now = get eq old in
    let same : c.get_mut.follows.lender-at-none.entries ≡ old.entries = search rules in
    let found : now key ≡ None = search rules in
    let distinct = subst (λ (es : List _). IsDistinct eq (keys_of es)) rest c.loop-key.invariant.distinct in
    let entries : c.insert.new.self.entries ≡ old.entries ++ (key, c.in-Some.part) ∷ []
    = inserted eq c.get_mut.follows.lender-at-none old.entries c.insert.new.self.entries key c.in-Some.part same found
    c.in_ok-insert-in-None-get_mut.ensures.entries in
    record {
      can_next = tt;
      is_finite = tt;
      distinct = IsDistinct-tail eq key (keys_of c.next.new.self) distinct;
      order =
          order_grows eq laws old.entries c.insert.new.self.entries c.loop-key.key-iterator c.next.new.self key c.in-Some.part
          (keys c.args.self.entries ++ unseen eq (keys c.args.self.entries) (keys c.args.later.entries))
          entries rest (key_missing eq key old.entries found) (IsDistinct-head eq key (keys_of c.next.new.self) distinct)
          c.loop-key.invariant.order;
      merging =
          merging_goes_on eq laws sums fits earlier later now (get eq c.insert.new.self) key c.in-Some.part c.in-Some.part c.next.new.self
          (λ x y e. lookup_congr eq laws.congr old.entries x y e)
          distinct
          (λ q. rewritten (eq key q) {x = get eq c.insert.new.self q} _ (c.in_ok-insert-in-None-get_mut.ensures.updates.0 q) (ap (λ (es : List _). lookup (eq q) es) same))
          (alone eq laws sums fits (now key) c.in-Some.part found)
          (subst (λ (es : List _). Merging eq sums fits earlier later now es) rest c.loop-key.invariant.merging);
    }

pub returns : goal.returns
returns g c = λ firsts seconds mine theirs fits.
    let laws = g.met.K.Eq.laws in
    let eq = g.K.PartialEq.eq in
    let rest : c.loop-key.key-iterator ≡ [] = search rules in
    let earlier = get eq c.args.self.entries in
    let later = get eq c.args.later.entries in
    let joined = c.loop-key.joined.entries in
    record {
      order =
          order_ends eq (keys joined) c.loop-key.key-iterator
          (keys c.args.self.entries ++ unseen eq (keys c.args.self.entries) (keys c.args.later.entries)) rest c.loop-key.invariant.order
          ∙ firsts_join eq laws (keys c.args.self.entries) (keys c.args.later.entries) firsts seconds mine.order theirs.order;
      parts =
          merged_all eq laws g.S.Summary.sums g.S.Summary.fits earlier later (get eq joined)
          (subst (λ (es : List _). Merging eq g.S.Summary.sums g.S.Summary.fits earlier later (get eq joined) es) rest c.loop-key.invariant.merging)
          firsts seconds mine.parts theirs.parts fits;
    }
