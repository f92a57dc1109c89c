-- What sets of sends have after one is added or removed.
use Rattle.std.proofs.Common.{◌≡◌, ℕ, ◌≤◌, ◌+◌, ◌||◌, ◌⊎◌, subst, ⊎_elim, inl, inr, Bool, true, false, cond, IsTrue, refl, sym, ◌∙◌}
use Rattle.std.specs.Cmp.{IsTotalOrder, nat_cmp_total}
use Rattle.std.specs.Ordering.{nat_cmp, ordering_then}
use Rattle.std.specs.declared.cmp.Ordering.{Ordering}
use Rattle.std.specs.declared.cmp.Ordering.TheVariants.{Less, Equal, Greater}
use Rattle.std.specs.BTreeSet.{BTreeSet, contains, Updates}
use Rattle.std.proofs.lemmas.Cmp.{on_total, then_total}
use Rattle.std.proofs.lemmas.Map.Lookups.{CmpEqualImpliesEq, exact_unsigned}
use Rattle.std.proofs.lemmas.Map.Views.{tells_apart}
use Rattle.listing_tables.specs.Waiting.{Entry, OthersWait, doubt_of, entry_cmp, in_doubt, waits}
use Rattle.listing_tables.specs.declared.waiting.Waiting.{Waiting}

both_equal : (a b : Ordering) → ordering_then a b ≡ Equal → (a ≡ Equal) × (b ≡ Equal)
both_equal Less b e = cc
both_equal Equal b e = (refl, e)
both_equal Greater b e = cc

same_entry : (a b c d e f : ℕ) → a ≡ d → b ≡ e → c ≡ f → ◌≡◌ {A = Entry} (a, b, c) (d, e, f)
same_entry a b c d e f p q r = rw (p, q, r) refl

pub entry_exact : CmpEqualImpliesEq entry_cmp
entry_exact x y e =
    let all = both_equal (ordering_then (nat_cmp x.0 y.0) (nat_cmp x.1 y.1)) (nat_cmp x.2 y.2) e in
    let two = both_equal (nat_cmp x.0 y.0) (nat_cmp x.1 y.1) all.0 in
    same_entry x.0 x.1 x.2 y.0 y.1 y.2 (exact_unsigned x.0 y.0 two.0) (exact_unsigned x.1 y.1 two.1) (exact_unsigned x.2 y.2 all.1)

pub entry_total : IsTotalOrder entry_cmp
entry_total =
    then_total (then_total (on_total (λ (e : Entry). e.0) nat_cmp_total) (on_total (λ (e : Entry). e.1) nat_cmp_total))
    (on_total (λ (e : Entry). e.2) nat_cmp_total)

-- ---- of Bools

or_more : (a b c d : Bool) → b ≡ cond c true a → IsTrue (a || d) → IsTrue (b || d)
or_more a b true d e h = rw e refl
or_more a b false d e h = rw e h

or_moved : (a g b h c : Bool) → b ≡ cond c false a → h ≡ cond c true g → IsTrue (a || g) → IsTrue (b || h)
or_moved a g b h true e f t = rw (e, f) refl
or_moved a g b h false e f t = rw (e, f) t

or_fewer : (a g b h c : Bool) → b ≡ cond c false a → h ≡ cond c false g → IsTrue (a || g) → IsTrue (b || h) ⊎ (c ≡ true)
or_fewer a g b h true e f t = inr refl
or_fewer a g b h false e f t = inl (rw (e, f) t)

was : (a b c : Bool) → b ≡ cond c false a → IsTrue b → IsTrue a
was a b true e t = absurd (false_is (sym e ∙ t))
  where
    false_is : false ≡ true → ⊥
    false_is e = cc
was a b false e t = sym e ∙ t

-- ---- of sets

pub more_wait : (old new other : BTreeSet Entry) (k : Entry) → Updates entry_cmp old new k true
    → (q : Entry) → IsTrue (contains entry_cmp old q || contains entry_cmp other q)
    → IsTrue (contains entry_cmp new q || contains entry_cmp other q)
more_wait old new other k u q h = or_more (contains entry_cmp old q) (contains entry_cmp new q) _ (contains entry_cmp other q) (u.0 q) h

pub moved_wait : (old new other more : BTreeSet Entry) (k : Entry) → Updates entry_cmp old new k false → Updates entry_cmp other more k true
    → (q : Entry) → IsTrue (contains entry_cmp old q || contains entry_cmp other q)
    → IsTrue (contains entry_cmp new q || contains entry_cmp more q)
moved_wait old new other more k u v q h =
    or_moved (contains entry_cmp old q) (contains entry_cmp other q) (contains entry_cmp new q) (contains entry_cmp more q) _ (u.0 q) (v.0 q) h

pub others_wait : (old new other less : BTreeSet Entry) (k : Entry) → Updates entry_cmp old new k false → Updates entry_cmp other less k false
    → (q : Entry) → IsTrue (contains entry_cmp old q || contains entry_cmp other q)
    → IsTrue (contains entry_cmp new q || contains entry_cmp less q) ⊎ (q ≡ k)
others_wait old new other less k u v q h =
    ⊎_elim inl (λ e. inr (sym (tells_apart entry_exact k q e)))
    (or_fewer (contains entry_cmp old q) (contains entry_cmp other q) (contains entry_cmp new q) (contains entry_cmp less q) _ (u.0 q) (v.0 q) h)

pub was_there : (old new : BTreeSet Entry) (k : Entry) → Updates entry_cmp old new k false
    → (q : Entry) → IsTrue (contains entry_cmp new q) → IsTrue (contains entry_cmp old q)
was_there old new k u q h = was (contains entry_cmp old q) (contains entry_cmp new q) _ (u.0 q) h

pub none_waits : (a b : Bool) → a ≡ false → b ≡ false → (a || b) ≡ false
none_waits a b e f = rw (e, f) refl

either_less : (a b c d : Bool) → (IsTrue a → IsTrue b) → (IsTrue c → IsTrue d) → IsTrue (a || c) → IsTrue (b || d)
either_less true b c d f g h = or_true b d (f h)
  where
    or_true : (b d : Bool) → IsTrue b → IsTrue (b || d)
    or_true true d t = refl
    or_true false d t = absurd (false_is t)
      where
        false_is : false ≡ true → ⊥
        false_is e = cc
either_less false b c d f g h = other_true b d (g h)
  where
    other_true : (b d : Bool) → IsTrue d → IsTrue (b || d)
    other_true true d t = refl
    other_true false d t = t

pub fewer_wait : (old new other less : BTreeSet Entry) (k : Entry) → Updates entry_cmp old new k false → Updates entry_cmp other less k false
    → (q : Entry) → IsTrue (contains entry_cmp new q || contains entry_cmp less q)
    → IsTrue (contains entry_cmp old q || contains entry_cmp other q)
fewer_wait old new other less k u v q h =
    either_less (contains entry_cmp new q) (contains entry_cmp old q) (contains entry_cmp less q) (contains entry_cmp other q)
    (was_there old new k u q) (was_there other less k v q) h

-- what did not wait before does not wait after
pub still_gone : (a b : Bool) → (IsTrue a → IsTrue b) → b ≡ false → a ≡ false
still_gone true b f e = absurd (both (f refl) e)
  where
    both : {b : Bool} → b ≡ true → b ≡ false → ⊥
    both t e = cc
still_gone false b f e = refl

-- after those in doubt of a key are forgotten, once all of them came
pub leave_doubt : (old mid new : Waiting) (key : ℕ) → mid.untaken ≡ old.untaken → mid.guessed ≡ old.guessed
    → ((send : Entry) → IsTrue (in_doubt mid send) → IsTrue (in_doubt old send))
    → ((doubt_of mid key).sends ≤ (doubt_of mid key).came → (doubt_of old key).sends ≤ (doubt_of old key).came + 1)
    → ((other : Entry) → IsTrue (waits mid other) → IsTrue (waits new other)
    ⊎ ((other.0 ≡ key) × IsTrue (in_doubt mid other) × ((doubt_of mid key).sends ≤ (doubt_of mid key).came)))
    → OthersWait old new
leave_doubt old mid new key untaken guessed doubted came rest send h =
    let here : IsTrue (waits mid send) = subst (λ (u : BTreeSet Entry). IsTrue (contains entry_cmp u send || contains entry_cmp mid.guessed send)) (sym untaken)
    (subst (λ (g : BTreeSet Entry). IsTrue (contains entry_cmp old.untaken send || contains entry_cmp g send)) (sym guessed) h) in
    ⊎_elim inl
    (λ (d : (send.0 ≡ key) × IsTrue (in_doubt mid send) × ((doubt_of mid key).sends ≤ (doubt_of mid key).came)).
    inr (record {
      doubted = doubted send d.1;
      came = subst (λ (k : ℕ). (doubt_of old k).sends ≤ (doubt_of old k).came + 1) (sym d.0) (came d.2);
    }))
    (rest send here)
