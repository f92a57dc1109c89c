-- What follows for a delivery once all that wait were looked at.
use Rattle.std.proofs.Common.{◌≡◌, ◌<◌, ◌≤◌, ◌^◌, ◌-◌, ◌+◌, ◌||◌, ◌&&◌, ◌⊎◌, ⊎_elim, inl, inr, ℕ, Bool, true, false, Some, None, List, ◌++◌, map, slice_get, IsTrue, [], ◌∷◌, below_more, get_or, refl, sym, ap, subst, ◌∙◌, arith}
use Rattle.std.specs.Bool.{OnTrue}
use Rattle.std.specs.Prelude.{not}
use Rattle.std.specs.BTreeSet.{BTreeSet, contains}
use Rattle.std.specs.Ordering.{MatchOrdering, is_le, is_lt, nat_cmp, ordering_then}
use Rattle.std.specs.declared.cmp.Ordering.{Ordering}
use Rattle.std.specs.declared.cmp.Ordering.TheVariants.{Less, Equal, Greater}
use Rattle.std.proofs.lemmas.Cmp.{ranked}
use Rattle.std.proofs.lemmas.Option.{get_or_from_slice_get, slice_get_within}
use Rattle.std.proofs.lemmas.Map.Views.{Contains-from_any, tells_apart}
use Rattle.listing_tables.specs.declared.certainty.Evidence.{Evidence}
use Rattle.listing_tables.specs.declared.certainty.Sought.{Sought}
use Rattle.listing_tables.specs.declared.fitting.Fit.{Fit}
use Rattle.listing_tables.specs.declared.fitting.Fitting.{Fitting}
use Rattle.listing_tables.specs.declared.messages.Detail.TheVariants.{Sent as IsSent}
use Rattle.listing_tables.specs.declared.messages.Message.{Message}
use Rattle.listing_tables.specs.declared.messages.Sent.{Sent}
use Rattle.listing_tables.specs.declared.waiting.Listed.{Listed}
use Rattle.listing_tables.specs.declared.waiting.Look.{Look}
use Rattle.listing_tables.specs.declared.waiting.Waiting.{Waiting}
use Rattle.listing_tables.specs.Certainty.{Adds, AreOfOneGeneration, AreOfOneHandle, ComesAfter, HasAll, HasFit, IsFit, IsFitOf, IsIn, IsOnlyFit, IsOnlyOne, IsOtherCall, LooksAt, LooksAtAll, LooksAtOne, MayBe, SpeaksAgainst}
use Rattle.listing_tables.specs.Waiting.{Entry, all_looks, entry_cmp, is_in, look_at, sends_in, waits}
use Rattle.listing_tables.proofs.InLaws.{from_contains, in_filter, in_left, in_map, in_push, in_right, push_cases}
use Rattle.listing_tables.proofs.WaitingLaws.{entry_exact}

-- ---- what waits is looked at

same_is : (r : Ordering) (k : ℕ) → MatchOrdering r (k < k) (k ≡ k) (k < k) → r ≡ Equal
same_is Less k h = absurd (omega (arith, h))
same_is Equal k h = refl
same_is Greater k h = absurd (omega (arith, h))

low_is : (r : Ordering) (k : ℕ) → MatchOrdering r (0 < k) (0 ≡ k) (k < 0) → is_le r ≡ true
low_is Less k h = refl
low_is Equal k h = refl
low_is Greater k h = absurd (omega (arith, h))

high_is : (r : Ordering) (m k : ℕ) → MatchOrdering r (m < k) (m ≡ k) (k < m) → k ≤ m → not (is_lt r) ≡ true
high_is Less m k h l = absurd (omega (arith, h, l))
high_is Equal m k h l = refl
high_is Greater m k h l = refl

and_is : (a b : Bool) → a ≡ true → b ≡ true → (a && b) ≡ true
and_is true true e f = refl
and_is true false e f = cc
and_is false b e f = cc

is_in_by : (p q r s : Ordering) → p ≡ Equal → q ≡ Equal → is_le r ≡ true → not (is_lt s) ≡ true
    → (is_le (ordering_then (ordering_then p q) r) && not (is_lt (ordering_then (ordering_then p q) s))) ≡ true
is_in_by Equal Equal r s e f g h = and_is (is_le r) (not (is_lt s)) g h
is_in_by Equal Less r s e f g h = cc
is_in_by Equal Greater r s e f g h = cc
is_in_by Less q r s e f g h = cc
is_in_by Greater q r s e f g h = cc

in_itself : (key list index : ℕ) → index < 2 ^ 32 → is_in key list (key, list, index) ≡ true
in_itself key list index few =
    is_in_by (nat_cmp key key) (nat_cmp list list) (nat_cmp 0 index) (nat_cmp (2 ^ 32 - 1) index)
    (same_is (nat_cmp key key) key (ranked key key (nat_cmp key key) refl))
    (same_is (nat_cmp list list) list (ranked list list (nat_cmp list list) refl))
    (low_is (nat_cmp 0 index) index (ranked 0 index (nat_cmp 0 index) refl))
    (high_is (nat_cmp (2 ^ 32 - 1) index) (2 ^ 32 - 1) index (ranked (2 ^ 32 - 1) index (nat_cmp (2 ^ 32 - 1) index) refl) (omega (arith, few)))

in_list : (sends : BTreeSet Entry) (key list index : ℕ) → index < 2 ^ 32 → IsTrue (contains entry_cmp sends (key, list, index))
    → IsIn (sends_in sends key list) (key, list, index)
in_list sends key list index few h =
    in_filter (is_in key list) sends.keys (key, list, index)
    (from_contains sends.keys (key, list, index) (Contains-from_any (tells_apart entry_exact) (key, list, index) sends.keys h))
    (in_itself key list index few)

in_two : (sends : BTreeSet Entry) (key list at index : ℕ) → index < 2 ^ 32 → (at ≡ list) ⊎ (at ≡ 0)
    → IsTrue (contains entry_cmp sends (key, at, index)) → IsIn (sends_in sends key list ++ sends_in sends key 0) (key, at, index)
in_two sends key list at index few which h =
    let here = in_list sends key at index few h in
    ⊎_elim
    (λ (e : at ≡ list). in_left (sends_in sends key list) (sends_in sends key 0) (key, at, index)
    (subst (λ (l : ℕ). IsIn (sends_in sends key l) (key, at, index)) e here))
    (λ (e : at ≡ 0). in_right (sends_in sends key list) (sends_in sends key 0) (key, at, index)
    (subst (λ (l : ℕ). IsIn (sends_in sends key l) (key, at, index)) e here))
    which

either : (a b : Bool) → IsTrue (a || b) → IsTrue a ⊎ IsTrue b
either true b h = inl refl
either false b h = inr h

-- a send that waits in a list or in list 0 is looked at
pub is_looked_at : (waiting : Waiting) (key list at index : ℕ) → index < 2 ^ 32 → (at ≡ list) ⊎ (at ≡ 0)
    → IsTrue (waits waiting (key, at, index)) → (look : Look) × IsIn (all_looks waiting key list) look × (look.listed.index ≡ index)
is_looked_at waiting key list at index few which h =
    let untaken = sends_in waiting.untaken key list ++ sends_in waiting.untaken key 0 in
    let guessed = sends_in waiting.guessed key list ++ sends_in waiting.guessed key 0 in
    ⊎_elim
    (λ (u : IsTrue (contains entry_cmp waiting.untaken (key, at, index))). (
      look_at false (key, at, index),
      in_left (map (look_at false) untaken) (map (look_at true) guessed) (look_at false (key, at, index))
          (in_map (look_at false) untaken (key, at, index) (in_two waiting.untaken key list at index few which u)),
      refl,
    ))
    (λ (g : IsTrue (contains entry_cmp waiting.guessed (key, at, index))). (
      look_at true (key, at, index),
      in_right (map (look_at false) untaken) (map (look_at true) guessed) (look_at true (key, at, index))
          (in_map (look_at true) guessed (key, at, index) (in_two waiting.guessed key list at index few which g)),
      refl,
    ))
    (either (contains entry_cmp waiting.untaken (key, at, index)) (contains entry_cmp waiting.guessed (key, at, index)) h)

-- ---- one more look

module _ (evidence : Evidence) (sought : Sought) where
  pub no_look : (fitting : Fitting) → fitting.list.items ≡ [] → LooksAt evidence sought fitting 0
  no_look fitting empty = record {
    each = λ at l. absurd (omega (arith, l));
    fits = λ fit h. absurd (none_in fit (subst (λ (l : List Fit). IsIn l fit) empty h));
  }
    where
      none_is : (x : Fit) → None ≡ Some x → ⊥
      none_is x h = cc

      none_in : (x : Fit) → IsIn [] x → ⊥
      none_in x h = none_is x h.1

  pub one_look : (old new : Fitting) (count : ℕ) (look : Look) → LooksAt evidence sought old count
      → slice_get old.looked.items count ≡ Some look → LooksAtOne evidence sought look old new
      → LooksAt evidence sought new (count + 1)
  one_look old new count look looks is one =
      let same : new.looked.items ≡ old.looked.items = ap (λ l. l.items) one.looked in
      record {
        each = below_more _ _
            (λ (at : ℕ) (l : at < count) (other : Look) (h : slice_get new.looked.items at ≡ Some other).
            ⊎_elim inl
            (λ (has : (old.rank ≡ 0) × HasFit old other.listed.index).
            inr (one.best has.0, (has.1.0, one.kept has.0 has.1.0 has.1.1, has.1.2)))
            (looks.each at l other (subst (λ (l : List Look). slice_get l at ≡ Some other) same h)))
            (λ (other : Look) (h : slice_get new.looked.items count ≡ Some other).
            let e = same_look look other (sym is ∙ subst (λ (l : List Look). slice_get l count ≡ Some other) same h) in
            subst (λ (o : Look). SpeaksAgainst evidence sought o.listed.index ⊎ ((new.rank ≡ 0) × HasFit new o.listed.index)) e one.here);
        fits = λ fit h. ⊎_elim
            (λ (was : IsIn old.list.items fit).
            let found = looks.fits fit was in
            (found.0, subst (λ (l : List Look). IsIn l found.0) (sym same) found.1, found.2))
            (λ (new_fit : IsFit evidence look fit).
            (look, subst (λ (l : List Look). IsIn l look) (sym same) (count, is), new_fit))
            (one.fits fit h);
      }
    where
      same_look : (a b : Look) → Some a ≡ Some b → a ≡ b
      same_look a b h = cc

-- ---- one more fit

less_or_not : (r : Ordering) (a b : ℕ) → MatchOrdering r (a < b) (a ≡ b) (b < a) → (a < b) ⊎ (b ≤ a)
less_or_not Less a b h = inl h
less_or_not Equal a b h = inr (omega (arith, h))
less_or_not Greater a b h = inr (omega (arith, h))

nothing_in : (x : Fit) → IsIn [] x → ⊥
nothing_in x h = none_is x h.1
  where
    none_is : (x : Fit) → None ≡ Some x → ⊥
    none_is x h = cc

pub adds : (old mid new : Fitting) (rank : ℕ) (fit : Fit) → rank ≤ old.rank
    → (rank < old.rank → (mid.list.items ≡ []) × (mid.rank ≡ rank))
    → (old.rank ≤ rank → (mid.list.items ≡ old.list.items) × (mid.rank ≡ old.rank))
    → mid.looked ≡ old.looked → mid.is_whole ≡ old.is_whole → new.list.items ≡ mid.list.items ++ fit ∷ []
    → new.rank ≡ mid.rank → new.looked ≡ mid.looked → new.is_whole ≡ mid.is_whole → Adds old rank fit new
adds old mid new rank fit behind worse same looked whole pushed r l w =
    let side = less_or_not (nat_cmp rank old.rank) rank old.rank (ranked rank old.rank (nat_cmp rank old.rank) refl) in
    record {
      fits = λ other h. ⊎_elim
          (λ (was : IsIn mid.list.items other). ⊎_elim
          (λ (lt : rank < old.rank). absurd (nothing_in other (subst (λ (xs : List Fit). IsIn xs other) (worse lt).0 was)))
          (λ (le : old.rank ≤ rank). inl (subst (λ (xs : List Fit). IsIn xs other) (same le).0 was))
          side)
          (λ (e : other ≡ fit). inr e)
          (push_cases mid.list.items fit other (subst (λ (xs : List Fit). IsIn xs other) pushed h));
      best = λ zero. let le : old.rank ≤ rank = omega (arith, zero) in r ∙ (same le).1 ∙ zero;
      kept = λ zero other h.
          let le : old.rank ≤ rank = omega (arith, zero) in
          subst (λ (xs : List Fit). IsIn xs other) (sym pushed)
          (in_left mid.list.items (fit ∷ []) other (subst (λ (xs : List Fit). IsIn xs other) (sym (same le).0) h));
      first = λ zero. ⊎_elim
          (λ (lt : rank < old.rank). r ∙ (worse lt).1 ∙ zero)
          (λ (le : old.rank ≤ rank). let e : old.rank ≡ 0 = omega (arith, zero, le) in r ∙ (same le).1 ∙ e)
          side;
      added = λ zero. subst (λ (xs : List Fit). IsIn xs fit) (sym pushed) (in_push mid.list.items fit);
      looked = l ∙ looked;
      whole = w ∙ whole;
    }

-- what holds of the fit at a place holds of the one that is found there
pub next_fit : (Q : Fit → Type 0) (xs : List Fit) (i : ℕ) (d : Fit) → Q (get_or xs i d) → (other : Fit) → slice_get xs i ≡ Some other → Q other
next_fit Q xs i d q other h = subst Q (get_or_from_slice_get xs i other d h) q

pub holds_if : {P : Type 0} (b : Bool) → OnTrue b P → b ≡ true → P
holds_if true h e = h
holds_if false h e = absurd (apart e)
  where
    apart : false ≡ true → ⊥
    apart e = cc

module _ (evidence : Evidence) (sought : Sought) where
  pub other_call : (index : ℕ) (send : Message) (sent : Sent) (rank : ℕ) → slice_get evidence.messages.now.list.all.items index ≡ Some send
      → send.detail ≡ IsSent sent → (rank ≡ 0) ⊎ IsOtherCall evidence sought send sent
      → (rank ≡ 0) ⊎ SpeaksAgainst evidence sought index
  other_call index send sent rank at is h =
      ⊎_elim inl
      (λ (o : IsOtherCall evidence sought send sent).
      inr (λ message found there of.
      let e : send ≡ message = same_message send message (sym at ∙ there) in
      let f : sent ≡ found = same_sent sent found (sym is ∙ ap (λ (m : Message). m.detail) e ∙ of) in
      inr (inr (subst (λ (m : Message). IsOtherCall evidence sought m found) e (subst (λ (s : Sent). IsOtherCall evidence sought send s) f o)))))
      h
    where
      same_message : (a b : Message) → Some a ≡ Some b → a ≡ b
      same_message a b h = cc

      same_sent : (a b : Sent) → IsSent a ≡ IsSent b → a ≡ b
      same_sent a b h = cc

  pub no_fit : (fitting : Fitting) (look : Look) → SpeaksAgainst evidence sought look.listed.index
      → LooksAtOne evidence sought look fitting fitting
  no_fit fitting look against = record {
    here = inl against;
    best = λ zero. zero;
    kept = λ zero fit h. h;
    fits = λ fit h. inl h;
    looked = refl;
    whole = refl;
  }

  pub one_fit : (old new : Fitting) (look : Look) (rank : ℕ) (fit : Fit) → Adds old rank fit new → IsFit evidence look fit
      → (rank ≡ 0) ⊎ SpeaksAgainst evidence sought look.listed.index → LooksAtOne evidence sought look old new
  one_fit old new look rank fit added is h = record {
    here = ⊎_elim
        (λ (zero : rank ≡ 0). inr (added.first zero, (fit, added.added zero, ap (λ (l : Listed). l.index) is.listed)))
        (λ (against : SpeaksAgainst evidence sought look.listed.index). inl against)
        h;
    best = added.best;
    kept = added.kept;
    fits = λ other h. ⊎_elim
        (λ (was : IsIn old.list.items other). inl was)
        (λ (e : other ≡ fit). inr (subst (IsFit evidence look) (sym e) is))
        (added.fits other h);
    looked = added.looked;
    whole = added.whole;
  }

-- ---- what is certain

module _ (evidence : Evidence) (sought : Sought) (fitting : Fitting)
    (has_all : HasAll evidence.seen.now sought.upid.index sought.node sought.message.place sought.message.gaps)
    (looks : LooksAtAll evidence sought fitting) (whole : fitting.is_whole ≡ true) where
  pub is_fit : (fit : Fit) → IsIn fitting.list.items fit → IsFitOf evidence sought fit
  is_fit fit h =
      let found = looks.looks.fits fit h in
      (found.0, subst (λ (l : List Look). IsIn l found.0) (looks.all whole) found.1, found.2)

  -- either something speaks against a send that waits, or it is among the fits
  against_or_fit : (list index : ℕ) → MayBe evidence.waiting.now sought list index → SpeaksAgainst evidence sought index ⊎ HasFit fitting index
  against_or_fit list index may =
      let found = is_looked_at evidence.waiting.now sought.message.key (sought.node + 1) list index may.0 may.1 may.2 in
      let at = subst (λ (l : List Look). IsIn l found.0) (sym (looks.all whole)) found.1 in
      let within = slice_get_within fitting.looked.items at.0 found.0 at.1 in
      ⊎_elim
      (λ (against : SpeaksAgainst evidence sought found.0.listed.index).
      inl (subst (SpeaksAgainst evidence sought) found.2 against))
      (λ (has : (fitting.rank ≡ 0) × HasFit fitting found.0.listed.index). inr (subst (HasFit fitting) found.2 has.1))
      (looks.looks.each at.0 within found.0 at.1)

  pub is_only_one : (fit : Fit) → IsOnlyFit sought.message.oneway fitting fit → IsOnlyOne evidence sought fit
  is_only_one fit only = record {
    has_all = has_all;
    is = is_fit fit only.is;
    only = λ list index may. ⊎_elim
        (λ (against : SpeaksAgainst evidence sought index). inr (inl against))
        (λ (has : HasFit fitting index). ⊎_elim
        (λ (same : has.0.listed.index ≡ fit.listed.index). inl (sym has.2 ∙ same))
        (λ (after : (sought.message.oneway ≡ true) × ComesAfter fit has.0).
        inr (inr (after.0, (has.0, is_fit has.0 has.1, has.2, after.1))))
        (only.only has.0 has.1))
        (against_or_fit list index may);
  }

  pub are_of_one_handle : AreOfOneGeneration fitting → AreOfOneHandle evidence sought
  are_of_one_handle one = record {
    has_all = has_all;
    generation = one.0;
    only = λ list index may. ⊎_elim
        (λ (against : SpeaksAgainst evidence sought index). inl against)
        (λ (has : HasFit fitting index). inr (has.0, is_fit has.0 has.1, has.2, one.1 has.0 has.1))
        (against_or_fit list index may);
  }

  pub is_of_handle : (one : AreOfOneGeneration fitting) (fit : Fit) → IsIn fitting.list.items fit
      → fit.sent.generation ≡ (are_of_one_handle one).generation
  unfolding are_of_one_handle
  is_of_handle one fit h = one.1 fit h
