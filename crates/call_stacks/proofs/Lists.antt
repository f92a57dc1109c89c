-- What a value holds, read from the end of the events' sides, is the lists of the definitions.
use Rattle.std.proofs.Common.{◌≡◌, ℕ, zero, suc, ◌+◌, ◌<◌, Option, Some, None, refl, sym, ap, subst, ◌∙◌, inl, inr, arith}
use Rattle.std.proofs.Common.{List, [], ◌∷◌, map, drop}
use Rattle.std.specs.Prelude.{slice_get, option_map, option_and_then}
use Rattle.std.proofs.lemmas.List.{drop-map}
use Rattle.std.proofs.lemmas.Option.{none-some, same_Some, slice_get-map}
use Rattle.event_core.specs.declared.marks.Bracket.{Bracket}
use Rattle.event_core.specs.declared.marks.Mark.{Mark}
use Rattle.call_stacks.specs.declared.opener.Opener.{Opener}
use Rattle.call_stacks.specs.declared.verdict.Verdict.{Verdict}
use Rattle.call_stacks.specs.declared.verdict.Verdict.TheVariants.{Open}
use Rattle.call_stacks.specs.Calls.{Reads, Bracketed, bracketed_with, opener_place, mark_after, sides_of, verdict_read}
use Rattle.call_stacks.specs.Matched.{IsOpener, IsStrayEvent, closed_by, left_open}
use Rattle.call_stacks.specs.Matching.{Side, opener, closer, neither, Match, IsUnmatched}
use Rattle.summary_law.specs.Ranked.{ListsInOrder}
use Rattle.call_stacks.specs.Verdicts.{side_of}
use Rattle.call_stacks.proofs.Bracketing.{pair, side}
use Rattle.call_stacks.proofs.Counting.{closing, closing_match, closing_stray, get-drop, match_closing, stray_closing, unmatched_open}
use Rattle.summary_law.proofs.Members.{In, in-map, map-in, in_get, get_in, Rises, rises-map, map-rises, listed}
use Rattle.call_stacks.proofs.Model.{strays, openers, first_of, put, entry, both, strays-map, openers-map}

-- ---- positions

pub get_drop_one : {X : Type 0} (xs : List X) (k : ℕ) → slice_get (drop 1 xs) k ≡ slice_get xs (suc k)
get_drop_one [] k = refl
get_drop_one (x ∷ xs) k = refl

pub from_mapped : {X Y : Type 0} (f : X → Y) (o : Option X) (y : Y) → option_map f o ≡ Some y → (x : X) × (o ≡ Some x) × (f x ≡ y)
from_mapped f None y e = absurd cc
from_mapped f (Some x) y e = (x, refl, same_Some (f x) y e)

from_position : {A : Type 0} (items : List A) (o : Option ℕ) (x : A) → option_and_then (slice_get items) o ≡ Some x
    → (q : ℕ) × (o ≡ Some q) × (slice_get items q ≡ Some x)
from_position items None x e = absurd cc
from_position items (Some q) x e = (q, refl, e)

side_there : {B : Type 0} (side : B → Side) (items : List B) (i : ℕ) (b : B) (s : Side) → slice_get items i ≡ Some b → side b ≡ s
    → slice_get (map side items) i ≡ Some s
side_there side items i b s is_at e = slice_get-map side items i ∙ ap (option_map side) is_at ∙ ap Some e

in_rest : {A : Type 0} (s : Side) (x : A) (later : List A) (rest : List (A × Option A)) (p : A × Option A) → In p rest → In p (entry s x later rest)
in_rest opener x later rest p there = inr there
in_rest closer x later rest p there = there
in_rest neither x later rest p there = there

later_position : {A : Type 0} (x : A) (items : List A) (o : Option ℕ)
    → option_and_then (slice_get items) o ≡ option_and_then (slice_get (x ∷ items)) (option_map suc o)
later_position x items None = refl
later_position x items (Some q) = refl

get-put : {A : Type 0} (s : Side) (x : A) (items later : List A) (sides : List Side) (k : ℕ)
    → ((m : ℕ) → slice_get later m ≡ option_and_then (slice_get items) (closing sides m))
    → slice_get (put s x later) k ≡ option_and_then (slice_get (x ∷ items)) (closing (s ∷ sides) k)
get-put opener x items later sides k each = get_drop_one later k ∙ each (suc k) ∙ later_position x items (closing sides (suc k))
get-put closer x items later sides zero each = refl
get-put closer x items later sides (suc k) each = each k ∙ later_position x items (closing sides k)
get-put neither x items later sides k each = each k ∙ later_position x items (closing sides k)

-- the k-th unmatched closer closes the call that has k calls open inside it
get-strays : {A : Type 0} (side : A → Side) (items : List A) (k : ℕ)
    → slice_get (strays side items) k ≡ option_and_then (slice_get items) (closing (map side items) k)
get-strays side [] k = refl
get-strays side (x ∷ items) k = get-put (side x) x items (strays side items) (map side items) k (λ m. get-strays side items m)

stray_at : {A : Type 0} (side : A → Side) (items : List A) (y : A) → In y (strays side items)
    → (k : ℕ) × (q : ℕ) × (closing (map side items) k ≡ Some q) × (slice_get items q ≡ Some y)
stray_at side items y there =
    let k = in_get (strays side items) y there in
    let at = from_position items (closing (map side items) k.0) y (sym (get-strays side items k.0) ∙ k.1) in
    (k.0, at.0, at.1, at.2)

module _ {A : Type 0} (side : A → Side) where
  -- the first closer that is unmatched after this position
  abbrev closer_after : List A → ℕ → Option A
  closer_after items i = first_of (strays side (drop (suc i) items))

  -- an entry is an opener at this position, with its closer
  abbrev IsEntryAt : List A → A × Option A → ℕ → Type 0
  IsEntryAt items p i = (slice_get items i ≡ Some p.0) × (side p.0 ≡ opener) × (p.1 ≡ closer_after items i)

  entry_step : (x : A) (items : List A) (p : A × Option A) (s : Side) → side x ≡ s
      → (In p (openers side items) → (i : ℕ) × IsEntryAt items p i)
      → In p (entry s x (strays side items) (openers side items)) → (i : ℕ) × IsEntryAt (x ∷ items) p i
  entry_step x items p opener e rest (inl here) =
      (0, (ap (λ q. Some q.0) (sym here), ap (λ q. side q.0) here ∙ e, ap (λ q. q.1) here))
  entry_step x items p opener e rest (inr there) = let at = rest there in (suc at.0, at.1)
  entry_step x items p closer e rest there = let at = rest there in (suc at.0, at.1)
  entry_step x items p neither e rest there = let at = rest there in (suc at.0, at.1)

  entry_at : (items : List A) (p : A × Option A) → In p (openers side items) → (i : ℕ) × IsEntryAt items p i
  entry_at [] p there = absurd there
  entry_at (x ∷ items) p there = entry_step x items p (side x) refl (λ rest. entry_at items p rest) there

  has_entry : (items : List A) (i : ℕ) (x : A) → slice_get items i ≡ Some x → side x ≡ opener
      → In (x, closer_after items i) (openers side items)
  has_entry [] i x is_at e = absurd cc
  has_entry (y ∷ items) zero x is_at e =
      let same : y ≡ x = cc in
      subst (λ (s : Side). In (x, first_of (strays side items)) (entry s y (strays side items) (openers side items))) (sym (ap side same ∙ e))
      (inl (ap (λ (t : A). (t, first_of (strays side items))) (sym same)))
  has_entry (y ∷ items) (suc i) x is_at e =
      in_rest (side y) y (strays side items) (openers side items) (x, closer_after items i) (has_entry items i x is_at e)

  closer_is : (items : List A) (i : ℕ)
      → closer_after items i ≡ option_and_then (slice_get (drop (suc i) items)) (closing (drop (suc i) (map side items)) 0)
  closer_is items i =
      get-strays side (drop (suc i) items) 0
      ∙ ap (λ sides. option_and_then (slice_get (drop (suc i) items)) (closing sides 0)) (sym (drop-map side (suc i) items))

  -- the closer of a match, and of an unmatched opener
  matched_closer : (items : List A) (i j : ℕ) (y : A) → Match (map side items) i j → slice_get items j ≡ Some y → closer_after items i ≡ Some y
  matched_closer items i j y found is_at =
      let at = match_closing (map side items) i j found in
      let place = at.1 in
      let position : suc i + at.0 ≡ j = omega arith in
      closer_is items i ∙ ap (option_and_then (slice_get (drop (suc i) items))) at.2 ∙ get-drop items (suc i) at.0 ∙ ap (slice_get items) position ∙ is_at

  unmatched_closer : (items : List A) (i : ℕ) → IsUnmatched (map side items) i → closer_after items i ≡ None
  unmatched_closer items i unmatched =
      closer_is items i ∙ ap (option_and_then (slice_get (drop (suc i) items)))
      (unmatched_open (map side items) i (closing (drop (suc i) (map side items)) 0) refl unmatched)

  -- the match of an opener with a closer, and of one without
  closer_match : (items : List A) (i : ℕ) (y : A) → slice_get (map side items) i ≡ Some opener → closer_after items i ≡ Some y
      → (j : ℕ) × Match (map side items) i j × (slice_get items j ≡ Some y)
  closer_match items i y opens is =
      let at = from_position (drop (suc i) items) (closing (drop (suc i) (map side items)) 0) y (sym (closer_is items i) ∙ is) in
      let position : i + 1 + at.0 ≡ suc i + at.0 = omega arith in (
        i + 1 + at.0,
        closing_match (map side items) i (i + 1 + at.0) at.0 opens at.1 refl,
        ap (slice_get items) position ∙ sym (get-drop items (suc i) at.0) ∙ at.2,
      )

  no_closer : (items : List A) (i : ℕ) → closer_after items i ≡ None → (j : ℕ) → ¬ (Match (map side items) i j)
  no_closer items i none j found =
      let y = from_mapped side (slice_get items j) closer (sym (slice_get-map side items j) ∙ found.closes) in
      none-some y.0 (sym none ∙ matched_closer items i j y.0 found y.1)

-- ---- rising places

pub put_rises : {A : Type 0} (rank : A → ℕ) (s : Side) (x : A) (later : List A) → ((y : A) → In y later → rank x < rank y) → Rises rank later
    → Rises rank (put s x later)
put_rises rank opener x [] below rises = tt
put_rises rank opener x (z ∷ later) below rises = rises.1
put_rises rank closer x later below rises = (below, rises)
put_rises rank neither x later below rises = rises

pub strays_rise : {A : Type 0} (side : A → Side) (rank : A → ℕ) (items : List A) → Rises rank items → Rises rank (strays side items)
strays_rise side rank [] rises = tt
strays_rise side rank (x ∷ items) rises =
    put_rises rank (side x) x (strays side items) (λ y there.
    let at = stray_at side items y there in
    rises.0 y (get_in items at.1 y at.3)) (strays_rise side rank items rises.1)

entry_rises : {A : Type 0} (rank : A → ℕ) (s : Side) (x : A) (later : List A) (rest : List (A × Option A)) → ((p : A × Option A) → In p rest
    → rank x < rank p.0)
    → Rises (λ p. rank p.0) rest → Rises (λ p. rank p.0) (entry s x later rest)
entry_rises rank opener x later rest below rises = (below, rises)
entry_rises rank closer x later rest below rises = rises
entry_rises rank neither x later rest below rises = rises

pub openers_rise : {A : Type 0} (side : A → Side) (rank : A → ℕ) (items : List A) → Rises rank items → Rises (λ p. rank p.0) (openers side items)
openers_rise side rank [] rises = tt
openers_rise side rank (x ∷ items) rises =
    entry_rises rank (side x) x (strays side items) (openers side items) (λ p there.
    let at = entry_at side items p there in
    rises.0 p.0 (get_in items at.0 p.0 at.1.0))
    (openers_rise side rank items rises.1)

pub bracketed_events : {E : Type 0} (reads : Reads E) (bracket_by : Option Mark → E → Bracket) (before : Option Mark) (events : List E)
    → map (λ j. j.event) (bracketed_with reads bracket_by before events) ≡ events
bracketed_events reads bracket_by before [] = refl
bracketed_events reads bracket_by before (e ∷ events) = ap (λ rest. e ∷ rest) (bracketed_events reads bracket_by (mark_after reads before e) events)

module _ {E : Type 0} where
  abbrev pub event_of : E × Side → E
  event_of p = p.0

  -- the unmatched closers of bracketed events
  abbrev pub strays_found : List (Bracketed E) → List E
  strays_found items = map event_of (strays side (map pair items))

  abbrev item_side : Bracketed E → Side
  item_side item = side_of item.bracket

  -- ---- the unmatched closers

  stray_sound : (items : List (Bracketed E)) (event : E) → In event (strays_found items) → IsStrayEvent items event
  stray_sound items event there =
      let p = in-map event_of (strays side (map pair items)) event there in
      let x = in-map pair (strays item_side items) p.0 (subst (λ (l : List (E × Side)). In p.0 l) (strays-map pair side items) p.1) in
      let at = stray_at item_side items x.0 x.1 in
      record {
        position = at.1;
        there = x.0;
        is_at = at.3;
        stray = closing_stray (sides_of items) at.0 at.1 at.2;
        event = p.2 ∙ ap event_of x.2;
      }

  stray_whole : (items : List (Bracketed E)) (event : E) → IsStrayEvent items event → In event (strays_found items)
  stray_whole items event is =
      let at = stray_closing (sides_of items) is.position is.stray in
      let there = get_in (strays item_side items) at.0 is.there
      (get-strays item_side items at.0 ∙ ap (option_and_then (slice_get items)) at.1 ∙ is.is_at) in
      subst (λ (e : E). In e (strays_found items)) (sym is.event)
      (map-in event_of (strays side (map pair items)) (pair is.there)
      (subst (λ (l : List (E × Side)). In (pair is.there) l) (sym (strays-map pair side items)) (map-in pair (strays item_side items) is.there there)))

  opener_is : (call : Opener E) (event : E) (verdict : Verdict) (place : Option ℕ) → call.event ≡ event → call.verdict ≡ verdict → call.closer ≡ place
      → record { event = event; verdict = verdict; closer = place } ≡ call
  opener_is call event verdict place a b c = λ i. record { event = sym a i; verdict = sym b i; closer = sym c i }

module _ {E : Type 0} (reads : Reads E) where
  -- ---- an opener as a call, by its closer

  abbrev pub verdict_found : E → Option (E × Side) → Verdict
  verdict_found call None = Open
  verdict_found call (Some answer) = verdict_read reads call answer.0

  abbrev pub closer_found : Option (E × Side) → Option ℕ
  closer_found None = None
  closer_found (Some answer) = Some (reads.place answer.0)

  abbrev pub found : (E × Side) × Option (E × Side) → Opener E
  found p = record { event = p.0.0; verdict = verdict_found p.0.0 p.1; closer = closer_found p.1 }

  -- the calls of bracketed events
  abbrev pub openers_found : List (Bracketed E) → List (Opener E)
  openers_found items = map found (openers side (map pair items))

  -- ---- the openers

  opener_sound_at : (items : List (Bracketed E)) (x : Bracketed E) (h : Option (Bracketed E)) (i : ℕ) → IsEntryAt item_side items (x, h) i
      → IsOpener reads items (found (both pair (x, h)))
  opener_sound_at items x None i at = record {
    position = i;
    there = x;
    is_at = at.0;
    opens = at.1;
    event = refl;
    verdict = left_open (no_closer item_side items i (sym at.2)) refl refl;
  }
  opener_sound_at items x (Some y) i at =
      let answer = closer_match item_side items i y (side_there item_side items i x opener at.0 at.1) (sym at.2) in
      record {
        position = i;
        there = x;
        is_at = at.0;
        opens = at.1;
        event = refl;
        verdict = closed_by answer.0 y answer.1 answer.2 refl refl;
      }

  opener_sound : (items : List (Bracketed E)) (call : Opener E) → In call (openers_found items) → IsOpener reads items call
  opener_sound items call there =
      let p = in-map found (openers side (map pair items)) call there in
      let x = in-map (both pair) (openers item_side items) p.0
      (subst (λ (l : List ((E × Side) × Option (E × Side))). In p.0 l) (openers-map pair side items) p.1) in
      let at = entry_at item_side items x.0 x.1 in
      subst (λ (o : Opener E). IsOpener reads items o) (sym (p.2 ∙ ap found x.2)) (opener_sound_at items x.0.0 x.0.1 at.0 at.1)

  opener_whole_at : (items : List (Bracketed E)) (call : Opener E) (i : ℕ) (x : Bracketed E) (h : Option (Bracketed E)) → slice_get items i ≡ Some x
      → side_of x.bracket ≡ opener → closer_after item_side items i ≡ h → found (both pair (x, h)) ≡ call → In call (openers_found items)
  opener_whole_at items call i x h is_at opens closes same =
      subst (λ (o : Opener E). In o (openers_found items)) same
      (map-in found (openers side (map pair items)) (both pair (x, h))
      (subst (λ (l : List ((E × Side) × Option (E × Side))). In (both pair (x, h)) l) (sym (openers-map pair side items))
      (map-in (both pair) (openers item_side items) (x, h)
      (subst (λ (o : Option (Bracketed E)). In (x, o) (openers item_side items)) closes (has_entry item_side items i x is_at opens)))))

  opener_whole : (items : List (Bracketed E)) (call : Opener E) → IsOpener reads items call → In call (openers_found items)
  opener_whole items call is =
      let i = is.position in
      let event = is.there.event in
      elim is.verdict [
        | closed_by j answer matched answer_at verdict place ↦
            opener_whole_at items call i is.there (Some answer) is.is_at is.opens (matched_closer item_side items i j answer matched answer_at)
            (opener_is call event (verdict_read reads event answer.event) (Some (reads.place answer.event)) is.event
            (verdict ∙ ap (λ e. verdict_read reads e answer.event) is.event) place)
        | left_open none verdict place ↦
            opener_whole_at items call i is.there None is.is_at is.opens
            (unmatched_closer item_side items i (side_there item_side items i is.there opener is.is_at is.opens, none))
            (opener_is call event Open None is.event verdict place)
      ]

  pairs_rise : (bracket_by : Option Mark → E → Bracket) (before : Option Mark) (events : List E) → Rises reads.place events
      → Rises (λ p. reads.place p.0) (map pair (bracketed_with reads bracket_by before events))
  pairs_rise bracket_by before events rises =
      rises-map pair (λ p. reads.place p.0) (bracketed_with reads bracket_by before events)
      (map-rises (λ (j : Bracketed E). j.event) reads.place (bracketed_with reads bracket_by before events)
      (subst (λ (l : List E). Rises reads.place l) (sym (bracketed_events reads bracket_by before events)) rises))

  -- ---- the lists of the definitions

  pub strays_listed : (bracket_by : Option Mark → E → Bracket) (before : Option Mark) (events : List E) → Rises reads.place events
      → ListsInOrder reads.place (IsStrayEvent (bracketed_with reads bracket_by before events)) (strays_found (bracketed_with reads bracket_by before events))
  strays_listed bracket_by before events rises =
      let items = bracketed_with reads bracket_by before events in
      listed reads.place (IsStrayEvent items) (strays_found items)
      (rises-map event_of reads.place (strays side (map pair items)) (strays_rise side (λ p. reads.place p.0) (map pair items)
      (pairs_rise bracket_by before events rises)))
      (stray_sound items) (stray_whole items)

  pub openers_listed : (bracket_by : Option Mark → E → Bracket) (before : Option Mark) (events : List E) → Rises reads.place events
      → ListsInOrder (opener_place reads) (IsOpener reads (bracketed_with reads bracket_by before events)) (openers_found (bracketed_with reads bracket_by before events))
  openers_listed bracket_by before events rises =
      let items = bracketed_with reads bracket_by before events in
      listed (opener_place reads) (IsOpener reads items) (openers_found items)
      (rises-map found (opener_place reads) (openers side (map pair items)) (openers_rise side (λ p. reads.place p.0) (map pair items)
      (pairs_rise bracket_by before events rises)))
      (opener_sound items) (opener_whole items)
