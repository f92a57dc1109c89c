-- What a ledger of one key, or of one cookie, keeps through an `add` and a `join`.
use Rattle.std.proofs.Common.{◌≡◌, ℕ, ◌+◌, ◌||◌, Bool, true, false, cond, List, [], ◌∷◌, ◌++◌, length, map, drop, Option, Some, None, filter_map, refl}
use Rattle.std.proofs.Common.{sym, ap, ◌∙◌, arith, length-append, ◌-◌, take, take_all, length-drop}
use Rattle.std.proofs.Math.Bool.{or-false}
use Rattle.std.proofs.lemmas.Bool.{or_right}
use Rattle.std.proofs.lemmas.List.{map-append}
use Rattle.std.proofs.lemmas.List.Elements.{filter_map-append}
use Rattle.std.proofs.lemmas.List.Folds.{list_any-append}
use Rattle.std.specs.List.{cons_option, last_or, list_any}
use Rattle.std.specs.Option.{option_or}
use Rattle.event_core.specs.declared.pending.KeyEvent.{KeyEvent}
use Rattle.event_core.specs.declared.pending.PendingChange.TheVariants.{Open, Close}
use Rattle.event_core.specs.declared.request.RequestChange.{RequestChange}
use Rattle.event_core.specs.declared.request.RequestChange.TheVariants.{Request, Clear, Dead}
use Rattle.event_core.specs.declared.request.RequestItem.{RequestItem}
use Rattle.pending_ledger.proofs.KeyLaws.{open_places-append, open_places-anew, last_or-append, unmet_places-append, unmet_after}
use Rattle.pending_ledger.proofs.LastLaws.{after_last-append, after_last-anew, after_last-none, after_last-suffix}
use Rattle.pending_ledger.specs.declared.opens.Opens.{Opens}
use Rattle.pending_ledger.specs.declared.strays.Strays.{Strays}
use Rattle.pending_ledger.specs.KeyEvents.{event_place, event_change, is_closing, after_last, open_places, unmet_places, first_change, met_count}
use Rattle.pending_ledger.specs.Pending.{is_close}
use Rattle.pending_ledger.specs.Sums.{OpensSums, StraysSums, change_of_handle, handle_event, is_dead, is_death, handle_events}
use Rattle.summary_law.proofs.ReadLaws.{each_short, length-read}
use Rattle.summary_law.specs.ByKey.{EachFits}
use Rattle.summary_law.specs.Fits.{IsShort}

-- a key's opens, with one more open
pub opened_sums : (old new : Opens) (events : List KeyEvent) (event : KeyEvent) → event.change ≡ Open
    → new.places ≡ old.places ++ event.place ∷ [] → new.has_close ≡ old.has_close → OpensSums old events → OpensSums new (events ++ event ∷ [])
opened_sums old new events event opens pushed kept sums =
    let none : list_any is_closing (event ∷ []) ≡ false = ap (λ c. is_close c || false) opens in
    let alone : open_places (event ∷ []) ≡ event.place ∷ [] = ap (map event_place) (after_last-none is_closing (event ∷ []) none) in
    record {
      places = pushed ∙ ap (λ t. t ++ event.place ∷ []) sums.places ∙ ap (λ t. open_places events ++ t) (sym alone)
          ∙ sym (open_places-append events (event ∷ []) none);
      has_close = kept ∙ sums.has_close ∙ sym (or-false (list_any is_closing events)) ∙ ap (λ b. list_any is_closing events || b) (sym none)
          ∙ sym (list_any-append is_closing events (event ∷ []));
    }

-- a key's opens, with a close after them
pub closed_sums : (new : Opens) (events : List KeyEvent) (event : KeyEvent) → event.change ≡ Close → new.places ≡ [] → new.has_close ≡ true
    → OpensSums new (events ++ event ∷ [])
closed_sums new events event closing emptied closed =
    let some : list_any is_closing (event ∷ []) ≡ true = ap (λ c. is_close c || false) closing in
    let alone : open_places (event ∷ []) ≡ [] = ap (λ b. map event_place (cond b [] (event ∷ []))) some in
    record {
      places = emptied ∙ sym alone ∙ sym (open_places-anew events (event ∷ []) some);
      has_close = closed ∙ sym (or_right (list_any is_closing events) (list_any is_closing (event ∷ [])) some)
          ∙ sym (list_any-append is_closing events (event ∷ []));
    }

-- the opens of two lists, the later without a close
pub open_joined : (earlier later joined : Opens) (first second : List KeyEvent) → later.has_close ≡ false
    → joined.places ≡ earlier.places ++ later.places → joined.has_close ≡ earlier.has_close
    → OpensSums earlier first → OpensSums later second → OpensSums joined (first ++ second)
open_joined earlier later joined first second still both kept mine theirs =
    let none : list_any is_closing second ≡ false = sym theirs.has_close ∙ still in
    record {
      places = both ∙ ap (λ t. t ++ later.places) mine.places ∙ ap (λ t. open_places first ++ t) theirs.places
          ∙ sym (open_places-append first second none);
      has_close = kept ∙ mine.has_close ∙ sym (or-false (list_any is_closing first)) ∙ ap (λ b. list_any is_closing first || b) (sym none)
          ∙ sym (list_any-append is_closing first second);
    }

-- the opens of two lists, the later with a close
pub closed_joined : (later : Opens) (first second : List KeyEvent) → later.has_close ≡ true → OpensSums later second → OpensSums later (first ++ second)
closed_joined later first second closed theirs =
    let some : list_any is_closing second ≡ true = sym theirs.has_close ∙ closed in
    record {
      places = theirs.places ∙ sym (open_places-anew first second some);
      has_close = closed ∙ sym (or_right (list_any is_closing first) (list_any is_closing second) some) ∙ sym (list_any-append is_closing first second);
    }

first_joined : (first second : List KeyEvent) → first_change (first ++ second) ≡ option_or (first_change first) (first_change second)
first_joined [] second = refl
first_joined (event ∷ first) second = refl

last_stays : {X : Type 0} (x : X) (xs : List X) (o : Option X) → option_or (last_or (Some x) xs) o ≡ last_or (Some x) xs
last_stays x [] o = refl
last_stays x (y ∷ xs) o = last_stays y xs o

last_of_two : {X : Type 0} (o : Option X) (xs : List X) → last_or o xs ≡ option_or (last_or None xs) o
last_of_two o [] = refl
last_of_two o (x ∷ xs) = sym (last_stays x xs o)

last_joined : (first second : List KeyEvent)
    → last_or None (map event_change (first ++ second)) ≡ option_or (last_or None (map event_change second)) (last_or None (map event_change first))
last_joined first second =
    ap (λ t. last_or None t) (map-append event_change first second) ∙ last_or-append None (map event_change first) (map event_change second)
    ∙ last_of_two (last_or None (map event_change first)) (map event_change second)

-- the rest of a list from a place on
pub rest_from : (n : ℕ) (xs : List ℕ) → take (length xs - n) (drop n xs) ≡ drop n xs
rest_from n xs =
    let shorter = length-drop n xs in
    take_all (length xs - n) (drop n xs) (omega arith)

-- a key's strays, with one more event
pub stray_added : (old new : Strays) (events : List KeyEvent) (event : KeyEvent) → new.places.items ≡ old.places.items ++ unmet_places old.last (event ∷ [])
    → new.first ≡ option_or old.first (Some event.change) → new.last ≡ Some event.change → StraysSums old events → StraysSums new (events ++ event ∷ [])
stray_added old new events event places first last sums = record {
  places = places ∙ ap (λ t. t ++ unmet_places old.last (event ∷ [])) sums.places ∙ ap (λ o. unmet_places None events ++ unmet_places o (event ∷ [])) sums.last
      ∙ sym (unmet_places-append None events (event ∷ []));
  first = first ∙ ap (λ o. option_or o (Some event.change)) sums.first ∙ sym (first_joined events (event ∷ []));
  last = last ∙ sym (last_joined events (event ∷ []));
}

-- the strays of two lists
pub strays_joined : (earlier later joined : Strays) (front back : List KeyEvent)
    → joined.places.items ≡ earlier.places.items ++ drop (met_count earlier.last later.first) later.places.items
    → joined.first ≡ option_or earlier.first later.first → joined.last ≡ option_or later.last earlier.last
    → StraysSums earlier front → StraysSums later back → StraysSums joined (front ++ back)
strays_joined earlier later joined front back places first last mine theirs =
    let before = last_or None (map event_change front) in
    let met : met_count earlier.last later.first ≡ met_count before (first_change back)
    = ap (λ o. met_count o later.first) mine.last ∙ ap (λ o. met_count before o) theirs.first in
    record {
      places = places ∙ ap (λ t. t ++ drop (met_count earlier.last later.first) later.places.items) mine.places
          ∙ ap (λ n. unmet_places None front ++ drop n later.places.items) met
          ∙ ap (λ t. unmet_places None front ++ drop (met_count before (first_change back)) t) theirs.places
          ∙ ap (λ t. unmet_places None front ++ t) (sym (unmet_after before back)) ∙ sym (unmet_places-append None front back);
      first = first ∙ ap (λ o. option_or o later.first) mine.first ∙ ap (λ o. option_or (first_change front) o) theirs.first ∙ sym (first_joined front back);
      last = last ∙ ap (λ o. option_or o earlier.last) theirs.last ∙ ap (λ o. option_or (last_or None (map event_change back)) o) mine.last
          ∙ sym (last_joined front back);
    }

-- an item that is an event of a handle is not a death
alive_at : (place : ℕ) (change : RequestChange) (event : ℕ × KeyEvent) → change_of_handle place change ≡ Some event → is_dead change ≡ false
alive_at place (Request key) event is = refl
alive_at place (Clear key) event is = refl
alive_at place (Dead cookie) event is = let no : ⊥ = cc in absurd no

dead_at : (place : ℕ) (change : RequestChange) → change_of_handle place change ≡ None → is_dead change ≡ true
dead_at place (Request key) is = let no : ⊥ = cc in absurd no
dead_at place (Clear key) is = let no : ⊥ = cc in absurd no
dead_at place (Dead cookie) is = refl

pub is_alive : (item : RequestItem) (event : ℕ × KeyEvent) → handle_event item ≡ Some event → list_any is_death (item ∷ []) ≡ false
is_alive item event is = ap (λ b. b || false) (alive_at item.place item.change event is)

pub is_gone : (item : RequestItem) → handle_event item ≡ None → list_any is_death (item ∷ []) ≡ true
is_gone item is = ap (λ b. b || false) (dead_at item.place item.change is)

-- the events of handles in two lists, the later without a death
pub handle_events-append : (first second : List RequestItem) → list_any is_death second ≡ false
    → handle_events (first ++ second) ≡ handle_events first ++ handle_events second
handle_events-append first second none =
    ap (filter_map handle_event) (after_last-append is_death first second none)
    ∙ filter_map-append handle_event (after_last is_death first) second
    ∙ ap (λ t. handle_events first ++ filter_map handle_event t) (sym (after_last-none is_death second none))

-- the events of handles in two lists, the later with a death
pub handle_events-anew : (first second : List RequestItem) → list_any is_death second ≡ true → handle_events (first ++ second) ≡ handle_events second
handle_events-anew first second some = ap (filter_map handle_event) (after_last-anew is_death first second some)

pub handle_events-added : (items : List RequestItem) (item : RequestItem) (event : ℕ × KeyEvent) → handle_event item ≡ Some event
    → handle_events (items ++ item ∷ []) ≡ handle_events items ++ event ∷ []
handle_events-added items item event is =
    let none = is_alive item event is in
    let alone : handle_events (item ∷ []) ≡ event ∷ []
    = ap (filter_map handle_event) (after_last-none is_death (item ∷ []) none) ∙ ap (λ o. cons_option o []) is in
    handle_events-append items (item ∷ []) none ∙ ap (λ t. handle_events items ++ t) alone

pub handle_events-gone : (items : List RequestItem) (item : RequestItem) → handle_event item ≡ None → handle_events (items ++ item ∷ []) ≡ []
handle_events-gone items item is =
    let some = is_gone item is in
    handle_events-anew items (item ∷ []) some ∙ ap (λ b. filter_map handle_event (cond b [] (item ∷ []))) some

-- if there are few items, each handle has few events
pub handles_short : (eq : ℕ → ℕ → Bool) (items : List RequestItem) → IsShort items → EachFits eq IsShort (handle_events items)
handles_short eq items short =
    let last = after_last is_death items in
    let suffix = after_last-suffix is_death items in
    let whole : length items ≡ length suffix.0 + length last = ap length suffix.1 ∙ length-append suffix.0 last in
    let shorter = length-read handle_event last in
    each_short eq (handle_events items) (omega arith)
