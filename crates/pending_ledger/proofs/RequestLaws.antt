-- The standing requests of each cookie, in the whole list.
use Rattle.std.proofs.Common.{◌≡◌, ◌==◌, ℕ, ◌&&◌, ◌||◌, not, Bool, true, false, cond, List, [], ◌∷◌, ◌++◌, map, All, Option, Some, None}
use Rattle.std.proofs.Common.{option_and_then, is_eq, Less, Equal, Greater, IsPermutation, IsSorted, nat_cmp, refl, sym, ap, ap₂, subst, ◌∙◌, arith, ne_eqb, ltb, ltb-true}
use Rattle.std.proofs.lemmas.Bool.{or_parts}
use Rattle.std.proofs.lemmas.Cmp.{eq_by_cmp_equiv, nat_cmp_total}
use Rattle.std.proofs.lemmas.List.{length-map, map-append, map-id}
use Rattle.std.proofs.lemmas.List.Sorted.{IsNonDecreasingBy-from_sort}
use Rattle.std.proofs.lemmas.Map.Keys.{IsDistinct-from_sorted}
use Rattle.std.specs.BTreeMap.{IsOrdered}
use Rattle.std.specs.Cmp.{IsEquivalence}
use Rattle.std.specs.List.{cons_option, filter_map, list_any}
use Rattle.std.specs.Map.{keys_of}
use Rattle.std.specs.Option.{option_map}
use Rattle.std.specs.Ordering.{eq_by_cmp}
use Rattle.event_core.specs.declared.pending.KeyEvent.{KeyEvent}
use Rattle.event_core.specs.declared.pending.PendingChange.TheVariants.{Open, Close}
use Rattle.event_core.specs.declared.request.RequestChange.{RequestChange}
use Rattle.event_core.specs.declared.request.RequestChange.TheVariants.{Request, Clear, Dead}
use Rattle.event_core.specs.declared.request.RequestItem.{RequestItem}
use Rattle.event_core.specs.declared.request.RequestKey.{RequestKey}
use Rattle.pending_ledger.proofs.KeyLaws.{is_last_open, opens_read}
use Rattle.pending_ledger.specs.declared.cookie.CookieRequests.{CookieRequests}
use Rattle.pending_ledger.specs.declared.requests.Requests.{Requests}
use Rattle.pending_ledger.specs.KeyEvents.{event_place, is_closing, after_last}
use Rattle.pending_ledger.specs.Requests.{change_ends, change_stands, ends, is_standing, request_place, standing_request_places}
use Rattle.pending_ledger.specs.Sums.{OpensSums, change_cookie, by_cookie, handle_event, is_dead, is_death, handle_events, gather}
use Rattle.pending_ledger.specs.Sums.{opens_list, standing_places, CookieSums, RequestsSums}
use Rattle.summary_law.proofs.GatherLaws.{as_it_is, entries_gathered, entries_sorted, map_each, map_none}
use Rattle.summary_law.proofs.ReadingLaws.{chosen-is, read-blind, read-made, read-picked, read-rises}
use Rattle.summary_law.proofs.ReadLaws.{each_short}
use Rattle.summary_law.specs.ByKey.{EachFits, SumsByKey}
use Rattle.summary_law.specs.Fits.{IsShort, IsPlaced}
use Rattle.summary_law.specs.Readings.{by_key, chosen, read_all, read_each, with_key}

pub cookies_both : (first second : List RequestItem) → map by_cookie (first ++ second) ≡ map by_cookie first ++ map by_cookie second
cookies_both first second = map-append by_cookie first second

pub cookies_more : (items : List RequestItem) (item : RequestItem) → map by_cookie (items ++ item ∷ []) ≡ map by_cookie items ++ by_cookie item ∷ []
cookies_more items item = cookies_both items (item ∷ [])

pub cookies_short : (eq : ℕ → ℕ → Bool) (items : List RequestItem) → IsPlaced request_place items → EachFits eq IsShort (map by_cookie items)
cookies_short eq items placed =
    let long = length-map items by_cookie in
    let short = placed.0 in
    each_short eq (map by_cookie items) (omega arith)

-- the order of numbers tells them apart as `==` does
same_number : (x y : ℕ) → eq_by_cmp nat_cmp x y ≡ (x == y)
same_number x y =
    elim (ltb x y) as (λ b. (ltb x y ≡ b) → is_eq (cond b Less (cond (x == y) Equal Greater)) ≡ (x == y)) [
      | true ↦ λ is. sym (ne_eqb x y (λ same. let less = ltb-true x y is in omega arith))
      | false ↦ λ is. elim (x == y) as (λ b. is_eq (cond b Equal Greater) ≡ b) [ true ↦ refl | false ↦ refl ]
    ] refl

abbrev cookie_of : RequestItem → ℕ
cookie_of item = change_cookie item.change

abbrev of_cookie : ℕ → List RequestItem → List RequestItem
of_cookie cookie items = with_key (eq_by_cmp nat_cmp) cookie_of cookie items

-- ---- the requests of a cookie

-- whether a change is a clear of the handle
abbrev change_clears : ℕ → RequestChange → Bool
change_clears handle (Request key) = false
change_clears handle (Clear key) = handle == key.handle
change_clears handle (Dead cookie) = false

abbrev clears : ℕ → RequestItem → Bool
clears handle item = change_clears handle item.change

-- whether a change is a request that none of the later items clears, if all are of one cookie
abbrev change_is_uncleared : RequestChange → List RequestItem → Bool
change_is_uncleared (Request key) later = not (list_any (clears key.handle) later)
change_is_uncleared (Clear key) later = false
change_is_uncleared (Dead cookie) later = false

abbrev is_uncleared : List RequestItem → RequestItem → List RequestItem → Bool
is_uncleared before item later = change_is_uncleared item.change later

-- the same of an item, and there is no death among the later items either
abbrev stands_in : List RequestItem → RequestItem → List RequestItem → Bool
stands_in before item later = change_is_uncleared item.change later && not (list_any is_death later)

either_ends : (key : RequestKey) (change : RequestChange) (clear dead : Bool)
    → (change_ends key change || (clear || dead)) ≡ (cond (key.cookie == change_cookie change) (change_clears key.handle change || clear) clear
    || cond (key.cookie == change_cookie change) (is_dead change || dead) dead)
either_ends key (Request other) clear dead =
    elim (key.cookie == other.cookie) as (λ b. (clear || dead) ≡ (cond b clear clear || cond b dead dead)) [ true ↦ refl | false ↦ refl ]
either_ends key (Clear other) clear dead =
    elim (key.cookie == other.cookie)
    as (λ b. ((b && (key.handle == other.handle)) || (clear || dead)) ≡ (cond b ((key.handle == other.handle) || clear) clear || cond b dead dead)) [
      | true ↦ elim (key.handle == other.handle) as (λ b. (b || (clear || dead)) ≡ ((b || clear) || dead)) [ true ↦ refl | false ↦ refl ]
      | false ↦ refl
    ]
either_ends key (Dead cookie) clear dead =
    elim (key.cookie == cookie) as (λ b. (b || (clear || dead)) ≡ (cond b clear clear || cond b true dead)) [
      | true ↦ elim clear as (λ c. true ≡ (c || true)) [ true ↦ refl | false ↦ refl ]
      | false ↦ refl
    ]

any_under : (test : RequestItem → Bool) (b : Bool) (item : RequestItem) (own : List RequestItem)
    → list_any test (cond b (item ∷ own) own) ≡ cond b (test item || list_any test own) (list_any test own)
any_under test true item own = refl
any_under test false item own = refl

-- what ends a request has its cookie
ends_under : (key : RequestKey) (items : List RequestItem)
    → list_any (ends key) items ≡ (list_any (clears key.handle) (of_cookie key.cookie items) || list_any is_death (of_cookie key.cookie items))
ends_under key [] = refl
ends_under key (item ∷ items) =
    let own = of_cookie key.cookie items in
    let same = same_number key.cookie (cookie_of item) in
    let own_clear = list_any (clears key.handle) own in
    let own_dead = list_any is_death own in
    ap (λ (b : Bool). ends key item || b) (ends_under key items)
    ∙ either_ends key item.change own_clear own_dead
    ∙ ap (λ (b : Bool). cond b (clears key.handle item || own_clear) own_clear || cond b (is_death item || own_dead) own_dead) (sym same)
    ∙ sym (ap₂ (λ (a b : Bool). a || b) (any_under (clears key.handle) (eq_by_cmp nat_cmp key.cookie (cookie_of item)) item own)
    (any_under is_death (eq_by_cmp nat_cmp key.cookie (cookie_of item)) item own))

neither : (a b : Bool) → not (a || b) ≡ (not a && not b)
neither true b = refl
neither false b = refl

stands_under : (change : RequestChange) (later : List RequestItem)
    → change_stands change later
    ≡ (change_is_uncleared change (of_cookie (change_cookie change) later) && not (list_any is_death (of_cookie (change_cookie change) later)))
stands_under (Request key) later =
    ap not (ends_under key later)
    ∙ neither (list_any (clears key.handle) (of_cookie key.cookie later)) (list_any is_death (of_cookie key.cookie later))
stands_under (Clear key) later = refl
stands_under (Dead cookie) later = refl

standing_by_key : chosen is_standing ≡ by_key (eq_by_cmp nat_cmp) cookie_of (chosen stands_in)
standing_by_key = λ t before item later. cond (stands_under item.change later t) (Some item) None

-- ---- after the last death

no_request : (change : RequestChange) (later : List RequestItem) → is_dead change ≡ true → change_is_uncleared change later ≡ false
no_request (Request key) later is = let none : ⊥ = cc in absurd none
no_request (Clear key) later is = refl
no_request (Dead cookie) later is = refl

not_under : (b : Bool) → (b && false) ≡ false
not_under true = refl
not_under false = refl

nothing_stands : (item : RequestItem) (later : List RequestItem) → (is_death item || list_any is_death later) ≡ true → stands_in [] item later ≡ false
nothing_stands item later =
    elim (list_any is_death later) as (λ d. (is_death item || d) ≡ true → (change_is_uncleared item.change later && not d) ≡ false) [
      | true ↦ λ is. not_under (change_is_uncleared item.change later)
      | false ↦ λ is. ap (λ (b : Bool). b && true) (no_request item.change later (sym (or_none (is_death item)) ∙ is))
    ]
  where
    or_none : (b : Bool) → (b || false) ≡ b
    or_none true = refl
    or_none false = refl

uncleared_alive : (before items : List RequestItem) → list_any is_death items ≡ false
    → read_each (chosen stands_in) before items ≡ read_each (chosen is_uncleared) before items
uncleared_alive before [] none = refl
uncleared_alive before (item ∷ later) none =
    let parts = or_parts (is_death item) (list_any is_death later) none in
    ap₂ cons_option
    (ap (λ (d : Bool). cond (change_is_uncleared item.change later && not d) (Some item) None) parts.1
    ∙ ap (λ (b : Bool). cond b (Some item) None) (and_true (change_is_uncleared item.change later)))
    (uncleared_alive (before ++ item ∷ []) later parts.1)
  where
    and_true : (b : Bool) → (b && true) ≡ b
    and_true true = refl
    and_true false = refl

standing_after : (before items : List RequestItem)
    → read_each (chosen stands_in) before items ≡ read_each (chosen is_uncleared) before (after_last is_death items)
standing_after before [] = refl
standing_after before (item ∷ later) =
    elim (list_any is_death (item ∷ later)) as (λ d. (list_any is_death (item ∷ later) ≡ d) → read_each (chosen stands_in) before (item ∷ later)
    ≡ read_each (chosen is_uncleared) before (cond d (after_last is_death later) (item ∷ later))) [
      | true ↦ λ is.
          ap (λ (b : Bool). cons_option (cond b (Some item) None) (read_each (chosen stands_in) (before ++ item ∷ []) later)) (nothing_stands item later is)
          ∙ standing_after (before ++ item ∷ []) later
          ∙ read-blind (chosen is_uncleared) (λ b c x l. refl) (before ++ item ∷ []) before (after_last is_death later)
      | false ↦ λ is. uncleared_alive before (item ∷ later) is
    ] refl

-- ---- the handles of a cookie

abbrev handle_of : ℕ × KeyEvent → ℕ
handle_of e = e.0

abbrev event_of : ℕ × KeyEvent → KeyEvent
event_of e = e.1

abbrev of_handle : ℕ → List (ℕ × KeyEvent) → List (ℕ × KeyEvent)
of_handle handle events = with_key (eq_by_cmp nat_cmp) handle_of handle events

-- an open and a close at a place
abbrev opening : ℕ → KeyEvent
opening place = record { place = place; change = Open }

abbrev closing : ℕ → KeyEvent
closing place = record { place = place; change = Close }

-- a clear closes its handle
clears_more : (handle place : ℕ) (change : RequestChange) (items : List RequestItem)
    → list_any (λ e. is_closing (event_of e)) (of_handle handle (filter_map handle_event items)) ≡ list_any (clears handle) items
    → list_any (λ e. is_closing (event_of e)) (of_handle handle (filter_map handle_event (record { place = place; change = change } ∷ items)))
    ≡ (change_clears handle change || list_any (clears handle) items)
clears_more handle place (Request key) items same =
    let rest = of_handle handle (filter_map handle_event items) in
    elim (eq_by_cmp nat_cmp handle key.handle)
    as (λ b. list_any (λ e. is_closing (event_of e)) (cond b ((key.handle, opening place) ∷ rest) rest) ≡ list_any (clears handle) items)
    [ true ↦ same | false ↦ same ]
clears_more handle place (Clear key) items same =
    let rest = of_handle handle (filter_map handle_event items) in
    elim (eq_by_cmp nat_cmp handle key.handle)
    as (λ b. list_any (λ e. is_closing (event_of e)) (cond b ((key.handle, closing place) ∷ rest) rest) ≡ (b || list_any (clears handle) items))
    [ true ↦ refl | false ↦ same ]
    ∙ ap (λ (b : Bool). b || list_any (clears handle) items) (same_number handle key.handle)
clears_more handle place (Dead cookie) items same = same

clears_read : (handle : ℕ) (items : List RequestItem)
    → list_any (λ e. is_closing (event_of e)) (of_handle handle (filter_map handle_event items)) ≡ list_any (clears handle) items
clears_read handle [] = refl
clears_read handle (item ∷ items) = clears_more handle item.place item.change items (clears_read handle items)

-- the place of a request whose handle no later clear has
uncleared_place : (place : ℕ) (change : RequestChange) (l : List RequestItem)
    → option_map (λ e. event_place (event_of e))
    (option_and_then (λ e. cond (not (is_closing (event_of e)) && not (list_any (λ y. is_closing (event_of y)) (of_handle (handle_of e) (filter_map handle_event l)))) (Some e) None)
    (handle_event (record { place = place; change = change })))
    ≡ option_map request_place (cond (change_is_uncleared change l) (Some (record { place = place; change = change })) None)
uncleared_place place (Request key) l =
    let request : RequestItem = record { place = place; change = Request key } in
    let opens : ℕ × KeyEvent = (key.handle, opening place) in
    let there : ℕ × KeyEvent → ℕ = λ e. event_place (event_of e) in
    ap (λ (b : Bool). option_map there (cond (not b) (Some opens) None)) (clears_read key.handle l)
    ∙ elim (list_any (clears key.handle) l)
    as (λ b. option_map there (cond (not b) (Some opens) None) ≡ option_map request_place (cond (not b) (Some request) None)) [ true ↦ refl | false ↦ refl ]
uncleared_place place (Clear key) l = refl
uncleared_place place (Dead cookie) l = refl

abbrev Reading : Type 0
Reading = List RequestItem → RequestItem → List RequestItem → Option ℕ

-- the opens of handles are the requests that are not cleared
handles_read : (items : List RequestItem)
    → map (λ e. event_place (event_of e))
    (read_all (by_key (eq_by_cmp nat_cmp) handle_of (chosen (is_last_open event_of))) (filter_map handle_event items))
    ≡ map request_place (read_all (chosen is_uncleared) items)
handles_read items =
    let read = by_key (eq_by_cmp nat_cmp) handle_of (chosen (is_last_open event_of)) in
    let place : ℕ × KeyEvent → ℕ = λ e. event_place (event_of e) in
    ap (map place) (read-picked read handle_event [] items)
    ∙ read-made (λ b i l. option_and_then (λ e. read (filter_map handle_event b) e (filter_map handle_event l)) (handle_event i)) place [] items
    ∙ ap (λ (r : Reading). read_all r items) (λ t b i l. uncleared_place i.place i.change l t)
    ∙ sym (read-made (chosen is_uncleared) request_place [] items)

-- ---- all cookies

-- the handles of an entry are in order
abbrev pub HasOrder : ℕ × CookieRequests → Type 0
HasOrder entry = IsOrdered nat_cmp entry.1.handles

abbrev GoodCookie : CookieRequests → List RequestItem → Type 0
GoodCookie requests items = CookieSums requests items × IsOrdered nat_cmp requests.handles

number_laws : IsEquivalence (eq_by_cmp nat_cmp)
number_laws = eq_by_cmp_equiv nat_cmp_total

cookie_tells : (requests : CookieRequests) (own : List RequestItem) → GoodCookie requests (map (λ (i : RequestItem). i) own)
    → IsPermutation (standing_places requests) (map request_place (read_all (chosen stands_in) own))
cookie_tells requests own good =
    let m = requests.handles in
    let events = handle_events own in
    let pairs : map (λ (e : ℕ × KeyEvent). e) events ≡ events = map-id events in
    let handles : SumsByKey nat_cmp OpensSums m (map (λ (e : ℕ × KeyEvent). e) events)
    = subst (SumsByKey nat_cmp OpensSums m) (sym pairs) (subst (λ (is : List RequestItem). SumsByKey nat_cmp OpensSums m (handle_events is)) (map-id own) good.0.handles) in
    subst (IsPermutation (standing_places requests))
    (handles_read (after_last is_death own) ∙ ap (map request_place) (sym (standing_after [] own)))
    (entries_gathered number_laws (λ (e : ℕ × KeyEvent). e) (chosen (is_last_open event_of)) (λ e. event_place (event_of e)) OpensSums opens_list
    (λ opens es holds. as_it_is (opens_list opens) _ (holds.places ∙ opens_read event_of [] es)) events m.entries
    (IsDistinct-from_sorted nat_cmp (keys_of m.entries) good.1)
    (map_each nat_cmp nat_cmp_total OpensSums m good.1 (map (λ (e : ℕ × KeyEvent). e) events) handles)
    (map_none nat_cmp nat_cmp_total OpensSums m good.1 (map (λ (e : ℕ × KeyEvent). e) events) handles))

-- the gathered requests, sorted
pub standing_sorted : (requests : Requests) → IsOrdered nat_cmp requests.cookies → All HasOrder requests.cookies.entries
    → (items : List RequestItem) → RequestsSums requests items → (places : List ℕ)
    → IsPermutation (gather standing_places requests.cookies.entries) places → IsSorted nat_cmp places → places ≡ standing_request_places items
standing_sorted requests ordered handles_ordered items sums places moved sorted =
    let m = requests.cookies in
    let parts = map_each nat_cmp nat_cmp_total CookieSums m ordered (map by_cookie items) sums.0 in
    entries_sorted number_laws by_cookie (chosen stands_in) request_place GoodCookie standing_places cookie_tells items m.entries
    (IsDistinct-from_sorted nat_cmp (keys_of m.entries) ordered)
    (λ k d within. (parts k d within, handles_ordered k d within))
    (map_none nat_cmp nat_cmp_total CookieSums m ordered (map by_cookie items) sums.0) (λ n. n)
    (read-rises (by_key (eq_by_cmp nat_cmp) cookie_of (chosen stands_in)) request_place request_place
    (λ b x l y is. ap request_place (chosen-is stands_in (of_cookie (cookie_of x) b) x (of_cookie (cookie_of x) l) y is)) items sums.1.1)
    places moved (IsNonDecreasingBy-from_sort (λ n. n) places sorted)
    ∙ ap (λ read. map request_place (read_all read items)) (sym standing_by_key)
