-- What each ledger keeps of the list that it sums.
use Rattle.std.specs.Prelude.{◌≡◌, ℕ, Bool, true, false, List, map, Option, Some, None, filter_map, flat_map}
use Rattle.std.specs.List.{last_or, list_any}
use Rattle.std.specs.Ordering.{eq_by_cmp, nat_cmp}
use Rattle.std.specs.declared.cmp.Ordering.{Ordering}
use Rattle.event_core.specs.declared.pending.KeyEvent.{KeyEvent}
use Rattle.event_core.specs.declared.pending.PendingChange.TheVariants.{Open, Close}
use Rattle.event_core.specs.declared.request.RequestChange.{RequestChange}
use Rattle.event_core.specs.declared.request.RequestChange.TheVariants.{Request, Clear, Dead}
use Rattle.event_core.specs.declared.request.RequestItem.{RequestItem}
use Rattle.pending_ledger.specs.declared.cookie.CookieRequests.{CookieRequests}
use Rattle.pending_ledger.specs.declared.key.KeyLedger.{KeyLedger}
use Rattle.pending_ledger.specs.declared.opens.Opens.{Opens}
use Rattle.pending_ledger.specs.declared.pending.Pending.{Pending}
use Rattle.pending_ledger.specs.declared.requests.Requests.{Requests}
use Rattle.pending_ledger.specs.declared.strays.Strays.{Strays}
use Rattle.pending_ledger.specs.KeyEvents.{event_change, is_closing, after_last, open_places, unmet_places, first_change}
use Rattle.pending_ledger.specs.Pending.{is_unclosed_item, is_stray_item, place_of, places_if}
use Rattle.pending_ledger.specs.Requests.{request_place, standing_request_places}
use Rattle.summary_law.specs.ByKey.{SumsByKey}
use Rattle.summary_law.specs.Fits.{IsPlaced}

-- of the events of a key: the places of the opens that no close follows, and whether there is a close
pub record OpensSums (opens : Opens) (events : List KeyEvent) : Type 0 where
  pub places : opens.places ≡ open_places events
  pub has_close : opens.has_close ≡ list_any is_closing events

-- of the events of a key: the places of the closes that do not come right after an open, and what the first and the
-- last event do
pub record StraysSums (strays : Strays) (events : List KeyEvent) : Type 0 where
  pub places : strays.places.items ≡ unmet_places None events
  pub first : strays.first ≡ first_change events
  pub last : strays.last ≡ last_or None (map event_change events)

-- a key's ledger has the opens and the strays of its events
abbrev pub KeySums : KeyLedger → List KeyEvent → Type 0
KeySums ledger events = OpensSums ledger.opens events × StraysSums ledger.strays events

-- the value has the ledger of the events of each key, and the places of the items rise
abbrev pub PendingSums : {K : Type 0} → (K → K → Ordering) → Pending K → List (K × KeyEvent) → Type 0
PendingSums cmp pending items = SumsByKey cmp KeySums pending.keys items × IsPlaced place_of items

-- for whatever items the value sums, these are the places of the outstanding opens
abbrev pub GivesOutstanding : {K : Type 0} → (K → K → Ordering) → Pending K → List ℕ → Type 0
GivesOutstanding {K} cmp pending places =
    (items : List (K × KeyEvent)) → PendingSums cmp pending items → places ≡ places_if (is_unclosed_item (eq_by_cmp cmp)) items

-- for whatever items the value sums, these are the places of the strays
abbrev pub GivesStrays : {K : Type 0} → (K → K → Ordering) → Pending K → List ℕ → Type 0
GivesStrays {K} cmp pending places =
    (items : List (K × KeyEvent)) → PendingSums cmp pending items → places ≡ places_if (is_stray_item (eq_by_cmp cmp)) items

-- the cookie that a change is about
abbrev pub change_cookie : RequestChange → ℕ
change_cookie (Request key) = key.cookie
change_cookie (Clear key) = key.cookie
change_cookie (Dead cookie) = cookie

-- an item under its cookie
abbrev pub by_cookie : RequestItem → ℕ × RequestItem
by_cookie item = (change_cookie item.change, item)

-- a request as an open of its handle, and a clear as a close of it; a death is not an event of one handle
abbrev pub change_of_handle : ℕ → RequestChange → Option (ℕ × KeyEvent)
change_of_handle place (Request key) = Some (key.handle, record { place = place; change = Open })
change_of_handle place (Clear key) = Some (key.handle, record { place = place; change = Close })
change_of_handle place (Dead cookie) = None

-- an item as an event of its handle, if it is a request or a clear
abbrev pub handle_event : RequestItem → Option (ℕ × KeyEvent)
handle_event item = change_of_handle item.place item.change

-- whether a change is a death
abbrev pub is_dead : RequestChange → Bool
is_dead (Request key) = false
is_dead (Clear key) = false
is_dead (Dead cookie) = true

-- whether an item is a death
abbrev pub is_death : RequestItem → Bool
is_death item = is_dead item.change

-- the events of handles after the last death
abbrev pub handle_events : List RequestItem → List (ℕ × KeyEvent)
handle_events items = filter_map handle_event (after_last is_death items)

-- the places that the ledgers of some entries list, entry after entry
abbrev pub gather : {K S : Type 0} → (S → List ℕ) → List (K × S) → List ℕ
gather places entries = flat_map (λ entry. places entry.1) entries

-- the places that are kept of a handle's opens
abbrev pub opens_list : Opens → List ℕ
opens_list opens = opens.places

-- the places of the standing requests of a cookie, handle after handle
abbrev pub standing_places : CookieRequests → List ℕ
standing_places requests = gather opens_list requests.handles.entries

-- of the items of a cookie: whether there is a death, and what is kept of each handle's events after the last death
pub record CookieSums (requests : CookieRequests) (items : List RequestItem) : Type 0 where
  pub dead : requests.dead ≡ list_any is_death items
  pub handles : SumsByKey nat_cmp OpensSums requests.handles (handle_events items)

-- the value has what is kept of the items of each cookie, and the places of the items rise
abbrev pub RequestsSums : Requests → List RequestItem → Type 0
RequestsSums requests items =
    SumsByKey nat_cmp CookieSums requests.cookies (map by_cookie items) × IsPlaced request_place items

-- for whatever items the value sums, these are the places of the standing requests
abbrev pub GivesStanding : Requests → List ℕ → Type 0
GivesStanding requests places =
    (items : List RequestItem) → RequestsSums requests items → places ≡ standing_request_places items
