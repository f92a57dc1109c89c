-- Standing requests for death notifications (docs/REPORT.md).
use Rattle.std.specs.Prelude.{◌==◌, ◌&&◌, not, ℕ, Bool, false, List, map}
use Rattle.std.specs.List.{list_any}
use Rattle.event_core.specs.declared.request.RequestKey.{RequestKey}
use Rattle.event_core.specs.declared.request.RequestItem.{RequestItem}
use Rattle.event_core.specs.declared.request.RequestChange.{RequestChange}
use Rattle.event_core.specs.declared.request.RequestChange.TheVariants.{Request, Clear, Dead}
use Rattle.summary_law.specs.Readings.{read_all, chosen}

-- whether a change ends a request of this handle and cookie: it is a clear of both, or a death of the cookie
abbrev pub change_ends : RequestKey → RequestChange → Bool
change_ends key (Request other) = false
change_ends key (Clear other) = key.cookie == other.cookie && key.handle == other.handle
change_ends key (Dead cookie) = key.cookie == cookie

-- whether an item ends a request of this handle and cookie
abbrev pub ends : RequestKey → RequestItem → Bool
ends key item = change_ends key item.change

-- whether a change is a request that none of the later items ends
abbrev pub change_stands : RequestChange → List RequestItem → Bool
change_stands (Request key) later = not (list_any (ends key) later)
change_stands (Clear key) later = false
change_stands (Dead cookie) later = false

-- whether the item is a standing request: no later item ends it
abbrev pub is_standing : List RequestItem → RequestItem → List RequestItem → Bool
is_standing before item later = change_stands item.change later

-- the place of an item
abbrev pub request_place : RequestItem → ℕ
request_place item = item.place

-- the places of the standing requests
abbrev pub standing_request_places : List RequestItem → List ℕ
standing_request_places items = map request_place (read_all (chosen is_standing) items)
