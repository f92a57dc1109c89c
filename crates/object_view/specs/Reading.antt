-- What one call of a reader of an attachment's objects does. A reader has the objects that are ahead of it.
use Rattle.std.specs.Prelude.{◌≡◌, ℕ, List, Option, Some, None, Result, Ok, Err}
use Rattle.std.specs.Option.{option_map}
use Rattle.transaction_view.specs.Calls.{GiveInOrder}
use Rattle.object_view.specs.declared.bad_object.BadObject.{BadObject}
use Rattle.object_view.specs.declared.object.Object.{Object}
use Rattle.object_view.specs.Objects.{ObjectText, Objects, no_objects, stopped, followed_by}

-- what an object that was read at this offset says
abbrev pub object_text : ℕ → Object → ObjectText
object_text offset found = record { offset = offset; sort = found.sort; bytes = found.bytes.now }

-- One call. It gives the first object ahead and goes on to the others; or the bad one, and then none are ahead; or
-- `None`, if none are ahead.
abbrev pub Steps : Objects → Option (Result Object BadObject) → Objects → Type 0
Steps ahead (Some (Ok found)) new = (offset : ℕ) × (ahead ≡ followed_by (object_text offset found) new)
Steps ahead (Some (Err bad)) new = (ahead ≡ stopped bad) × (new ≡ no_objects)
Steps ahead None new = (ahead ≡ no_objects) × (new ≡ no_objects)

-- the call gives this object
abbrev pub GivesObject : Option (Result Object BadObject) → ObjectText → Type 0
GivesObject result o = (found : Object) × (result ≡ Some (Ok found)) × (found.sort ≡ o.sort)
    × (found.bytes.now ≡ o.bytes)

-- the calls give the good objects, one by one; then the bad one, once, if there is one; then `None` at every later call
abbrev pub GiveObjects : Objects → List (Option (Result Object BadObject)) → Type 0
GiveObjects ahead results = GiveInOrder GivesObject (option_map Err ahead.bad) None ahead.good results
