-- A law of the definitions.
use Rattle.std.specs.Prelude.{◌≡◌, ℕ, ◌+◌, ◌%◌, ◌≤◌, List, [], ◌∷◌, Some, length, take, drop}
use Rattle.transaction_view.specs.Envelope.{number_at}
use Rattle.object_view.specs.Fields.{sort_of, sort_length}
use Rattle.object_view.specs.Objects.{ObjectText, objects_of}

-- an object may come next if its offset is a multiple of 4 and is not below `end`, where the object before ends; the
-- four bytes there name its sort; and the data has the sort's bytes there, which are the object's
pub record MayComeObject (body : List ℕ) (end : ℕ) (o : ObjectText) : Type 0 where
  pub aligned : o.offset % 4 ≡ 0
  pub after : end ≤ o.offset
  pub named : sort_of (number_at 4 o.offset body) ≡ Some o.sort
  pub within : o.offset + sort_length o.sort ≤ length body
  pub bytes : o.bytes ≡ take (sort_length o.sort) (drop o.offset body)

-- each of these objects may come after the one before it; the one before the first ends at `end`
abbrev pub FollowInPlace : List ℕ → ℕ → List ObjectText → Type 0
FollowInPlace body end [] = Unit {0}
FollowInPlace body end (o ∷ objects) =
    MayComeObject body end o × FollowInPlace body (o.offset + sort_length o.sort) objects

-- the good objects of an attachment follow one another from the start of its data
abbrev pub AreThere : Type 0
AreThere = (body list : List ℕ) → FollowInPlace body 0 (objects_of body list).good
