-- The definitions at bytes that were written out by hand from the format.
use Rattle.std.proofs.Common.{◌≡◌, ℕ, List, [], ◌∷◌, ◌++◌, Some, None, replicate, refl}
use Rattle.transaction_view.specs.Envelope.{number_at}
use Rattle.object_view.specs.declared.bad_object.Cause.TheVariants.{ListLength, Misaligned, Overlap}
use Rattle.object_view.specs.declared.sort.Sort.TheVariants.{Handle, Fda}
use Rattle.object_view.specs.Fields.{field, binder_position, handle_position, num_fds_position, parent_position}
use Rattle.object_view.specs.Objects.{ObjectText, bad_at, objects_of, stopped}

-- a HANDLE for handle 7, and the object that it is at offset 0
handle_bytes : List ℕ
handle_bytes = 0x85 ∷ 0x2a ∷ 0x68 ∷ 0x73 ∷ 0 ∷ 0 ∷ 0 ∷ 0 ∷ 7 ∷ replicate 15 0

handle : ObjectText
handle = record { offset = 0; sort = Handle; bytes = handle_bytes }

-- data with two of them
two_handles : List ℕ
two_handles = handle_bytes ++ handle_bytes

-- offsets 0 and 20: the second is inside the first object, and no later offset is looked at
overlapping : objects_of two_handles (replicate 8 0 ++ 20 ∷ replicate 7 0 ++ 24 ∷ replicate 7 0) ≡ record { good = handle ∷ []; bad = Some (bad_at 1 20 Overlap) }
unfolding handle two_handles handle_bytes number_at
overlapping = refl

-- offset 0 alone
alone : objects_of two_handles (replicate 8 0) ≡ record { good = handle ∷ []; bad = None }
unfolding handle two_handles handle_bytes number_at
alone = refl

-- offset 2
misaligned : objects_of two_handles (2 ∷ replicate 7 0) ≡ stopped (bad_at 0 2 Misaligned)
unfolding number_at
misaligned = refl

-- nine bytes are no list of offsets
nine_bytes : objects_of two_handles (replicate 9 0) ≡ stopped (bad_at 0 0 ListLength)
nine_bytes = refl

-- the handle is read, and it is no BINDER's address
handle_read : field 4 (handle_position Handle) handle_bytes ≡ Some 7
unfolding handle_bytes number_at
handle_read = refl

no_binder : field 8 (binder_position Handle) handle_bytes ≡ None
no_binder = refl

-- an FDA of 3 file descriptors, with parent 5
array_bytes : List ℕ
array_bytes = 0x85 ∷ 0x61 ∷ 0x64 ∷ 0x66 ∷ replicate 4 0 ++ 3 ∷ replicate 7 0 ++ 5 ∷ replicate 15 0

array_count : field 8 (num_fds_position Fda) array_bytes ≡ Some 3
unfolding array_bytes number_at
array_count = refl

array_parent : field 8 (parent_position Fda) array_bytes ≡ Some 5
unfolding array_bytes number_at
array_parent = refl
