-- The objects of a transaction's data (`linux/android/binder.h`): their sorts, and the fields of each by their
-- positions.
use Rattle.std.specs.Prelude.{◌==◌, ℕ, List, [], ◌∷◌, find, Option, Some, None}
use Rattle.std.specs.Option.{option_map}
use Rattle.transaction_view.specs.Envelope.{number_at}
use Rattle.object_view.specs.declared.sort.Sort.{Sort}
use Rattle.object_view.specs.declared.sort.Sort.TheVariants.{Binder, WeakBinder, Handle, WeakHandle, Fd, Fda, Ptr}

-- the number of a sort, `BINDER_TYPE_..` of the header: the first four bytes of an object of that sort
abbrev pub sort_number : Sort → ℕ
sort_number Binder = 0x73622a85
sort_number WeakBinder = 0x77622a85
sort_number Handle = 0x73682a85
sort_number WeakHandle = 0x77682a85
sort_number Fd = 0x66642a85
sort_number Fda = 0x66646185
sort_number Ptr = 0x70742a85

-- the sorts
abbrev pub all_sorts : List Sort
all_sorts = Binder ∷ WeakBinder ∷ Handle ∷ WeakHandle ∷ Fd ∷ Fda ∷ Ptr ∷ []

-- the sort with this number, if any
abbrev pub sort_of : ℕ → Option Sort
sort_of number = find (λ sort. sort_number sort == number) all_sorts

-- how many bytes an object of the sort has
abbrev pub sort_length : Sort → ℕ
sort_length Fda = 32
sort_length Ptr = 40
sort_length _ = 24

-- where `flags` begins in an object of this sort: in a flat_binder_object and in a binder_buffer_object. Here and
-- below, a sort without the field has None.
abbrev pub flags_position : Sort → Option ℕ
flags_position Fd = None
flags_position Fda = None
flags_position _ = Some 4

-- where `binder` begins, in a flat_binder_object of sort BINDER or WEAK_BINDER
abbrev pub binder_position : Sort → Option ℕ
binder_position Binder = Some 8
binder_position WeakBinder = Some 8
binder_position _ = None

-- where `handle` begins, in a flat_binder_object of sort HANDLE or WEAK_HANDLE
abbrev pub handle_position : Sort → Option ℕ
handle_position Handle = Some 8
handle_position WeakHandle = Some 8
handle_position _ = None

-- where `cookie` begins, in a flat_binder_object and in a binder_fd_object
abbrev pub cookie_position : Sort → Option ℕ
cookie_position Fda = None
cookie_position Ptr = None
cookie_position _ = Some 16

-- where `fd` begins, in a binder_fd_object
abbrev pub fd_position : Sort → Option ℕ
fd_position Fd = Some 8
fd_position _ = None

-- where `buffer` begins, in a binder_buffer_object
abbrev pub buffer_position : Sort → Option ℕ
buffer_position Ptr = Some 8
buffer_position _ = None

-- where `length` begins, in a binder_buffer_object
abbrev pub length_position : Sort → Option ℕ
length_position Ptr = Some 16
length_position _ = None

-- where `num_fds` begins, in a binder_fd_array_object
abbrev pub num_fds_position : Sort → Option ℕ
num_fds_position Fda = Some 8
num_fds_position _ = None

-- where `parent` begins, in a binder_buffer_object and in a binder_fd_array_object
abbrev pub parent_position : Sort → Option ℕ
parent_position Ptr = Some 24
parent_position Fda = Some 16
parent_position _ = None

-- where `parent_offset` begins, in a binder_buffer_object and in a binder_fd_array_object
abbrev pub parent_offset_position : Sort → Option ℕ
parent_offset_position Ptr = Some 32
parent_offset_position Fda = Some 24
parent_offset_position _ = None

-- a field of an object: the number in the `size` bytes at its position; None if the sort does not have the field
abbrev pub field : ℕ → Option ℕ → List ℕ → Option ℕ
field size position bytes = option_map (λ p. number_at size p bytes) position
