-- Steps through the objects of an attachment.
use Rattle.std.proofs.Common.{◌≡◌, ℕ, zero, suc, ◌+◌, ◌-◌, ◌*◌, ◌/◌, ◌%◌, ◌<◌, ◌≤◌, nat_lt, Bool, true, false, not, cond, List, [], ◌∷◌, length, take, drop, Option, Some, None, Result, Ok, Err, refl, sym, ap, subst, ◌∙◌, arith}
use Rattle.std.specs.Prelude.{◌==◌, if◌then◌else◌, find}
use Rattle.std.proofs.lemmas.Bool.{eq-eqb, eqb-true, ltb-false}
use Rattle.std.proofs.lemmas.List.{take_rest, length-drop}
use Rattle.byteorder.specs.Numbers.{little_from-take}
use Rattle.transaction_view.specs.Envelope.{number_at}
use Rattle.object_view.specs.declared.sort.Sort.{Sort}
use Rattle.object_view.specs.declared.sort.Sort.TheVariants.{Fda, Ptr}
use Rattle.object_view.specs.declared.bad_object.Cause.{Cause}
use Rattle.object_view.specs.declared.bad_object.Cause.TheVariants.{ListLength, Misaligned, Overlap, Short}
use Rattle.object_view.specs.Fields.{sort_number, sort_of, sort_length, all_sorts}
use Rattle.object_view.specs.Laws.{FollowInPlace, MayComeObject}
use Rattle.object_view.specs.Objects.{ObjectText, Objects, object_at, object_of, offset_of, first_offset, bad_at, followed_by, stopped, first_and_others, objects_from, objects_of}

-- the bytes that a reader has left, as the code cuts them
abbrev pub rest_of : List ℕ → ℕ → List ℕ
rest_of list index = take (length list - 8 * index) (drop (8 * index) list)

-- the objects ahead in a whole list that is not at its end: what is at the next offset, and then the others
ahead_one : (body list : List ℕ) (index end : ℕ) → length list % 8 ≡ 0 → 0 < length (rest_of list index)
    → (if length list % 8 == 0 then objects_from body list (length list / 8 - index) index end else stopped (bad_at 0 0 ListLength))
    ≡ objects_from body list (suc (length list / 8 - (index + 1))) index end
ahead_one body list index end whole some =
    let left : length (rest_of list index) ≡ length list - 8 * index = ap length (take_rest list (8 * index)) ∙ length-drop (8 * index) list in
    let count : length list / 8 - index ≡ suc (length list / 8 - (index + 1)) = omega (arith, whole, some, left) in
    rw (eq-eqb (length list % 8) 0 whole) (ap (λ (n : ℕ). objects_from body list n index end) count)

pub ahead_good : (body list : List ℕ) (index end offset next : ℕ) (o : ObjectText) → length list % 8 ≡ 0 → 0 < length (rest_of list index)
    → offset ≡ first_offset (rest_of list index) → object_at body end offset ≡ Ok o → next ≡ o.offset + sort_length o.sort
    → (if length list % 8 == 0 then objects_from body list (length list / 8 - index) index end else stopped (bad_at 0 0 ListLength))
    ≡ followed_by o
    (if length list % 8 == 0 then objects_from body list (length list / 8 - (index + 1)) (index + 1) next else stopped (bad_at 0 0 ListLength))
ahead_good body list index end offset next o whole some read found ends =
    let there : object_at body end (offset_of list index) ≡ Ok o =
    ap (object_at body end) (sym (read ∙ ap first_offset (take_rest list (8 * index)))) ∙ found in
    let others : ObjectText → Objects = λ x. objects_from body list (length list / 8 - (index + 1)) (index + 1) (x.offset + sort_length x.sort) in
    ahead_one body list index end whole some ∙ ap (λ (r : Result ObjectText Cause). first_and_others index (offset_of list index) r others) there
    ∙ rw (ends, eq-eqb (length list % 8) 0 whole) refl

pub ahead_bad : (body list : List ℕ) (index end offset : ℕ) (cause : Cause) → length list % 8 ≡ 0 → 0 < length (rest_of list index)
    → offset ≡ first_offset (rest_of list index) → object_at body end offset ≡ Err cause
    → (if length list % 8 == 0 then objects_from body list (length list / 8 - index) index end else stopped (bad_at 0 0 ListLength))
    ≡ stopped (bad_at index offset cause)
ahead_bad body list index end offset cause whole some read fails =
    let same : offset_of list index ≡ offset = sym (read ∙ ap first_offset (take_rest list (8 * index))) in
    let there : object_at body end (offset_of list index) ≡ Err cause = ap (object_at body end) same ∙ fails in
    let others : ObjectText → Objects = λ x. objects_from body list (length list / 8 - (index + 1)) (index + 1) (x.offset + sort_length x.sort) in
    ahead_one body list index end whole some ∙ ap (λ (r : Result ObjectText Cause). first_and_others index (offset_of list index) r others) there
    ∙ ap (λ (n : ℕ). stopped (bad_at index n cause)) same

found_passes : {X : Type 0} (test : X → Bool) (xs : List X) (x : X) → find test xs ≡ Some x → test x ≡ true
found_passes test [] x is = let no : ⊥ = cc in absurd no
found_passes test (y ∷ ys) x is =
    elim (test y) as (λ b. test y ≡ b → cond b (Some y) (find test ys) ≡ Some x → test x ≡ true) [
      | true ↦ λ yes. λ is. let same : y ≡ x = cc in subst (λ (z : _). test z ≡ true) same yes
      | false ↦ λ no. λ is. found_passes test ys x is
    ] refl is

-- the sort that a number names has that number
pub sort_of-number : (number : ℕ) (sort : Sort) → sort_of number ≡ Some sort → sort_number sort ≡ number
sort_of-number number sort is = eqb-true (sort_number sort) number (found_passes (λ (s : Sort). sort_number s == number) all_sorts sort is)

-- an object has at least the four bytes that name its sort
sort_length-long : (sort : Sort) → 4 ≤ sort_length sort
sort_length-long Fda = omega arith
sort_length-long Ptr = omega arith
sort_length-long _ = omega arith

pub number_in_front : (sort : Sort) (n : ℕ) (bytes : List ℕ) → n ≡ sort_length sort → number_at 4 0 (take n bytes) ≡ number_at 4 0 bytes
unfolding number_at
number_in_front sort n bytes is = let long = sort_length-long sort in little_from-take 0 4 n bytes (omega (arith, is, long))

pub number_at-drop : (n offset : ℕ) (bytes : List ℕ) → number_at n 0 (drop offset bytes) ≡ number_at n offset bytes
unfolding number_at
number_at-drop n offset bytes = refl

-- ---- the good objects

first_short : (index offset : ℕ) (r : Result ObjectText Cause) (others : ObjectText → Objects) (n : ℕ) → ((o : ObjectText) → length (others o).good ≤ n)
    → length (first_and_others index offset r others).good ≤ n + 1
first_short index offset (Ok o) others n short = let rest = short o in omega (arith, rest)
first_short index offset (Err cause) others n short = omega arith

from_short : (body list : List ℕ) (left index end : ℕ) → length (objects_from body list left index end).good ≤ left
from_short body list zero index end = omega arith
from_short body list (suc left) index end =
    let others : ObjectText → Objects = λ x. objects_from body list left (index + 1) (x.offset + sort_length x.sort) in
    let short = first_short index (offset_of list index) (object_at body end (offset_of list index)) others left
    (λ o. from_short body list left (index + 1) (o.offset + sort_length o.sort)) in
    omega (arith, short)

-- the list has eight bytes for each good object
pub objects_short : (body list : List ℕ) → 8 * length (objects_of body list).good ≤ length list
objects_short body list = elim (length list % 8 == 0) as (λ b. 8 * length (if b then objects_from body list (length list / 8) 0 0 else stopped (bad_at 0 0 ListLength)).good ≤ length list) [
  | true ↦ let short = from_short body list (length list / 8) 0 0 in omega (arith, short)
  | false ↦ omega arith
]

-- ---- each good object is there

is_of_sort : (body : List ℕ) (end offset : ℕ) (named : Option Sort) (o : ObjectText) → offset % 4 ≡ 0 → end ≤ offset
    → sort_of (number_at 4 offset body) ≡ named → object_of body offset named ≡ Ok o → MayComeObject body end o
is_of_sort body end offset None o aligned after named is = let no : ⊥ = cc in absurd no
is_of_sort body end offset (Some sort) o aligned after named is =
    let made : ObjectText = record { offset = offset; sort = sort; bytes = take (sort_length sort) (drop offset body) } in
    elim (nat_lt (length body) (offset + sort_length sort))
    as (λ b. nat_lt (length body) (offset + sort_length sort) ≡ b → (if b then Err Short else Ok made) ≡ Ok o → MayComeObject body end o) [
      | true ↦ λ _. λ none. let no : ⊥ = cc in absurd no
      | false ↦ λ long. λ ok.
          let same : made ≡ o = cc in
          subst (MayComeObject body end) same
          (record { aligned = aligned; after = after; named = named; within = ltb-false (length body) (offset + sort_length sort) long; bytes = refl })
    ] refl is

is_object : (body : List ℕ) (end offset : ℕ) (o : ObjectText) → object_at body end offset ≡ Ok o → MayComeObject body end o
is_object body end offset o is =
    let found = object_of body offset (sort_of (number_at 4 offset body)) in
    elim (offset % 4 == 0) as (λ whole. (offset % 4 == 0) ≡ whole
    → (if not whole then Err Misaligned else if nat_lt offset end then Err Overlap else if nat_lt (length body) (offset + 4) then Err Short else found)
    ≡ Ok o → MayComeObject body end o) [
      | false ↦ λ _. λ none. let no : ⊥ = cc in absurd no
      | true ↦ λ aligned. elim (nat_lt offset end) as (λ below. nat_lt offset end ≡ below
          → (if below then Err Overlap else if nat_lt (length body) (offset + 4) then Err Short else found) ≡ Ok o → MayComeObject body end o) [
            | true ↦ λ _. λ none. let no : ⊥ = cc in absurd no
            | false ↦ λ after. elim (nat_lt (length body) (offset + 4)) as (λ cut. (if cut then Err Short else found) ≡ Ok o → MayComeObject body end o) [
              | true ↦ λ none. let no : ⊥ = cc in absurd no
              | false ↦ is_of_sort body end offset (sort_of (number_at 4 offset body)) o (eqb-true (offset % 4) 0 aligned) (ltb-false offset end after) refl
            ]
          ] refl
    ] refl is

first_follows : (body : List ℕ) (index offset end : ℕ) (r : Result ObjectText Cause) (others : ObjectText → Objects)
    → ((o : ObjectText) → r ≡ Ok o → MayComeObject body end o × FollowInPlace body (o.offset + sort_length o.sort) (others o).good)
    → FollowInPlace body end (first_and_others index offset r others).good
first_follows body index offset end (Ok o) others each = each o refl
first_follows body index offset end (Err cause) others each = tt

from_follows : (body list : List ℕ) (left index end : ℕ) → FollowInPlace body end (objects_from body list left index end).good
from_follows body list zero index end = tt
from_follows body list (suc left) index end =
    let offset = offset_of list index in
    first_follows body index offset end (object_at body end offset) (λ o. objects_from body list left (index + 1) (o.offset + sort_length o.sort))
    (λ o is. (is_object body end offset o is, from_follows body list left (index + 1) (o.offset + sort_length o.sort)))

pub are_there : (body list : List ℕ) → FollowInPlace body 0 (objects_of body list).good
are_there body list = elim (length list % 8 == 0)
    as (λ b. FollowInPlace body 0 (if b then objects_from body list (length list / 8) 0 0 else stopped (bad_at 0 0 ListLength)).good) [
      | true ↦ from_follows body list (length list / 8) 0 0
      | false ↦ tt
    ]
