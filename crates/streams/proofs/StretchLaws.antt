-- Laws of stretches.
use Rattle.std.proofs.Common.{◌≡◌, ℕ, ◌+◌, ◌-◌, ◌<◌, ◌≤◌, ◌⊎◌, inl, inr, List, [], ◌∷◌, ◌++◌, length, get_or, take, drop, All, Option, Some, None, sym, ap, ap₂, subst, ◌∙◌, append_assoc, length-append, length-drop, length-take, drop-drop, arith}
use Rattle.std.specs.Prelude.{IfSome}
use Rattle.std.specs.List.{flat_map}
use Rattle.std.proofs.Math.Seq.{get_or-append_right, take-add}
use Rattle.std.proofs.lemmas.Bool.{cases_lt}
use Rattle.std.proofs.lemmas.List.{drop-take, get_or_append_left, take_all, take-append-drop, take-take}
use Rattle.std.proofs.lemmas.List.Concat.{flat_map-append, flat_map-cons}
use Rattle.std.proofs.lemmas.List.Elements.{All-head, All-tail}
use Rattle.std.proofs.lemmas.List.Sums.{sum_by-cons}
use Rattle.capture_frame.specs.declared.version.Version.{Version}
use Rattle.capture_frame.specs.Envelope.{file_header}
use Rattle.capture_frame.specs.Parts.{joined_as}
use Rattle.capture_frame.specs.Units.{IsBytes}
use Rattle.capture_frame.proofs.HeaderLaws.{header_long, header_printed, length-file_header}
use Rattle.capture_frame.proofs.NumberLaws.{IsBytes-drop}
use Rattle.streams.specs.Parts.{bytes_of}
use Rattle.streams.specs.Stretches.{ArePartsOf, IsPartOf, IsStretch}

-- what the parts have after their file headers
abbrev bodies : List (List ℕ) → List ℕ
bodies parts = flat_map (drop 16) parts

-- a stretch and the one after it
stretch_both : (known : Option (List ℕ)) (start some others : ℕ) (front back : List ℕ) → IsStretch known start some front
    → IsStretch known (start + some) others back → IsStretch known start (some + others) (front ++ back)
stretch_both None start some others front back f b = tt
stretch_both (Some all) start some others front back f b =
    ap₂ (λ (x y : List ℕ). x ++ y) f (b ∙ ap (take others) (sym (drop-drop some start all))) ∙ sym (take-add some others (drop start all))

-- the parts of a stretch and those of the one after it
pub parts_both : (known : Option (List ℕ)) (start middle end : ℕ) (front back : List (List ℕ)) → start ≤ middle → middle ≤ end
    → ArePartsOf known start (middle - start) front → ArePartsOf known middle (end - middle) back
    → ArePartsOf known start (end - start) (front ++ back)
parts_both known start middle end front back some others f b =
    let next : start + (middle - start) ≡ middle = omega arith in
    let whole : middle - start + (end - middle) ≡ end - start = omega arith in
    let later = subst (λ (n : ℕ). IsStretch known n (end - middle) (bodies back)) (sym next) b.1 in
    let both = stretch_both known start (middle - start) (end - middle) (bodies front) (bodies back) f.1 later in (
      omega (arith, f.0, length-append front back),
      subst (λ (n : ℕ). IsStretch known start n (bodies (front ++ back))) whole
          (subst (IsStretch known start _) (sym (flat_map-append (drop 16) front back)) both),
    )

-- a stretch follows what is read of it, if that begins with the 16 bytes before it
pub after_header : (known : Option (List ℕ)) (start most : ℕ) (bytes : List ℕ) → 16 ≤ start → IsStretch known (start - 16) (most + 16) bytes
    → IsStretch known start most (drop 16 bytes)
after_header None start most bytes long is = tt
after_header (Some all) start most bytes long is =
    let more : most + 16 ≡ 16 + most = omega arith in
    let place : start - 16 + 16 ≡ start = omega arith in
    ap (drop 16) is ∙ ap (λ (n : ℕ). drop 16 (take n (drop (start - 16) all))) more ∙ drop-take 16 most (drop (start - 16) all)
    ∙ ap (take most) (drop-drop 16 (start - 16) all ∙ ap (λ (n : ℕ). drop n all) place)

-- parts have no more bytes after their file headers than in all
bodies_short : (parts : List (List ℕ)) → length (bodies parts) ≤ bytes_of parts
bodies_short [] = omega arith
bodies_short (part ∷ parts) =
    let more = bodies_short parts in
    omega (arith, more, ap length (flat_map-cons (drop 16) part parts), length-append (drop 16 part) (bodies parts), length-drop 16 part, sum_by-cons length part parts)

-- where fewer bytes come than were asked for, these are all there are
all_taken : (n : ℕ) (bytes : List ℕ) → length (take n bytes) < n → take n bytes ≡ bytes
all_taken n bytes fewer = take_all n bytes (omega (arith, fewer, length-take n bytes))

-- parts that have less than was asked for are, joined, all that there is to read
pub joined_all : (known : Option (List ℕ)) (version : Version) (head : List ℕ) (front : List (List ℕ)) (rest : List ℕ) (parts : List (List ℕ)) (size limit : ℕ)
    → 16 ≤ size → size ≤ limit → 16 + bytes_of parts ≤ limit → IsStretch known 0 16 head → take 16 head ≡ file_header version
    → ArePartsOf known 16 (size - 16) front → IsStretch known size (limit + 1 - size) rest → flat_map (drop 16) parts ≡ flat_map (drop 16) front ++ rest
    → IfSome known (λ all. joined_as version parts ≡ all)
joined_all None version head front rest parts size limit some less within is printed are more same = tt
joined_all (Some all) version head front rest parts size limit some less within is printed are more same =
    let next : 16 + (size - 16) ≡ size = omega arith in
    let count : size - 16 + (limit + 1 - size) ≡ limit - 15 = omega arith in
    let read : bodies parts ≡ take (limit - 15) (drop 16 all) =
    same ∙ stretch_both (Some all) 16 (size - 16) (limit + 1 - size) (bodies front) rest are.1 (subst (λ (n : ℕ). IsStretch (Some all) n (limit + 1 - size) rest) (sym next) more)
    ∙ ap (λ (n : ℕ). take n (drop 16 all)) count in
    let short : length (take (limit - 15) (drop 16 all)) < limit - 15 = omega (arith, within, bodies_short parts, ap length read) in
    let begin : file_header version ≡ take 16 all = sym printed ∙ ap (take 16) is ∙ take-take 16 16 all (omega arith) in
    ap₂ (λ (x y : List ℕ). x ++ y) begin (read ∙ all_taken (limit - 15) (drop 16 all) short) ∙ take-append-drop 16 all

-- ---- the joined capture

abbrev IsByteAt : List ℕ → ℕ → Type 0
IsByteAt bytes i = get_or bytes i 0 < 256

byte_of_both : (xs ys : List ℕ) (i : ℕ) → IsBytes xs → IsBytes ys → (i < length xs) ⊎ (length xs ≤ i) → IsByteAt (xs ++ ys) i
byte_of_both xs ys i mine others (inl within) = subst (λ (b : ℕ). b < 256) (sym (get_or_append_left xs ys 0 i within)) (mine i)
byte_of_both xs ys i mine others (inr past) = subst (λ (b : ℕ). b < 256) (sym (get_or-append_right xs ys i 0 past)) (others (i - length xs))

bytes_of_both : (xs ys : List ℕ) → IsBytes xs → IsBytes ys → IsBytes (xs ++ ys)
bytes_of_both xs ys mine others i = byte_of_both xs ys i mine others (cases_lt i (length xs))

bodies_are_bytes : (version : Version) (parts : List (List ℕ)) → All (IsPartOf version) parts → IsBytes (bodies parts)
bodies_are_bytes version [] same = λ i. omega arith
bodies_are_bytes version (part ∷ parts) same =
    subst IsBytes (sym (flat_map-cons (drop 16) part parts))
    (bytes_of_both (drop 16 part) (bodies parts) (IsBytes-drop 16 part (All-head (IsPartOf version) part parts same).1)
    (bodies_are_bytes version parts (All-tail (IsPartOf version) part parts same)))

-- the joined capture is the first part, and then what the others have after their file headers
pub joined_from_first : (version : Version) (part : List ℕ) (parts : List (List ℕ)) → IsPartOf version part
    → joined_as version (part ∷ parts) ≡ part ++ bodies parts
joined_from_first version part parts is =
    ap (λ (t : List ℕ). file_header version ++ t) (flat_map-cons (drop 16) part parts) ∙ sym (append_assoc (file_header version) (drop 16 part) (bodies parts))
    ∙ ap (λ (t : List ℕ). (t ++ drop 16 part) ++ bodies parts) (sym (header_printed part version is.1 is.0))
    ∙ ap (λ (t : List ℕ). t ++ bodies parts) (take-append-drop 16 part)

-- it consists of bytes
pub joined_bytes : (version : Version) (parts : List (List ℕ)) → 1 ≤ length parts → All (IsPartOf version) parts → IsBytes (joined_as version parts)
joined_bytes version [] some same = absurd (omega (arith, some))
joined_bytes version (part ∷ parts) some same =
    let first = All-head (IsPartOf version) part parts same in
    subst IsBytes (sym (joined_from_first version part parts first))
    (bytes_of_both part (bodies parts) first.1 (bodies_are_bytes version parts (All-tail (IsPartOf version) part parts same)))

-- and has no more of them than the parts and one more file header
pub joined_short : (version : Version) (parts : List (List ℕ)) → length (joined_as version parts) ≤ 16 + bytes_of parts
joined_short version parts =
    let short = bodies_short parts in
    omega (arith, short, length-append (file_header version) (bodies parts), length-file_header version)

-- there are no more parts than bytes in them
pub few_parts : (version : Version) (parts : List (List ℕ)) → All (IsPartOf version) parts → length parts ≤ bytes_of parts
few_parts version [] same = omega arith
few_parts version (part ∷ parts) same =
    let more = few_parts version parts (All-tail (IsPartOf version) part parts same) in
    omega (arith, more, header_long part version (All-head (IsPartOf version) part parts same).0, sum_by-cons length part parts)
