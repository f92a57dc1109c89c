-- Parts that are read from readers, one after another.
use Rattle.std.proofs.Common.{◌≡◌, ℕ, ◌+◌, ◌<◌, List, [], ◌∷◌, ◌++◌, length, map, Option, Some, refl, ap, arith}
use Rattle.std.specs.List.{AllZip}
use Rattle.std.specs.Prelude.{IfSome}
use Rattle.std.proofs.lemmas.List.{map-append}
use Rattle.std.proofs.lemmas.List.Sums.{sum_by-cons}
use Rattle.streams.specs.Parts.{bytes_of, IsAllOf}

zip_push : {X Y : Type 0} (R : X → Y → Type 0) (xs : List X) (ys : List Y) (x : X) (y : Y) → AllZip R xs ys → R x y
    → AllZip R (xs ++ x ∷ []) (ys ++ y ∷ [])
zip_push R [] [] x y each one = (one, tt)
zip_push R [] (b ∷ ys) x y each one = absurd each
zip_push R (a ∷ xs) [] x y each one = absurd each
zip_push R (a ∷ xs) (b ∷ ys) x y each one = (each.0, zip_push R xs ys x y each.1 one)

-- with one reader more, and its part, each part is still all that its reader had
pub read_next : {R V : Type 0} (remaining : R → Option (List ℕ)) (items : V → List ℕ) (readers : List R) (parts : List V) (reader : R) (part : V)
    → AllZip IsAllOf (map remaining readers) (map items parts) → IsAllOf (remaining reader) (items part)
    → AllZip IsAllOf (map remaining (readers ++ reader ∷ [])) (map items (parts ++ part ∷ []))
read_next remaining items readers parts reader part each one =
    rw (map-append remaining readers (reader ∷ []), map-append items parts (part ∷ []))
    (zip_push IsAllOf (map remaining readers) (map items parts) (remaining reader) (items part) each one)

-- if it is known what each reader had, and the next reader had more than is left, they had more than the limit together
pub past_limit : {R : Type 0} (remaining : R → Option (List ℕ)) (parts known : List (List ℕ)) (front : List R) (reader : R) (after : List R)
    → map remaining (front ++ reader ∷ after) ≡ map Some known → AllZip IsAllOf (map remaining front) parts
    → (limit left : ℕ) → left + bytes_of parts ≡ limit → IfSome (remaining reader) (λ bytes. left < length bytes) → limit < bytes_of known
past_limit remaining [] [] [] reader after same each limit left is more = absurd (cc)
past_limit remaining [] (k ∷ known) [] reader after same each limit left is more =
    let has : remaining reader ≡ Some k = cc in
    let long : left < length k = rw has at more in
    let whole = sum_by-cons (λ (p : List ℕ). length p) k known in
    omega (arith, long, whole, is)
past_limit remaining (p ∷ parts) known [] reader after same each limit left is more = absurd each
past_limit remaining [] known (f ∷ front) reader after same each limit left is more = absurd each
past_limit remaining (p ∷ parts) [] (f ∷ front) reader after same each limit left is more = absurd (cc)
past_limit remaining (p ∷ parts) (k ∷ known) (f ∷ front) reader after same each limit left is more =
    let has : remaining f ≡ Some k = cc in
    let first : p ≡ k = rw has at each.0 in
    let rest : map remaining (front ++ reader ∷ after) ≡ map Some known = cc in
    let long = ap length first in
    let whole = sum_by-cons (λ (q : List ℕ). length q) k known in
    let read = sum_by-cons (λ (q : List ℕ). length q) p parts in
    let later = past_limit remaining parts known front reader after rest each.1 (left + bytes_of parts) left refl more in
    omega (arith, long, whole, read, later, is)
