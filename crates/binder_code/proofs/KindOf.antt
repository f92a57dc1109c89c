-- What `kind_of` answers, in terms of the table's lines.
use Rattle.std.proofs.Common.{◌≡◌, ◌≢◌, ◌↔◌, ◌==◌, ◌&&◌, ◌||◌, ℕ, Bool, true, false, Option, Some, None, Result, Ok, Err, if◌then◌else◌, IsSome, IfSome, IsSomeAnd, List, [], ◌∷◌, map, refl, sym, ap, subst, ◌∙◌, cond, eqb-true, eq-eqb}
use Rattle.std.specs.Prelude.{option_map}
use Rattle.std.specs.List.{find, list_any, AllByRecursion}
use Rattle.binder_code.specs.Code.{number, letter, size, direction}
use Rattle.binder_code.specs.Commands.{Row, command_lines, return_lines, lines_of, row_of, letter_of, direction_of, IsOfProtocol, HasCode, ListsCode, ListsNumber, is_of, has_number, has_size, judged, kind_of}
use Rattle.binder_code.specs.declared.protocol.Protocol.{Protocol}
use Rattle.binder_code.specs.declared.protocol.Protocol.TheVariants.{Command, Return}
use Rattle.binder_code.specs.declared.code.CodeFault.{CodeFault}
use Rattle.binder_code.specs.declared.code.CodeFault.TheVariants.{Direction, Size}
use Rattle.binder_code.specs.declared.record_kind.Kind.{Kind}
use Rattle.binder_code.specs.declared.record_kind.Kind.TheVariants.{Opaque}

-- a line has this protocol and number
abbrev IsNumbered : Option Row → Protocol → ℕ → Type 0
IsNumbered line protocol n = IsSomeAnd line (λ row. (row.protocol ≡ protocol) × (row.number ≡ n))

-- a line has this protocol, number and size
abbrev IsSized : Option Row → Protocol → ℕ → ℕ → Type 0
IsSized line protocol n bytes =
    IsSomeAnd line (λ row. (row.protocol ≡ protocol) × (row.number ≡ n) × (row.size ≡ bytes))

-- what is found of a number and a size
abbrev kind_found : Protocol → ℕ → ℕ → Option Kind
kind_found protocol n bytes = option_map (λ row. row.kind) (find (has_size n bytes) (lines_of protocol))

-- ---- lists of which a fact is computed

-- functions that make the same list make the same of each element
pub maps_same : {X Y : Type 0} (f g : X → Y) (xs : List X) → map f xs ≡ map g xs → AllByRecursion (λ x. f x ≡ g x) xs
maps_same f g [] same = tt
maps_same f g (x ∷ xs) same = (cc, maps_same f g xs cc)

-- what a search finds passes its test, and the fact is true of it
pub found_with : {X : Type 0} (test : X → Bool) (Fact : X → Type 0) (xs : List X) → AllByRecursion Fact xs → (x : X) → find test xs ≡ Some x
    → (test x ≡ true) × Fact x
found_with test Fact [] all x found = cc
found_with test Fact (y ∷ ys) all x found =
    (elim (test y) as (λ v. test y ≡ v → cond v (Some y) (find test ys) ≡ Some x → (test x ≡ true) × Fact x) [
      | true ↦ λ passed here. let same : y ≡ x = cc in subst (λ z. (test z ≡ true) × Fact z) same (passed, all.0)
      | false ↦ λ failed later. found_with test Fact ys all.1 x later
    ]) refl found

-- an element that passes a test, and the fact of it
any_with : {X : Type 0} (test : X → Bool) (Fact : X → Type 0) (xs : List X) → AllByRecursion Fact xs → list_any test xs ≡ true
    → (x : X) × (test x ≡ true) × Fact x
any_with test Fact [] all passed = cc
any_with test Fact (y ∷ ys) all passed =
    (elim (test y) as (λ v. test y ≡ v → (v || list_any test ys) ≡ true → (x : _) × (test x ≡ true) × Fact x) [
      | true ↦ λ is here. (y, is, all.0)
      | false ↦ λ is later. any_with test Fact ys all.1 later
    ]) refl passed

-- both sides of a test that passes
and_parts : (a b : Bool) → (a && b) ≡ true → (a ≡ true) × (b ≡ true)
and_parts true b passed = (refl, passed)
and_parts false b passed = cc

and_both : (a b : Bool) → a ≡ true → b ≡ true → (a && b) ≡ true
and_both true b left right = right
and_both false b left right = cc

-- the test that a code is of the protocol, and the fact
is_of-true : (protocol : Protocol) (code : ℕ) → is_of protocol code ≡ true → IsOfProtocol protocol code
is_of-true protocol code passed =
    let parts = and_parts (letter code == letter_of protocol) (direction code == direction_of protocol (size code)) passed in
    record {
      right_letter = eqb-true (letter code) (letter_of protocol) parts.0;
      right_direction = eqb-true (direction code) (direction_of protocol (size code)) parts.1;
    }

is_of-from : (protocol : Protocol) (code : ℕ) → IsOfProtocol protocol code → is_of protocol code ≡ true
is_of-from protocol code fits =
    and_both (letter code == letter_of protocol) (direction code == direction_of protocol (size code))
    (eq-eqb (letter code) (letter_of protocol) fits.right_letter)
    (eq-eqb (direction code) (direction_of protocol (size code)) fits.right_direction)

-- ---- the tables, by computing

-- a line's protocol, and the line of its kind
abbrev own : Row → Protocol × Option Row
own row = (row.protocol, row_of row.kind)

-- which they have to be
abbrev own_due : Protocol → Row → Protocol × Option Row
own_due protocol row = (protocol, Some row)

abbrev Own : Protocol → Row → Type 0
Own protocol row = own row ≡ own_due protocol row

lines_own : (protocol : Protocol) → AllByRecursion (Own protocol) (lines_of protocol)
unfolding command_lines return_lines
lines_own Command = maps_same own (own_due Command) command_lines refl
lines_own Return = maps_same own (own_due Return) return_lines refl

no_line : row_of Opaque ≡ None
unfolding command_lines return_lines
no_line = refl

-- each line is found by its number and size
found_there : (kind : Kind) → IfSome (row_of kind) (λ row. kind_found row.protocol row.number row.size ≡ Some kind)
unfolding command_lines return_lines
found_there Opaque = tt
found_there _ = refl

-- and its number is found in its protocol
numbered_there : (kind : Kind) → IfSome (row_of kind) (λ row. list_any (has_number row.number) (lines_of row.protocol) ≡ true)
unfolding command_lines return_lines
numbered_there Opaque = tt
numbered_there _ = refl

-- a fact on a line's own protocol, number and size, at equal ones
at_line : (line : Option Row) (Fact : Protocol → ℕ → ℕ → Type 0) (protocol : Protocol) (n bytes : ℕ)
    → IfSome line (λ row. Fact row.protocol row.number row.size) → IsSized line protocol n bytes
    → Fact protocol n bytes
at_line None Fact protocol n bytes there same = absurd same
at_line (Some row) Fact protocol n bytes there same =
    subst (λ b. Fact protocol n b) same.2
    (subst (λ m. Fact protocol m row.size) same.1 (subst (λ p. Fact p row.number row.size) same.0 there))

at_number : (line : Option Row) (Fact : Protocol → ℕ → Type 0) (protocol : Protocol) (n : ℕ)
    → IfSome line (λ row. Fact row.protocol row.number) → IsNumbered line protocol n
    → Fact protocol n
at_number None Fact protocol n there same = absurd same
at_number (Some row) Fact protocol n there same =
    subst (λ m. Fact protocol m) same.1 (subst (λ p. Fact p row.number) same.0 there)

-- the kind whose line has these three is the one that is found
kind_found-from : (protocol : Protocol) (n bytes : ℕ) (kind : Kind) → IsSized (row_of kind) protocol n bytes → kind_found protocol n bytes ≡ Some kind
kind_found-from protocol n bytes kind same = at_line (row_of kind) (λ p m b. kind_found p m b ≡ Some kind) protocol n bytes (found_there kind) same

list_any-has_number : (protocol : Protocol) (n : ℕ) → ListsNumber protocol n → list_any (has_number n) (lines_of protocol) ≡ true
list_any-has_number protocol n lists =
    at_number (row_of lists.0) (λ p m. list_any (has_number m) (lines_of p) ≡ true) protocol n (numbered_there lists.0) lists.1

lists_number : (protocol : Protocol) (n : ℕ) → list_any (has_number n) (lines_of protocol) ≡ true → ListsNumber protocol n
lists_number protocol n passed =
    let some = any_with (has_number n) (Own protocol) (lines_of protocol) (lines_own protocol) passed in
    let row = some.0 in (
      row.kind,
      subst (λ line. IsNumbered line protocol n) (sym (ap (λ o. o.1) some.2))
          (ap (λ o. o.0) some.2, eqb-true row.number n some.1),
    )

-- `kind_of`, with its test, the kind found and whether the number is listed as variables
answer : Bool → Option Kind → Bool → Result Kind CodeFault
answer fits found counted = if fits then judged found counted else Err Direction

answer-direction : (fits : Bool) (found : Option Kind) (counted : Bool) (Of : Type 0)
    → (fits ≡ true → Of) → (Of → fits ≡ true)
    → (answer fits found counted ≡ Err Direction) ↔ ¬ Of
unfolding answer
answer-direction true (Some kind) counted Of is_of of_is = (λ wrong. cc, λ no. absurd (no (is_of refl)))
answer-direction true None true Of is_of of_is = (λ wrong. cc, λ no. absurd (no (is_of refl)))
answer-direction true None false Of is_of of_is = (λ wrong. cc, λ no. absurd (no (is_of refl)))
answer-direction false found counted Of is_of of_is =
    (λ right of. let no : false ≡ true = of_is of in cc, λ no. refl)

answer-listed : (fits : Bool) (found : Option Kind) (counted : Bool) (Of Line : Type 0) (kind : Kind)
    → kind ≢ Opaque → (fits ≡ true → Of) → (Of → fits ≡ true)
    → (found ≡ Some kind → Line) → (Line → found ≡ Some kind)
    → (answer fits found counted ≡ Ok kind) ↔ (Of × Line)
unfolding answer
answer-listed true (Some other) counted Of Line kind known is_of of_is line finds = (
  λ right. let same : Some other ≡ Some kind = cc in (is_of refl, line same),
  λ both. let same : Some other ≡ Some kind = finds both.1 in cc,
)
answer-listed true None true Of Line kind known is_of of_is line finds =
    (λ wrong. cc, λ both. let no : None ≡ Some kind = finds both.1 in cc)
answer-listed true None false Of Line kind known is_of of_is line finds = (
  λ right. let same : kind ≡ Opaque = cc in absurd (known same),
  λ both. let no : None ≡ Some kind = finds both.1 in cc,
)
answer-listed false found counted Of Line kind known is_of of_is line finds =
    (λ wrong. cc, λ both. let no : false ≡ true = of_is both.0 in cc)

answer-opaque : (fits : Bool) (found : Option Kind) (counted : Bool) (Of Number : Type 0)
    → (fits ≡ true → Of) → (Of → fits ≡ true)
    → (counted ≡ true → Number) → (Number → counted ≡ true)
    → ((kind : Kind) → found ≡ Some kind → (kind ≢ Opaque) × Number)
    → (answer fits found counted ≡ Ok Opaque) ↔ (Of × ¬ Number)
unfolding answer
answer-opaque true (Some kind) counted Of Number is_of of_is lists counts line =
    let known = line kind refl in
    (λ right. let same : kind ≡ Opaque = cc in absurd (known.0 same), λ both. absurd (both.1 known.1))
answer-opaque true None true Of Number is_of of_is lists counts line =
    (λ wrong. cc, λ both. absurd (both.1 (lists refl)))
answer-opaque true None false Of Number is_of of_is lists counts line =
    (λ right. (is_of refl, λ number. let no : false ≡ true = counts number in cc), λ both. refl)
answer-opaque false found counted Of Number is_of of_is lists counts line =
    (λ wrong. cc, λ both. let no : false ≡ true = of_is both.0 in cc)

answer-size : (fits : Bool) (found : Option Kind) (counted : Bool) (Of Number : Type 0) (Line : Kind → Type 0)
    → (fits ≡ true → Of) → (Of → fits ≡ true)
    → (counted ≡ true → Number) → (Number → counted ≡ true)
    → ((kind : Kind) → found ≡ Some kind → Line kind) → ((kind : Kind) → Line kind → found ≡ Some kind)
    → (answer fits found counted ≡ Err Size) ↔ (Of × Number × ¬ ((kind : Kind) × Line kind))
unfolding answer
answer-size true (Some kind) counted Of Number Line is_of of_is lists counts line finds =
    (λ wrong. cc, λ all. absurd (all.2 (kind, line kind refl)))
answer-size true None true Of Number Line is_of of_is lists counts line finds =
    (λ right. (is_of refl, lists refl, λ some. let no : None ≡ Some some.0 = finds some.0 some.1 in cc), λ all. refl)
answer-size true None false Of Number Line is_of of_is lists counts line finds =
    (λ wrong. cc, λ all. let no : false ≡ true = counts all.1 in cc)
answer-size false found counted Of Number Line is_of of_is lists counts line finds =
    (λ wrong. cc, λ all. let no : false ≡ true = of_is all.0 in cc)

-- a kind with a line is not `Opaque`
listed_not_opaque : (kind : Kind) → IsSome (row_of kind) → kind ≢ Opaque
listed_not_opaque kind there same =
    let no : false ≡ true = subst (λ line. IsSome line) (ap (λ k. row_of k) same ∙ no_line) there in cc

-- a line with a size is there, and has its number
line_number : (line : Option Row) (protocol : Protocol) (n bytes : ℕ)
    → IsSized line protocol n bytes → IsSome line × IsNumbered line protocol n
line_number None protocol n bytes same = absurd same
line_number (Some row) protocol n bytes same = (refl, (same.0, same.1))

-- the kind that is found has the code
found_code : (protocol : Protocol) (code : ℕ) (kind : Kind) → kind_found protocol (number code) (size code) ≡ Some kind → HasCode kind protocol code
found_code protocol code kind =
    elim (find (has_size (number code) (size code)) (lines_of protocol)) as
    (λ o. find (has_size (number code) (size code)) (lines_of protocol) ≡ o → option_map (λ row. row.kind) o ≡ Some kind → HasCode kind protocol code) [
      | None ↦ λ is none. cc
      | Some row ↦ λ is found.
          let with = found_with (has_size (number code) (size code)) (Own protocol) (lines_of protocol) (lines_own protocol) row is in
          let parts = and_parts (has_number (number code) row) (row.size == size code) with.0 in
          let same : row.kind ≡ kind = let some : Some row.kind ≡ Some kind = found in cc in
          subst (λ k. HasCode k protocol code) same
          (subst (λ line. IsSized line protocol (number code) (size code)) (sym (ap (λ o. o.1) with.1))
          (ap (λ o. o.0) with.1, eqb-true row.number (number code) parts.0, eqb-true row.size (size code) parts.1))
    ] refl

-- `Direction` exactly where the code is not of the protocol
pub kind_of-direction : (protocol : Protocol) (code : ℕ) → (kind_of protocol code ≡ Err Direction) ↔ ¬ IsOfProtocol protocol code
unfolding answer
kind_of-direction protocol code =
    answer-direction (is_of protocol code)
    (kind_found protocol (number code) (size code)) (list_any (has_number (number code)) (lines_of protocol))
    (IsOfProtocol protocol code) (is_of-true protocol code) (is_of-from protocol code)

-- a listed kind exactly where its line has the protocol, the number and the size
pub kind_of-listed : (protocol : Protocol) (code : ℕ) (kind : Kind) → IsSome (row_of kind)
    → (kind_of protocol code ≡ Ok kind) ↔ (IsOfProtocol protocol code × HasCode kind protocol code)
unfolding answer
kind_of-listed protocol code kind known =
    answer-listed (is_of protocol code)
    (kind_found protocol (number code) (size code)) (list_any (has_number (number code)) (lines_of protocol))
    (IsOfProtocol protocol code) (HasCode kind protocol code) kind (listed_not_opaque kind known)
    (is_of-true protocol code) (is_of-from protocol code)
    (found_code protocol code kind) (kind_found-from protocol (number code) (size code) kind)

-- `Opaque` exactly where no line of the protocol has the number
pub kind_of-opaque : (protocol : Protocol) (code : ℕ)
    → (kind_of protocol code ≡ Ok Opaque) ↔ (IsOfProtocol protocol code × ¬ ListsNumber protocol (number code))
unfolding answer
kind_of-opaque protocol code =
    answer-opaque (is_of protocol code)
    (kind_found protocol (number code) (size code)) (list_any (has_number (number code)) (lines_of protocol))
    (IsOfProtocol protocol code) (ListsNumber protocol (number code))
    (is_of-true protocol code) (is_of-from protocol code)
    (lists_number protocol (number code)) (list_any-has_number protocol (number code))
    (λ kind found.
    let known = line_number (row_of kind) protocol (number code) (size code) (found_code protocol code kind found) in
    (listed_not_opaque kind known.0, (kind, known.1)))

-- `Size` exactly where a line of the protocol has the number, and none has it with this size
pub kind_of-size : (protocol : Protocol) (code : ℕ)
    → (kind_of protocol code ≡ Err Size) ↔
    (IsOfProtocol protocol code × ListsNumber protocol (number code) × ¬ ListsCode protocol code)
unfolding answer
kind_of-size protocol code =
    answer-size (is_of protocol code)
    (kind_found protocol (number code) (size code)) (list_any (has_number (number code)) (lines_of protocol))
    (IsOfProtocol protocol code) (ListsNumber protocol (number code)) (λ kind. HasCode kind protocol code)
    (is_of-true protocol code) (is_of-from protocol code)
    (lists_number protocol (number code)) (list_any-has_number protocol (number code))
    (found_code protocol code) (kind_found-from protocol (number code) (size code))
