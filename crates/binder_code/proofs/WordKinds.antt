-- The kind of a code word, by the word as a whole.
use Rattle.std.proofs.Common.{◌≡◌, ◌≢◌, ◌+◌, ◌*◌, ◌^◌, ◌⊎◌, inl, inr, ℕ, true, false, Option, Some, None, Result, Ok, Err, IsSome, IfSome, IsSomeAnd, refl, sym, ap, subst, ◌∙◌, arith, eqb-true, eq-eqb}
use Rattle.std.specs.Prelude.{find}
use Rattle.std.specs.List.{AllByRecursion}
use Rattle.std.specs.Option.{option_map_or}
use Rattle.std.specs.Result.{result_unwrap_or}
use Rattle.binder_code.specs.Code.{number, letter, size, direction}
use Rattle.binder_code.specs.Commands.{Row, command_lines, return_lines, lines, row_of, has_word, word_of, direction_of, letter_of, kind_of, protocol_of_word, IsOfProtocol, is_word_of, kind_of_word}
use Rattle.binder_code.specs.declared.code.CodeFault.{CodeFault}
use Rattle.binder_code.specs.declared.protocol.Protocol.{Protocol}
use Rattle.binder_code.specs.declared.record_kind.Kind.{Kind}
use Rattle.binder_code.specs.declared.record_kind.Kind.TheVariants.{Opaque}
use Rattle.binder_code.proofs.KindOf.{maps_same, found_with, kind_of-listed}
use Rattle.binder_code.proofs.WordLaws.{kind_of-by_word}

-- the word means the kind, in the protocol that its letter names
abbrev pub Means : ℕ → Kind → Type 0
Means word kind = kind_of (protocol_of_word word) word ≡ Ok kind

-- ---- a word and the line of its kind

-- a word is its four fields side by side
fields : (word : ℕ) → word ≡ direction word * 2 ^ 30 + size word * 2 ^ 16 + letter word * 2 ^ 8 + number word
fields word = omega arith

from_fields : (row : Row) (protocol : Protocol) (word : ℕ) → IsOfProtocol protocol word → row.protocol ≡ protocol → row.number ≡ number word → row.size ≡ size word
    → word ≡ word_of row
from_fields row protocol word of same numbered sized =
    let letters : letter_of row.protocol ≡ letter word = ap letter_of same ∙ sym of.right_letter in
    let directions : direction_of row.protocol row.size ≡ direction word
    = ap (λ (p : Protocol). direction_of p row.size) same ∙ ap (direction_of protocol) sized ∙ sym of.right_direction in
    let whole = fields word in
    omega (arith, letters, directions, numbered, sized, whole)

line_word : (line : Option Row) (protocol : Protocol) (word : ℕ) → IfSome line (λ row. word_of row ≡ row.word) → IsOfProtocol protocol word
    → IsSomeAnd line (λ row. (row.protocol ≡ protocol) × (row.number ≡ number word) × (row.size ≡ size word))
    → option_map_or (has_word word) line false ≡ true
line_word None protocol word own of parts = absurd parts
line_word (Some row) protocol word own of parts = eq-eqb word row.word (from_fields row protocol word of parts.0 parts.1 parts.2 ∙ own)

computed : (kind : Kind) → IfSome (row_of kind) (λ row. word_of row ≡ row.word)
unfolding command_lines return_lines
computed Opaque = tt
computed _ = refl

has_line : (kind : Kind) → kind ≢ Opaque → IsSome (row_of kind)
unfolding command_lines return_lines
has_line Opaque other = absurd (other refl)
has_line _ other = refl

-- a word that means a listed kind is the kind's
pub word_of_meant : (kind : Kind) (word : ℕ) → kind ≢ Opaque → Means word kind → is_word_of kind word ≡ true
word_of_meant kind word other means =
    let both = (kind_of-listed (protocol_of_word word) word kind (has_line kind other)).0 means in
    line_word (row_of kind) (protocol_of_word word) word (computed kind) both.0 both.1

-- ---- the kind of a word

pub opaque_or_not : (kind : Kind) → (kind ≡ Opaque) ⊎ (kind ≢ Opaque)
opaque_or_not Opaque = inl refl
opaque_or_not _ = inr (λ same. absurd cc)

-- the word of each listed kind is that of the kind alone
own_word : (kind : Kind) → IfSome (row_of kind) (λ row. kind_of_word row.word ≡ kind)
unfolding command_lines return_lines
own_word Opaque = tt
own_word _ = refl

line_kind : (line : Option Row) (kind : Kind) (word : ℕ) → IfSome line (λ row. kind_of_word row.word ≡ kind)
    → option_map_or (has_word word) line false ≡ true → kind_of_word word ≡ kind
line_kind None kind word own is = let none : ⊥ = cc in absurd none
line_kind (Some row) kind word own is = subst (λ (w : ℕ). kind_of_word w ≡ kind) (sym (eqb-true word row.word is)) own

-- the word of each line means its kind
lines_meant : AllByRecursion (λ row. kind_of (protocol_of_word row.word) row.word ≡ Ok row.kind) lines
unfolding command_lines return_lines
lines_meant = maps_same (λ row. kind_of (protocol_of_word row.word) row.word) (λ row. Ok row.kind) lines refl

-- what the word means in the protocol that its letter names, or the kind of opaque records if it means nothing there
pub kind_by_word : (word : ℕ) → result_unwrap_or (kind_of (protocol_of_word word) word) Opaque ≡ kind_of_word word
kind_by_word word =
    let meaning = kind_of (protocol_of_word word) word in
    elim (find (has_word word) lines) as (λ o. (find (has_word word) lines ≡ o) → result_unwrap_or meaning Opaque ≡ option_map_or (λ row. row.kind) o Opaque) [
      | Some row ↦ λ is.
          let with = found_with (has_word word) (λ row. Means row.word row.kind) lines lines_meant row is in
          let means = subst (λ (w : ℕ). Means w row.kind) (sym (eqb-true word row.word with.0)) with.1 in
          ap (λ (r : Result Kind CodeFault). result_unwrap_or r Opaque) means
      | None ↦ λ is.
          elim meaning as (λ r. (meaning ≡ r) → result_unwrap_or r Opaque ≡ Opaque) [
            | Err fault ↦ λ means. refl
            | Ok kind ↦ λ means. elim (opaque_or_not kind) [
              | inl same ↦ same
              | inr other ↦
                  let own = line_kind (row_of kind) kind word (own_word kind) (word_of_meant kind word other means) in
                  sym own ∙ ap (λ (o : Option Row). option_map_or (λ row. row.kind) o Opaque) is
            ]
          ] refl
    ] refl

pub kind_of_meant : (word : ℕ) (kind : Kind) → Means word kind → kind_of_word word ≡ kind
kind_of_meant word kind means = sym (kind_by_word word) ∙ ap (λ (r : Result Kind CodeFault). result_unwrap_or r Opaque) means

-- so the word says alone what it means in a frame of its protocol
pub kind_of_word-is : (protocol : Protocol) (word : ℕ) (kind : Kind) → kind_of protocol word ≡ Ok kind → kind_of_word word ≡ kind
kind_of_word-is protocol word kind means = kind_of_meant word kind (kind_of-by_word protocol word kind means)
