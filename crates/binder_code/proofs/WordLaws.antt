-- A good code word names its protocol.
use Rattle.std.proofs.Common.{◌≡◌, ℕ, ◌∙◌, Bool, true, false, cond, eqb, ap, refl, arith, Result, Ok, Err}
use Rattle.std.proofs.lemmas.Bool.{and_parts, eqb-true, eq-eqb, ne_eqb}
use Rattle.binder_code.specs.Code.{number, letter, size, direction}
use Rattle.binder_code.specs.declared.protocol.Protocol.{Protocol}
use Rattle.binder_code.specs.declared.protocol.Protocol.TheVariants.{Command, Return}
use Rattle.binder_code.specs.declared.code.CodeFault.TheVariants.{Direction}
use Rattle.binder_code.specs.declared.record_kind.Kind.{Kind}
use Rattle.binder_code.specs.Commands.{kind_of, listing_of, is_of, letter_of, direction_of, protocol_of_word}

passed : {A E : Type 0} (test : Bool) (listed : Result A E) (fault : E) (x : A) → cond test listed (Err fault) ≡ Ok x → test ≡ true
passed true listed fault x e = refl
passed false listed fault x e = absurd cc

protocol_from_letter : (protocol : Protocol) (word : ℕ) → letter word ≡ letter_of protocol → protocol_of_word word ≡ protocol
protocol_from_letter Command word e = rw (eq-eqb (letter word) 0x63 e) refl
protocol_from_letter Return word e =
    let other : letter word ≡ 0x63 → ⊥ = λ c. absurd (omega (arith, e, c)) in
    rw (ne_eqb (letter word) 0x63 other) refl

-- it is the one under which the word means something
pub protocol_of_word-is : (protocol : Protocol) (word : ℕ) (kind : Kind) → kind_of protocol word ≡ Ok kind → protocol_of_word word ≡ protocol
protocol_of_word-is protocol word kind e =
    let is = passed (is_of protocol word) (listing_of protocol (number word) (size word)) Direction kind e in
    let parts = and_parts (eqb (letter word) (letter_of protocol)) (eqb (direction word) (direction_of protocol (size word))) is in
    protocol_from_letter protocol word (eqb-true (letter word) (letter_of protocol) parts.0)

-- so the word means the same by itself
pub kind_of-by_word : (protocol : Protocol) (word : ℕ) (kind : Kind) → kind_of protocol word ≡ Ok kind → kind_of (protocol_of_word word) word ≡ Ok kind
kind_of-by_word protocol word kind e = ap (λ (p : Protocol). kind_of p word) (protocol_of_word-is protocol word kind e) ∙ e
