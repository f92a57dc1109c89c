-- Which part a place of the joined capture is in.
use Rattle.std.proofs.Common.{◌≡◌, inl, inr, ℕ, ◌+◌, ◌<◌, ◌≤◌, List, [], ◌∷◌, length, drop, map, Bor, get_or, refl, sym, ap, subst, ◌∙◌, arith}
use Rattle.std.proofs.lemmas.Bool.{lt-ltb, le-ltb}
use Rattle.std.proofs.lemmas.List.{at_drop_more}
use Rattle.capture_frame.specs.declared.fault.Fault.{Fault}
use Rattle.capture_frame.specs.declared.fault.PartFault.{PartFault}
use Rattle.capture_frame.specs.Parts.{one_part_on}
use Rattle.capture_frame.specs.Tests.{fault_at}
use Rattle.audit_judge.specs.Parts.{after_part, in_part, IsInPart}

-- the bytes of parts
abbrev pub bytes_of : List (Bor (List ℕ)) → List (List ℕ)
bytes_of parts = map (λ (part : Bor (List ℕ)). part.now) parts

pub in_this : (part : List ℕ) (parts : List (List ℕ)) (fault : Fault) → fault.place < length part
    → in_part (part ∷ parts) fault ≡ record { part = 1; fault = fault }
in_this part parts fault inside = rw (lt-ltb fault.place (length part) inside) refl

pub in_later : (part : List ℕ) (parts : List (List ℕ)) (fault : Fault) → length part ≤ fault.place
    → in_part (part ∷ parts) fault ≡ one_part_on (in_part parts (fault_at fault.kind (after_part part fault.place)))
in_later part parts fault above = rw (le-ltb fault.place (length part) above) refl

-- the fault with n more parts before it
abbrev pub parts_on : ℕ → PartFault → PartFault
parts_on n found = record { part = n + found.part; fault = found.fault }

-- the first i parts do not have the fault, which is at this place of the others
pub record IsLeft (parts : List (Bor (List ℕ))) (i : ℕ) (fault : Fault) (left : ℕ) : Type 0 where
  pub found : in_part (bytes_of parts) fault ≡ parts_on i (in_part (bytes_of (drop i parts)) (fault_at fault.kind left))
  pub there : IsInPart (bytes_of (drop i parts)) left

pub none_passed : (parts : List (Bor (List ℕ))) (fault : Fault) → IsInPart (bytes_of parts) fault.place → IsLeft parts 0 fault fault.place
none_passed parts fault there = record { found = ap (λ (n : ℕ). record { part = n; fault = (in_part (bytes_of parts) fault).fault }) (omega arith); there = there }

in_others : (part : List ℕ) (parts : List (List ℕ)) (left : ℕ) → length part ≤ left → IsInPart (part ∷ parts) left → IsInPart parts (after_part part left)
in_others part parts left above (inl here) = absurd (omega (arith, above, here))
in_others part parts left above (inr later) = later

one_more : (i : ℕ) (found : PartFault) → parts_on i (one_part_on found) ≡ parts_on (i + 1) found
one_more i found = ap (λ (n : ℕ). record { part = n; fault = found.fault }) (omega arith)

-- what is left after one more part, which does not have the place
pub left_next : (parts : List (Bor (List ℕ))) (i : ℕ) (d : Bor (List ℕ)) (fault : Fault) (left : ℕ) → i < length parts → IsLeft parts i fault left
    → length (get_or parts i d).now ≤ left → IsLeft parts (i + 1) fault (after_part (get_or parts i d).now left)
left_next parts i d fault left within at above =
    let part = (get_or parts i d).now in
    let others = bytes_of (drop (i + 1) parts) in
    let split : bytes_of (drop i parts) ≡ part ∷ others = at_drop_more bytes_of parts i d within in
    record {
      found = at.found
          ∙ ap (λ (ps : List (List ℕ)). parts_on i (in_part ps (fault_at fault.kind left))) split
          ∙ ap (parts_on i) (in_later part others (fault_at fault.kind left) above)
          ∙ one_more i (in_part others (fault_at fault.kind (after_part part left)));
      there = in_others part others left above (subst (λ (ps : List (List ℕ)). IsInPart ps left) split at.there);
    }

-- the part that has it
pub part_found : (parts : List (Bor (List ℕ))) (i : ℕ) (d : Bor (List ℕ)) (fault : Fault) (left : ℕ) → i < length parts → IsLeft parts i fault left
    → left < length (get_or parts i d).now
    → record { part = i + 1; fault = fault_at fault.kind left } ≡ in_part (bytes_of parts) fault
part_found parts i d fault left within at inside =
    let part = (get_or parts i d).now in
    let split : bytes_of (drop i parts) ≡ part ∷ bytes_of (drop (i + 1) parts) = at_drop_more bytes_of parts i d within in
    sym (at.found
    ∙ ap (λ (ps : List (List ℕ)). parts_on i (in_part ps (fault_at fault.kind left))) split
    ∙ ap (parts_on i) (in_this part (bytes_of (drop (i + 1) parts)) (fault_at fault.kind left) inside))

-- one of the parts has it
pub some_left : (parts : List (Bor (List ℕ))) (i : ℕ) (fault : Fault) (left : ℕ) → drop i parts ≡ [] → IsLeft parts i fault left → ⊥
some_left parts i fault left none at = subst (λ (ps : List (Bor (List ℕ))). IsInPart (bytes_of ps) left) none at.there
