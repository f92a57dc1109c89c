use Rattle.std.proofs.Common.{◌≡◌, ◌∷◌, [], List, length, refl, sym, ◌∙◌, append_assoc, append-nil, arith, rules}
use Rattle.std.specs.Vec.Iter.{into_iter_items}
use Rattle.audit_program.proofs.status.list_of.Goals as goal

pub loop-word-preserved : goal.loop-word-preserved
loop-word-preserved c =
    let at = c.loop-word in
    let steps : into_iter_items at.word-iterator ≡ c.in-Some.word ∷ into_iter_items c.next.new.self = c.in-Some.ensures.steps.0 in
    (search rules, append_assoc at.yielded (c.in-Some.word ∷ []) _ ∙ rw (← steps) at.invariant.1)

nothing_left : {A : Type 0} (l : List A) → length l ≡ 0 → l ≡ []
nothing_left [] h = refl
nothing_left (x ∷ xs) h = absurd (omega arith)

pub returns : goal.returns
returns c =
    let at = c.loop-word in
    let empty : into_iter_items at.word-iterator ≡ [] = nothing_left _ (sym at.word-iterator.rest.ok.0 ∙ c.in-None.ensures.steps.0) in
    at.invariant.0 ∙ sym (append-nil at.yielded) ∙ rw empty at at.invariant.1
