use Rattle.std.proofs.Common.{◌≡◌, [], ◌∷◌, ◌++◌, drop, flat_map, sym, ap, ap₂, ◌∙◌, append-nil, arith, rules}
use Rattle.std.proofs.lemmas.Grind.{common_steps}
use Rattle.std.proofs.lemmas.List.{drop_more}
use Rattle.audit_run.proofs.StretchRunLaws.{joined_is}
use Rattle.audit_run.proofs.stretch_runs.joined.Goals as goal

pub returns-clause-joined : goal.returns-clause-joined
returns-clause-joined c version good =
    let first = c.remove-capture.result in
    let others = c.remove-capture.new.self.items in
    let inv = c.loop-part.invariant in
    let removed = c.remove-capture.ensures in
    let parts : c.args.parts.items ≡ first ∷ others =
    drop_more c.args.parts.items 0 first (omega (arith, c.requires, c.args.parts.ok.0)) ∙ ap₂ (λ x xs. x ∷ xs) (sym removed.value) (sym removed.by_index.2) in
    let none : c.loop-part.part-iterator.rest.items ≡ [] = grind (arith, common_steps) in
    let given : c.into_iter-part-iterator.result.rest.items ≡ others = search rules in
    let all : c.loop-part.yielded ≡ others = sym (append-nil c.loop-part.yielded) ∙ ap (λ t. c.loop-part.yielded ++ t) (sym none) ∙ inv.2 ∙ given in
    joined_is version c.args.parts.items first others c.loop-part.capture.items parts (inv.3 ∙ ap (λ list. first.items ++ flat_map (λ part. drop 16 part.items) list) all) good
