use Rattle.std.proofs.Common.{◌≡◌, ◌<◌, ap, sym, ◌∙◌, subst, refl, arith, length, slice_get, Some, length-set}
use Rattle.std.proofs.lemmas.Option.{slice_get-get_or, slice_get_within}
use Rattle.claim_board.specs.declared.job.JobState.TheVariants.{Held}
use Rattle.claim_board.proofs.Faults.{have_set, look_faulty, look_made_at}
use Rattle.claim_board.proofs.board.Board.look.Goals as goal

pub invariant_of-self : goal.invariant_of-self
invariant_of-self c =
    let i = c.self.invariant in
    let at = c.in-Some.i in
    let found : slice_get c.self.inside.states.items at ≡ Some (Held c.args.w) =
    subst (λ l. slice_get l at ≡ Some (Held c.args.w)) c.as_slice.ensures.value c.in-Some.ensures.found in
    let l = length-set c.self.inside.states.items at c.look_at.result in
    let lt : at < length c.self.inside.jobs.items = let w = slice_get_within c.self.inside.states.items at (Held c.args.w) found in
    let e = i.0 in
    omega arith in (
      (let e = i.0 in omega arith),
      i.1,
      i.2,
      have_set c.self.inside.jobs.items c.self.inside.states.items at c.look_at.result i.3
          (λ w e.
          let f = look_faulty c.index.result.now c.self.inside.least c.args.w w (sym c.look_at.ensures ∙ e) in
          (c.index.result.now, f.0, slice_get-get_or c.self.inside.jobs.items at c.index.result.now lt ∙ ap (λ q. Some q) (sym c.index.ensures), f.1)),
    )

pub returns-clause-made : goal.returns-clause-made
returns-clause-made c =
    let i = c.self.invariant in
    let at = c.in-Some.i in
    let found : slice_get c.self.inside.states.items at ≡ Some (Held c.args.w) =
    subst (λ l. slice_get l at ≡ Some (Held c.args.w)) c.as_slice.ensures.value c.in-Some.ensures.found in
    let lt : at < length c.self.inside.jobs.items = let w = slice_get_within c.self.inside.states.items at (Held c.args.w) found in
    let e = i.0 in
    omega arith in
    let job : slice_get c.self.inside.jobs.items at ≡ Some c.index.result.now = slice_get-get_or c.self.inside.jobs.items at c.index.result.now lt
    ∙ ap (λ q. Some q) (sym c.index.ensures) in
    look_made_at _ _ _ c.self.view_is at c.args.w c.index.result.now c.look_at.result job found c.look_at.ensures refl
