use Rattle.std.proofs.Common.{◌≡◌, [], ◌∷◌, ◌++◌, All, sym, subst, arith, rules}
use Rattle.std.proofs.lemmas.Grind.{common_steps}
use Rattle.std.proofs.lemmas.List.Elements.{All-map, All-nil, All-push}
use Rattle.capture_frame.specs.Units.{IsBytes}
use Rattle.audit_run.proofs.part_runs.slices_of.Goals as goal

pub loop-part-init : goal.loop-part-init
loop-part-init c = (search rules, rw c.requires.empty (All-nil (λ slice. IsBytes slice.now)), search rules, c.requires.room)

pub loop-part-preserved : goal.loop-part-preserved
loop-part-preserved c =
    let before = c.loop-part.slices.items in
    let bytes = c.as_bytes.ensures.bytes in
    let same = c.as_bytes.ensures.same in
    let items : c.push_reserved.new.self.items ≡ before ++ c.as_bytes.result ∷ [] = c.push_reserved.ensures.items in (
      grind (arith, common_steps),
      subst (All (λ slice. IsBytes slice.now)) (sym items)
          (All-push (λ slice. IsBytes slice.now) before c.as_bytes.result c.loop-part.invariant.1 (subst IsBytes (sym same) bytes)),
      omega arith,
      omega arith,
    )

pub returns-clause-bytes : goal.returns-clause-bytes
returns-clause-bytes c = All-map IsBytes (λ slice. slice.now) c.loop-part.slices.items c.loop-part.invariant.1
