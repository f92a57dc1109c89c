use Rattle.std.proofs.Common.{◌≡◌, ◌+◌, ◌||◌, None, suc, take, sym, ap, ap₂, subst, ◌∙◌, arith}
use Rattle.std.specs.Prelude.{find, option_map}
use Rattle.std.specs.List.{list_any}
use Rattle.std.proofs.lemmas.List.Folds.{list_any_more}
use Rattle.binder_code.specs.Code.{number, size}
use Rattle.binder_code.specs.Commands.{judged}
use Rattle.binder_code.specs.Lines.{is_numbered, is_sized}
use Rattle.binder_code.proofs.LinesOfKinds.{found_next, missed_next}
use Rattle.binder_code.proofs.judge.listing_in.Goals as goal

pub returns-then-has_size : goal.returns-then-has_size
returns-then-has_size c =
    let lines = c.args.lines.now in
    let n = number c.args.code.0 in
    sym (ap (λ o. judged (option_map (λ line. line.kind) o) (list_any (is_numbered n) lines))
    (found_next (is_sized n (size c.args.code.0)) lines c.loop-line.line-index _ c.loop-line.invariant.missed c.loop-line-test.true
    (sym c.has_size.ensures ∙ c.if-has_size.true)))

pub loop-line-preserved : goal.loop-line-preserved
loop-line-preserved c =
    let lines = c.args.lines.now in
    let i = c.loop-line.line-index in
    let n = number c.args.code.0 in
    let test = is_sized n (size c.args.code.0) in
    let next : suc i ≡ i + 1 = omega arith in
    record {
      missed = subst (λ k. find test (take k lines) ≡ None) next
          (missed_next test lines i _ c.loop-line.invariant.missed c.loop-line-test.true (sym c.has_size.ensures ∙ c.if-has_size.false));
      listed = ap₂ ◌||◌ c.loop-line.invariant.listed c.has_number-is_listed.ensures ∙ sym (list_any_more (is_numbered n) lines i _ c.loop-line-test.true);
    }
