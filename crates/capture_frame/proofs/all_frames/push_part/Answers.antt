use Rattle.std.proofs.Common.{◌≡◌, ◌++◌, ◌∷◌, [], ℕ, Some, None, List, refl, sym, ap, subst}
use Rattle.std.proofs.lemmas.List.{take_rest}
use Rattle.capture_frame.specs.ReadOn.{Parsed}
use Rattle.capture_frame.proofs.CutLaws.{HasPushed, pushed_next, pushed_end, pushed_fails, fault_here}
use Rattle.capture_frame.proofs.all_frames.push_part.Goals as goal

pub loop-frame-preserved : goal.loop-frame-preserved
loop-frame-preserved c =
    let some : c.in-Ok-Some.field-0 ≡ Some c.in-Ok-Some.frame = cc in
    let items : c.push-in-Ok-Some.new.self.items ≡ c.loop-frame.places.items ++ c.in-Ok-Some.frame.place ∷ []
    = rw (c.if-is_err-2.ensures.negation, c.in-Ok-try_from.ensures.1) at c.push-in-Ok-Some.ensures.items in
    subst (λ (l : List ℕ). HasPushed c.args.part.now c.args.base c.args.before (Some c.in-Ok-Some.frame.sequence) c.next_frame.new.self c.args.places.now.items l)
    (sym items)
    (pushed_next c.args.part.now c.args.base c.args.before c.loop-frame.last c.loop-frame.reader c.next_frame.new.self c.args.places.now.items
    c.loop-frame.places.items c.in-Ok-Some.frame c.loop-frame.invariant (rw some at c.in-Ok-Some.ensures))

pub returns-in-Ok-None : goal.returns-in-Ok-None
returns-in-Ok-None c =
    let none : c.in-Ok-None.field-0 ≡ None = cc in
    let ended = rw none at c.in-Ok-None.ensures in
    pushed_end c.args.part.now c.args.base c.args.before c.loop-frame.last c.loop-frame.reader c.args.row.now.items c.push.new.self.items _
    c.args.places.now.items c.loop-frame.places.items c.loop-frame.invariant c.requires.kept (rw c.if-is_err.ensures.negation at c.push.ensures.items) refl
    (take_rest c.args.part.now 16) c.requires.base c.requires.fits (ap (λ (p : Parsed _). p.units) ended.0) (ap (λ (p : Parsed _). p.fault) ended.0)

pub overflow_sub-result : goal.overflow_sub-result
overflow_sub-result c =
    (fault_here c.args.part.now c.args.base c.args.before c.loop-frame.last c.loop-frame.reader c.args.places.now.items c.loop-frame.places.items
    c.loop-frame.invariant c.in-Err-next_frame.fault (ap (λ (p : Parsed _). p.fault) c.in-Err-next_frame.ensures.0)).0

pub returns-in-Err-next_frame : goal.returns-in-Err-next_frame
returns-in-Err-next_frame c =
    let failed = c.in-Err-next_frame.ensures in
    pushed_fails c.args.part.now c.args.base c.args.before c.loop-frame.last c.loop-frame.reader c.args.row.now.items c.push.new.self.items _
    c.args.places.now.items c.loop-frame.places.items c.loop-frame.invariant c.requires.kept (rw c.if-is_err.ensures.negation at c.push.ensures.items) refl
    (take_rest c.args.part.now 16) c.requires.base c.requires.fits (ap (λ (p : Parsed _). p.units) failed.0) c.in-Err-next_frame.fault
    (ap (λ (p : Parsed _). p.fault) failed.0)
