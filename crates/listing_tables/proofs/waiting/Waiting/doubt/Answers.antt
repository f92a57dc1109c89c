use Rattle.std.proofs.Common.{◌≡◌, ◌+◌, ℕ, Bool, true, false, Option, refl, ap, ◌∙◌}
use Rattle.std.specs.Prelude.{not}
use Rattle.std.specs.Option.{unwrap_or}
use Rattle.listing_tables.specs.Waiting.{doubt_of}
use Rattle.listing_tables.specs.declared.waiting.Doubt.{Doubt}
use Rattle.listing_tables.proofs.waiting.Waiting.doubt.Goals as goal

both : (b : Bool) → b ≡ false → b ≡ true → ⊥
both b e f = cc

if_not : (a b : Bool) → a ≡ not b → a ≡ true → b ≡ false
if_not a false e f = refl
if_not a true e f = absurd (both a e f)

if_old : (a b : Bool) → a ≡ not b → a ≡ false → b ≡ true
if_old a true e f = refl
if_old a false e f = absurd (both a f e)

pub returns-then-not-is_new-clause-counted : goal.returns-then-not-is_new-clause-counted
returns-then-not-is_new-clause-counted c =
    let was = if_old c.in_ok-is_new.is_new _ c.in_ok-is_new.ensures.added (cc) in
    record {
      there = c.in_ok-is_new.ensures.updates.1;
      first = λ fresh. absurd (both _ fresh was);
      again = λ h. refl;
    }

pub returns-clause-counted : goal.returns-clause-counted
returns-clause-counted c =
    let key = c.args.send.key in
    let doubt = c.doubt_of-doubt.result in
    let fresh = if_not c.in_ok-is_new.is_new _ c.in_ok-is_new.ensures.added (cc) in
    let mid = record c.args.self.now { doubted = c.insert.new.self; doubts = c.insert-2.new.self } in
    let is : doubt_of mid key ≡ record { sends = c.in_ok-sends.sends; came = doubt.came }
    = ap (λ (o : Option Doubt). unwrap_or o (record { sends = 0; came = 0 })) c.in_ok-insert.ensures.updates.1 in
    record {
      there = c.in_ok-is_new.ensures.updates.1;
      first = λ h. is ∙ ap (λ (n : ℕ). record { sends = n; came = doubt.came }) c.in_ok-sends.ensures
          ∙ ap (λ (d : Doubt). record { sends = d.sends + 1; came = d.came }) c.doubt_of-doubt.ensures;
      again = λ was. absurd (both _ fresh was);
    }
