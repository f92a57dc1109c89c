use Rattle.std.proofs.Common.{◌≡◌, ◌+◌, ℕ, Option, ap, subst}
use Rattle.std.specs.Option.{unwrap_or}
use Rattle.listing_tables.specs.Doubts.{CountsLeft}
use Rattle.listing_tables.specs.Waiting.{doubt_of}
use Rattle.listing_tables.specs.declared.waiting.Doubt.{Doubt}
use Rattle.listing_tables.proofs.DoubtLaws.{counted_as}
use Rattle.listing_tables.proofs.waiting.Waiting.came.Goals as goal

pub returns-clause-counted : goal.returns-clause-counted
returns-clause-counted c =
    let key = c.args.key in
    let doubt = c.doubt_of-doubt.result in
    let came = c.in_ok-came.came in
    let mid = record c.args.self.now { doubts = c.insert.new.self } in
    let is : doubt_of mid key ≡ record { sends = doubt.sends; came = came }
    = ap (λ (o : Option Doubt). unwrap_or o (record { sends = 0; came = 0 })) c.in_ok-insert.ensures.updates.1 in
    let counts = counted_as mid c.forget.new.self key doubt.sends came is c.forget.ensures.counted in
    subst (λ (d : Doubt). CountsLeft d.sends (d.came + 1) key c.forget.new.self) c.doubt_of-doubt.ensures
    (subst (λ (n : ℕ). CountsLeft doubt.sends n key c.forget.new.self) c.in_ok-came.ensures counts)
