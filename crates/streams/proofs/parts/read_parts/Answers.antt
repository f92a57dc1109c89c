use Rattle.std.proofs.Common.{◌≡◌, ◌∷◌, ◌++◌, [], length, map, ap, sym, ◌∙◌, subst, append_assoc, append-nil, arith, rules}
use Rattle.std.specs.List.{AllZip, sum_by}
use Rattle.std.proofs.lemmas.List.{map-append}
use Rattle.std.proofs.lemmas.List.Sums.{sum_by_push}
use Rattle.std.proofs.lemmas.Grind.{common_steps}
use Rattle.std.proofs.lemmas.Result.{err_from_is_err_and}
use Rattle.streams.specs.Parts.{IsAllOf}
use Rattle.streams.proofs.PartLaws.{read_next, past_limit}
use Rattle.streams.proofs.parts.read_parts.Goals as goal

pub loop-reader-init : goal.loop-reader-init
loop-reader-init g c = rw c.new-parts.ensures.items (tt, tt, search rules, tt, omega arith)

pub returns-in_err-part-clause-too_large : goal.returns-in_err-part-clause-too_large
returns-in_err-part-clause-too_large g c =
    let error = err_from_is_err_and c.from_residual.result c.from_residual.ensures.1 in
    let step : c.loop-reader.reader-iterator.rest.items ≡ c.in-Some.reader ∷ c.next.new.self.rest.items = search rules in
    let inv = c.loop-reader.invariant in
    let all : c.loop-reader.yielded ++ c.in-Some.reader ∷ c.next.new.self.rest.items ≡ c.args.readers.items = rw step at inv.2 in
    rw (error.1, error.2) (λ is known same.
    past_limit g.R.Read.remaining _ known c.loop-reader.yielded c.in-Some.reader c.next.new.self.rest.items
    (ap (map g.R.Read.remaining) all ∙ same) inv.3 c.args.limit c.loop-reader.left inv.4 (c.in_err-part.ensures.too_large (cc)))

pub loop-reader-preserved : goal.loop-reader-preserved
loop-reader-preserved g c =
    let step : c.loop-reader.reader-iterator.rest.items ≡ c.in-Some.reader ∷ c.next.new.self.rest.items = search rules in
    let inv = c.loop-reader.invariant in
    let items : c.push.new.self.items ≡ c.loop-reader.parts.items ++ c.in_ok-part.part ∷ [] = search rules in
    let lists = ap (map (λ part. part.items)) items ∙ map-append (λ part. part.items) c.loop-reader.parts.items (c.in_ok-part.part ∷ []) in
    let sum = ap (sum_by length) lists ∙ sum_by_push length (map (λ part. part.items) c.loop-reader.parts.items) c.in_ok-part.part.items in
    let took = c.in_ok-part.ensures.within in
    let long = c.len-left.ensures in (
      tt,
      tt,
      append_assoc c.loop-reader.yielded (c.in-Some.reader ∷ []) c.next.new.self.rest.items
          ∙ ap (λ t. c.loop-reader.yielded ++ t) (sym step) ∙ inv.2,
      subst (λ l. AllZip IsAllOf (map g.R.Read.remaining (c.loop-reader.yielded ++ c.in-Some.reader ∷ [])) (map (λ part. part.items) l)) (sym items)
          (read_next g.R.Read.remaining (λ part. part.items) c.loop-reader.yielded c.loop-reader.parts.items c.in-Some.reader c.in_ok-part.part inv.3 c.in_ok-part.ensures.bytes),
      omega (arith, sum, took, long, inv.4),
    )

pub returns-clause-read : goal.returns-clause-read
returns-clause-read g c =
    let inv = c.loop-reader.invariant in
    let none : c.loop-reader.reader-iterator.rest.items ≡ [] = grind (arith, common_steps) in
    let all : c.loop-reader.yielded ≡ c.args.readers.items = sym (append-nil c.loop-reader.yielded) ∙ ap (λ t. c.loop-reader.yielded ++ t) (sym none) ∙ inv.2 in
    (rw all at inv.3, omega (arith, inv.4))
