use Rattle.std.proofs.Common.{◌++◌, ◌∷◌, [], List, map, sym, ap, ◌∙◌, append_assoc}
use Rattle.std.proofs.lemmas.List.{map-append}
use Rattle.std.specs.Map.Iter.{deref}
use Rattle.listing_tables.specs.Waiting.{look_at}
use Rattle.listing_tables.specs.declared.waiting.Look.{Look}
use Rattle.listing_tables.proofs.waiting.look_in.Goals as goal

pub loop-send-preserved : goal.loop-send-preserved
loop-send-preserved c =
    let first = c.args.looked.now.items in
    let look = look_at c.args.guessed in
    let so_far = map deref c.loop-send.yielded in
    let one = look (deref c.in-Some.send) in
    c.in_ok-push.ensures.items ∙ ap (λ (l : List Look). l ++ one ∷ []) c.loop-send.invariant ∙ append_assoc first (map look so_far) (one ∷ [])
    ∙ ap (λ (l : List Look). first ++ l)
    (sym (ap (map look) (map-append deref c.loop-send.yielded (c.in-Some.send ∷ [])) ∙ map-append look so_far (deref c.in-Some.send ∷ [])))
