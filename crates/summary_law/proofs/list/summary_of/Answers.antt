use Rattle.std.proofs.lemmas.Grind.{common_steps}
use Rattle.std.proofs.Common.{◌≡◌, ◌+◌, ◌∷◌, ◌++◌, [], take, drop, sym, subst, ap, ◌∙◌, arith}
use Rattle.std.proofs.lemmas.List.{take_more, take-append-drop}
use Rattle.summary_law.proofs.list.summary_of.Goals as goal

pub add-requires : goal.add-requires
add-requires g c =
    let items = c.args.items.now in
    let i = c.loop-item.item-index in
    let more : take (i + 1) items ≡ take i items ++ c.item-item.result ∷ []
    = take_more items i c.item-item.result (omega arith) ∙ ap (λ x. take i items ++ x ∷ []) (sym c.item-item.is) in
    let fits = (g.met.S.Summary.fits_halves (take (i + 1) items) (drop (i + 1) items)
    (subst g.S.Summary.fits (sym (take-append-drop (i + 1) items)) c.requires)).0 in
    (take i items, c.loop-item.invariant, subst g.S.Summary.fits more fits)

pub loop-item-preserved : goal.loop-item-preserved
loop-item-preserved g c =
    let items = c.args.items.now in
    let i = c.loop-item.item-index in
    let more : take (i + 1) items ≡ take i items ++ c.item-item.result ∷ []
    = take_more items i c.item-item.result (omega arith) ∙ ap (λ x. take i items ++ x ∷ []) (sym c.item-item.is) in
    let fits = (g.met.S.Summary.fits_halves (take (i + 1) items) (drop (i + 1) items)
    (subst g.S.Summary.fits (sym (take-append-drop (i + 1) items)) c.requires)).0 in
    subst (g.S.Summary.sums c.add.new.self) (sym more) (c.in_ok-add.ensures (take i items) c.loop-item.invariant (subst g.S.Summary.fits more fits))

pub returns : goal.returns
returns c = grind (arith, common_steps)
