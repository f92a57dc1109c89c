use Rattle.std.proofs.Common.{◌≡◌, ◌∷◌, ◌++◌, [], cond, Some, refl, sym, ap, ◌∙◌, append-nil}
use Rattle.std.specs.Option.{option_or}
use Rattle.pending_ledger.proofs.SumLaws.{stray_added}
use Rattle.pending_ledger.specs.declared.strays.Strays.{Strays}
use Rattle.pending_ledger.specs.KeyEvents.{unmet_places}
use Rattle.pending_ledger.proofs.strays.StraysSummary.add.Goals as goal
use Rattle.pending_ledger.proofs.strays.StraysSummary.add.Goals.{then-is_unmet+in_ok-push, else-is_unmet}

pub returns : goal.returns
returns c = λ items sums fits.
    let places : c.if-is_unmet.self.places.items ≡ c.args.self.now.places.items ++ unmet_places c.args.self.now.last (c.args.item ∷ [])
    = elim c.if-is_unmet.branch [
      | then-is_unmet+in_ok-push w ↦
          ap (λ (s : Strays). s.places.items) w.self-is ∙ w.in_ok-push.ensures.items
          ∙ ap (λ b. c.args.self.now.places.items ++ cond b (c.args.item.place ∷ []) []) w.if-is_unmet.ensures
      | else-is_unmet w ↦
          ap (λ (s : Strays). s.places.items) w.self-is ∙ sym (append-nil c.args.self.now.places.items)
          ∙ ap (λ b. c.args.self.now.places.items ++ cond b (c.args.item.place ∷ []) []) w.if-is_unmet.ensures
    ] in
    let first : c.if-is_unmet.self.first ≡ c.args.self.now.first
    = elim c.if-is_unmet.branch [
      | then-is_unmet+in_ok-push w ↦ ap (λ (s : Strays). s.first) w.self-is
      | else-is_unmet w ↦ ap (λ (s : Strays). s.first) w.self-is
    ] in
    stray_added c.args.self.now (record { places = c.if-is_unmet.self.places; first = c.or-self.result; last = Some c.args.item.change }) items c.args.item
    places (c.or-self.ensures ∙ ap (λ o. option_or o (Some c.args.item.change)) first) refl sums
