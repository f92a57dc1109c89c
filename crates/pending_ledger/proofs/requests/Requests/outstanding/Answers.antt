use Rattle.std.proofs.Common.{◌≡◌, ℕ, ◌∷◌, ◌++◌, [], All, IsPermutation, nat_cmp, sym, ap, subst, ◌∙◌, append_assoc, append-nil, rules}
use Rattle.std.proofs.lemmas.List.Elements.{All-cons, All-nil}
use Rattle.std.specs.BTreeMap.{IsOrdered}
use Rattle.pending_ledger.proofs.RequestLaws.{HasOrder, standing_sorted}
use Rattle.pending_ledger.specs.declared.cookie.CookieRequests.{CookieRequests}
use Rattle.pending_ledger.specs.Sums.{gather, standing_places}
use Rattle.pending_ledger.proofs.requests.Requests.outstanding.Goals as goal

pub loop-cookie-preserved : goal.loop-cookie-preserved
loop-cookie-preserved c =
    let entry : ℕ × CookieRequests = (c.in-Some._cookie.now, c.in-Some.requests.now) in
    let after = c.next.new.self in
    let places = c.loop-cookie.places.items in
    let rest : c.loop-cookie._cookie-iterator ≡ entry ∷ after = search rules in
    record {
      places = ap (λ t. t ++ gather standing_places after) c.in_ok-push_standing.ensures.items
          ∙ append_assoc places (standing_places c.in-Some.requests.now) (gather standing_places after)
          ∙ sym (ap (λ es. places ++ gather standing_places es) rest) ∙ c.loop-cookie.invariant.places;
      ordered = λ all. c.loop-cookie.invariant.ordered (subst (All HasOrder) (sym rest) (All-cons HasOrder entry after c.push_standing.ensures.ordered all));
    }

pub returns : goal.returns
returns c = λ items sums.
    let entries = c.args.self.now.cookies in
    let ordered : IsOrdered nat_cmp entries = c.into_iter-cookie-iterator.ensures.into_iter_gives.1 in
    let rest : c.loop-cookie._cookie-iterator ≡ [] = search rules in
    let each : All HasOrder entries.entries = c.loop-cookie.invariant.ordered (subst (All HasOrder) (sym rest) (All-nil HasOrder)) in
    let whole : c.loop-cookie.places.items ≡ gather standing_places entries.entries
    = sym (append-nil c.loop-cookie.places.items) ∙ sym (ap (λ es. c.loop-cookie.places.items ++ gather standing_places es) rest)
    ∙ c.loop-cookie.invariant.places in
    standing_sorted c.args.self.now ordered each items sums c.sort_unstable.new.self.items
    (subst (λ ps. IsPermutation ps c.sort_unstable.new.self.items) whole c.sort_unstable.ensures.permutation) c.sort_unstable.ensures.sorted
