use Rattle.std.proofs.Common.{◌≡◌, ℕ, List, [], ◌∷◌, ◌++◌, Vec, Global, ap, subst, ◌∙◌, rules}
use Rattle.std.proofs.lemmas.List.{map-append}
use Rattle.capture_frame.specs.declared.process.Process.{Process}
use Rattle.event_core.specs.Events.{EventRead}
use Rattle.process_ledgers.specs.EachProcess.{AreLedgersOf}
use Rattle.summary_law.specs.declared.nothing.Nothing.{Nothing}
use Rattle.audit_findings.specs.Places.{places_in}
use Rattle.audit_findings.proofs.HandleRows.{lists_of}
use Rattle.audit_findings.proofs.TurnLaws.{Listing, all_listed, listing_goes_on, listing_starts}
use Rattle.audit_findings.proofs.places.lists_of.Goals as goal

pub loop-process-init : goal.loop-process-init
loop-process-init g c =
    listing_starts (places_in g.L.ListsPlaces.test) c.args.processes c.into_iter-process-iterator.result
    c.into_iter-process-iterator.ensures.into_iter_gives.0 (lists_of c.new-lists.result.items) (ap lists_of c.new-lists.ensures.items)

pub loop-process-preserved : goal.loop-process-preserved
loop-process-preserved g c =
    let of = places_in g.L.ListsPlaces.test in
    let e : Process × Nothing = (c.in-Some.process.now, c.in-Some._nothing.now) in
    let own = c.in_ok-own.own in
    let lists = lists_of c.loop-process.lists.items in
    let pushed : c.push.new.self.items ≡ c.loop-process.lists.items ++ own ∷ [] = search rules in
    listing_goes_on of c.args.processes c.next.new.self e lists own.items (lists_of c.push.new.self.items)
    (subst (λ (t : List (Process × Nothing)). Listing of c.args.processes t lists) c.in-Some.ensures.steps c.loop-process.invariant)
    (subst (λ ledgers. (events : List EventRead) → AreLedgersOf ledgers events e.0 → own.items ≡ of events e.0) c.ledgers.ensures
    (λ events is. c.in_ok-own.ensures events e.0 is))
    (ap lists_of pushed ∙ map-append (λ (list : Vec ℕ Global). list.items) c.loop-process.lists.items (own ∷ []))

pub returns : goal.returns
returns g c =
    all_listed (places_in g.L.ListsPlaces.test) c.args.processes c.loop-process.process-iterator (search rules)
    (lists_of c.loop-process.lists.items) c.loop-process.invariant
