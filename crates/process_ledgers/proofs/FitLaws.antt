-- What is picked from few events whose places rise can be summarised.
use Rattle.std.proofs.Common.{ℕ, List, Option, arith, filter_map}
use Rattle.event_core.specs.Events.{EventRead}
use Rattle.event_core.specs.Reading.{event_text}
use Rattle.event_core.specs.declared.event.Event.{Event}
use Rattle.summary_law.specs.Fits.{IsShort, IsPlaced}
use Rattle.summary_law.proofs.ReadLaws.{length-read, rising_read}
use Rattle.process_ledgers.specs.Items.{KeepsPlace}
use Rattle.process_ledgers.specs.ProcessLedgers.{ArePlaced, event_place, picked_by}

pub few_by : {I : Type 0} (read : EventRead → Option I) (events : List Event) → ArePlaced events → IsShort (filter_map (picked_by read) events)
few_by read events placed =
    let fewer = length-read (picked_by read) events in
    let short = placed.0 in
    omega (arith, fewer, short)

pub placed_by : {I : Type 0} (place : I → ℕ) (read : EventRead → Option I) → KeepsPlace place read → (events : List Event) → ArePlaced events
    → IsPlaced place (filter_map (picked_by read) events)
placed_by place read keeps events placed =
    (few_by read events placed, rising_read (picked_by read) place event_place (λ event. keeps (event_text event)) events placed.1)
