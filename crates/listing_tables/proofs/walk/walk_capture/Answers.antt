use Rattle.std.proofs.Common.{◌≡◌, ℕ, List, [], Option, map, take, sym, ap, subst, ◌∙◌}
use Rattle.std.specs.List.{flat_map}
use Rattle.listing_tables.specs.Columns.{AddsRows}
use Rattle.listing_tables.specs.Steps.{AreCallsOf, KeepsAll, WritesCalls, marked_in}
use Rattle.listing_tables.specs.Walk.{BeginsWith, IsFrameRow, counted_frames, record_begins}
use Rattle.listing_tables.proofs.walk.walk_capture.Goals as goal

pub returns-clause-calls : goal.returns-clause-calls
returns-clause-calls g c =
    subst (λ (old : Option (List ℕ)). WritesCalls old c.finish.new.rows c.finish.new.self.calls.all.items) c.in_ok-walked.ensures.calls
    c.in_ok-finish.ensures.calls

pub returns-clause-tables : goal.returns-clause-tables
returns-clause-tables g c =
    let parts = map (λ part. part.now) c.args.parts.now in
    let count = c.in_ok-frames.ending.count in
    let counted : take count c.as_slice.result ≡ counted_frames parts = ap (take count) c.as_slice.ensures ∙ c.in_ok-frames.ensures.counted in
    let kept = c.in_ok-walked.ensures.marked []
    (subst (λ steps. KeepsAll steps.entries.entries []) (sym c.begin.ensures) c.requires.nothing) in
    record {
      paired = c.in_ok-finish.ensures.paired;
      calls = subst (λ frames. AreCallsOf (flat_map marked_in frames) c.finish.new.self.calls.all.items) counted
          (c.in_ok-finish.ensures.found (flat_map marked_in (take count c.as_slice.result)) kept);
    }

pub returns-clause-frames : goal.returns-clause-frames
returns-clause-frames g c =
    let count = c.in_ok-frames.ending.count in
    let counted : take count c.as_slice.result ≡ counted_frames (map (λ part. part.now) c.args.parts.now)
    = ap (take count) c.as_slice.ensures ∙ c.in_ok-frames.ensures.counted in
    subst (AddsRows IsFrameRow c.args.streams.now.frames c.walk_frames-walked.new.streams.frames) counted c.in_ok-walked.ensures.frames

pub returns-clause-records : goal.returns-clause-records
returns-clause-records g c =
    let count = c.in_ok-frames.ending.count in
    let counted : take count c.as_slice.result ≡ counted_frames (map (λ part. part.now) c.args.parts.now)
    = ap (take count) c.as_slice.ensures ∙ c.in_ok-frames.ensures.counted in
    subst (λ frames. AddsRows BeginsWith c.args.streams.now.records c.walk_frames-walked.new.streams.records (flat_map record_begins frames)) counted
    c.in_ok-walked.ensures.records
