use Rattle.std.proofs.Common.{refl, sym, subst}
use Rattle.std.proofs.lemmas.Result.{on_ok_weaker}
use Rattle.capture_frame.specs.declared.direction.Direction.{Direction}
use Rattle.listing_tables.specs.Gaps.{NotesAge}
use Rattle.listing_tables.proofs.CertaintyLaws.{holds_if}
use Rattle.listing_tables.proofs.SeenLaws.{begins, goes_on, holds_unless}
use Rattle.listing_tables.proofs.seen.Seen.add_frame.Goals as goal

pub returns-then-not-is_first : goal.returns-then-not-is_first
returns-then-not-is_first c =
    let frame = c.args.frame in
    let noted = c.in_ok-note_gap.ensures in
    let process = c.in_ok-note_process.ensures in
    let thread = c.in_ok-is_first.ensures in
    goes_on c.args.self.now c.note_gap.new.self c.note_process.new.self frame.sequence frame.place frame.direction c.args.owner noted.noted noted.rest
    process.noted process.rest c.note_thread.new.self
    (holds_unless c.in_ok-is_first.is_first thread.later (cc)) thread.rest

pub returns-in-Read : goal.returns-in-Read
returns-in-Read c =
    let frame = c.args.frame in
    let noted = c.in_ok-note_gap.ensures in
    let process = c.in_ok-note_process.ensures in
    let thread = c.in_ok-is_first.ensures in
    let before = c.note_thread.new.self in
    let after = c.is_old.new.self in
    on_ok_weaker c.is_old.result
    (λ age. begins c.args.self.now c.note_gap.new.self c.note_process.new.self frame.sequence frame.place frame.direction c.args.owner noted.noted
    noted.rest process.noted process.rest before after (holds_if c.in_ok-is_first.is_first thread.first (cc)) thread.rest
    (subst (λ (d : Direction). NotesAge d before.old.all.items after.old.all.items c.args.owner.upid.index) (sym c.in-Read.is) age) c.is_old.ensures.rest)
    c.is_old.ensures.noted

pub returns-in-Write : goal.returns-in-Write
returns-in-Write c =
    let frame = c.args.frame in
    let noted = c.in_ok-note_gap.ensures in
    let process = c.in_ok-note_process.ensures in
    let thread = c.in_ok-is_first.ensures in
    let before = c.note_thread.new.self in
    begins c.args.self.now c.note_gap.new.self c.note_process.new.self frame.sequence frame.place frame.direction c.args.owner noted.noted noted.rest
    process.noted process.rest before before (holds_if c.in_ok-is_first.is_first thread.first (cc)) thread.rest
    (subst (λ (d : Direction). NotesAge d before.old.all.items before.old.all.items c.args.owner.upid.index) (sym c.in-Write.is) refl) refl
