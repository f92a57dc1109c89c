use Rattle.std.proofs.Common.{subst, arith}
use Rattle.std.proofs.lemmas.List.{take_all}
use Rattle.audit_findings.specs.HeldCounts.{CountsEntries}
use Rattle.audit_findings.proofs.HeldLaws.{counts_next, room_for_entry}
use Rattle.audit_findings.proofs.held.held_by.Goals as goal

pub loop-entry-init : goal.loop-entry-init
loop-entry-init c = c.empty-held.ensures

pub add_objects-requires : goal.add_objects-requires
add_objects-requires c =
    room_for_entry c.args.entries.now c.requires c.loop-entry.entry-index c.entry-item.result c.loop-entry-test.true c.entry-item.is
    c.loop-entry.held c.loop-entry.invariant

pub loop-entry-preserved : goal.loop-entry-preserved
loop-entry-preserved c =
    counts_next c.args.entries.now c.requires c.loop-entry.entry-index c.entry-item.result c.loop-entry-test.true c.entry-item.is
    c.loop-entry.held c.loop-entry.invariant c.add_objects.new.held c.in_ok-add_objects.ensures

pub returns : goal.returns
returns c =
    subst (λ es. CountsEntries es c.loop-entry.held) (take_all c.loop-entry.entry-index c.args.entries.now (omega arith)) c.loop-entry.invariant
