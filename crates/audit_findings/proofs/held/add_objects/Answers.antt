use Rattle.std.proofs.Common.{[], ◌∷◌, ◌++◌, length, Some, None, sym, subst, ◌∙◌, arith}
use Rattle.std.specs.List.{filter_map}
use Rattle.object_view.specs.Objects.{objects_of}
use Rattle.object_view.specs.Reading.{object_text}
use Rattle.object_view.proofs.ObjectLaws.{objects_short}
use Rattle.audit_findings.specs.Held.{reference_of, unweighed}
use Rattle.audit_findings.specs.HeldCounts.{CountsMore}
use Rattle.audit_findings.proofs.HeldLaws.{counts_last, counts_none, room_for_last}
use Rattle.audit_findings.proofs.ObjectWalk.{objects_end, room_for_one, is_at_start, has_given_next}
use Rattle.audit_findings.proofs.held.add_objects.Goals as goal
use Rattle.summary_law.proofs.FedLaws.{after_none}

pub loop-next-init : goal.loop-next-init
loop-next-init c = (
  [],
  is_at_start (objects_of c.args.entry.body.now c.args.entry.offsets.now) c.of-objects.result c.of-objects.ensures,
  counts_none c.args.held.now (length c.args.entry.offsets.now),
)

pub add-requires : goal.add-requires
add-requires c =
    let i = c.loop-next.invariant in
    let body = c.args.entry.body.now in
    let list = c.args.entry.offsets.now in
    let steps = rw (c.in-Some.is, c.in-Ok.is) at c.next_object.ensures in
    let room = room_for_one (objects_of body list) c.loop-next.objects i.0 i.1 (object_text steps.0 c.in-Ok.object) c.next_object.new.self steps.1 in
    let fits = objects_short body list in
    let held = c.requires.0 in (
      unweighed (held ++ filter_map reference_of i.0),
      i.2 held c.requires.1 c.requires.2,
      room_for_last held i.0 c.in-Some-held_step.reference (length list) c.requires.2 (omega (arith, room, fits)),
    )

pub loop-next-preserved-in-Continue-1 : goal.loop-next-preserved-in-Continue-1
loop-next-preserved-in-Continue-1 c =
    let body = c.args.entry.body.now in
    let list = c.args.entry.offsets.now in
    let i = c.loop-next.invariant in
    let steps = rw (c.in-Some.is, c.in-Ok.is) at c.next_object.ensures in
    let o = object_text steps.0 c.in-Ok.object in
    let room = room_for_one (objects_of body list) c.loop-next.objects i.0 i.1 o c.next_object.new.self steps.1 in
    let fits = objects_short body list in
    let reference = c.in-Some-held_step.reference in (
      i.0 ++ o ∷ [],
      has_given_next (objects_of body list) c.loop-next.objects i.0 i.1 o c.next_object.new.self steps.1,
      λ held counts small.
          let before = held ++ filter_map reference_of i.0 in
          counts_last held i.0 o reference c.add.new.self (sym c.held_step.ensures ∙ c.in-Some-held_step.is)
          (c.in_ok-add-in-Ok.ensures (unweighed before) (i.2 held counts small) (room_for_last held i.0 reference (length list) small (omega (arith, room, fits)))),
    )

pub loop-next-preserved : goal.loop-next-preserved
loop-next-preserved c =
    let i = c.loop-next.invariant in
    let list = c.args.entry.offsets.now in
    let steps = rw (c.in-Some.is, c.in-Ok.is) at c.next_object.ensures in
    let o = object_text steps.0 c.in-Ok.object in (
      i.0 ++ o ∷ [],
      has_given_next (objects_of c.args.entry.body.now list) c.loop-next.objects i.0 i.1 o c.next_object.new.self steps.1,
      subst (λ more. CountsMore c.args.held.now (length list) more c.loop-next.held)
          (sym (after_none reference_of i.0 o (sym c.held_step.ensures ∙ c.in_default-held_step.is))) i.2,
    )

pub returns-in-Err : goal.returns-in-Err
returns-in-Err c =
    let i = c.loop-next.invariant in
    let list = c.args.entry.offsets.now in
    let steps = rw (c.in-Some.is, c.in-Err.is) at c.next_object.ensures in
    let all = objects_end (objects_of c.args.entry.body.now list) c.loop-next.objects i.0 i.1 (Some c.in-Err._bad) steps.0 in
    subst (λ objects. CountsMore c.args.held.now (length list) (filter_map reference_of objects) c.loop-next.held) (sym all.0) i.2

pub returns : goal.returns
returns c =
    let i = c.loop-next.invariant in
    let list = c.args.entry.offsets.now in
    let steps = rw c.in_default.is at c.next_object.ensures in
    let all = objects_end (objects_of c.args.entry.body.now list) c.loop-next.objects i.0 i.1 None steps.0 in
    subst (λ objects. CountsMore c.args.held.now (length list) (filter_map reference_of objects) c.loop-next.held) (sym all.0) i.2
