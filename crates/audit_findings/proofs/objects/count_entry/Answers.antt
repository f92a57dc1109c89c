use Rattle.std.proofs.Common.{[], ◌∷◌, ◌++◌, ◌+◌, List, Some, None, sym, ap, ◌∙◌, arith}
use Rattle.object_view.specs.Objects.{ObjectText, objects_of}
use Rattle.object_view.specs.Reading.{object_text}
use Rattle.object_view.proofs.ObjectLaws.{objects_short}
use Rattle.audit_findings.specs.Objects.{sort_count, times_of}
use Rattle.audit_findings.proofs.ObjectWalk.{room_for_one, has_given_next, left_falls, objects_end, times_of-append, times_of-one, times_of-short}
use Rattle.audit_findings.proofs.objects.count_entry.Goals as goal

pub add-requires : goal.add-requires
add-requires c =
    let body = c.args.entry.body.now in
    let list = c.args.entry.offsets.now in
    let i = c.loop-next.invariant in
    let sort = c.in-Ok.object.sort in
    let steps = rw (c.in-Some.is, c.in-Ok.is) at c.next_object.ensures in
    let room = room_for_one (objects_of body list) c.loop-next.objects i.0 i.1 (object_text steps.0 c.in-Ok.object) c.next_object.new.self steps.1 in
    let fits = objects_short body list in
    let counted = i.2 sort in
    let short = times_of-short sort i.0 in
    let small = c.requires sort in
    omega (arith, room, fits, counted, short, small)

pub loop-next-smaller : goal.loop-next-smaller
loop-next-smaller c =
    let i = c.loop-next.invariant in
    let steps = rw (c.in-Some.is, c.in-Ok.is) at c.next_object.ensures in
    left_falls (objects_of c.args.entry.body.now c.args.entry.offsets.now) c.loop-next.objects i.0 i.1 (object_text steps.0 c.in-Ok.object)
    c.next_object.new.self steps.1

pub loop-next-preserved : goal.loop-next-preserved
loop-next-preserved c =
    let i = c.loop-next.invariant in
    let steps = rw (c.in-Some.is, c.in-Ok.is) at c.next_object.ensures in
    let o = object_text steps.0 c.in-Ok.object in (
      i.0 ++ o ∷ [],
      has_given_next (objects_of c.args.entry.body.now c.args.entry.offsets.now) c.loop-next.objects i.0 i.1 o c.next_object.new.self steps.1,
      λ sort.
          let counted = i.2 sort in
          let added = c.add.ensures sort in
          let split = times_of-append sort i.0 (o ∷ []) in
          let one = times_of-one sort o in
          omega (arith, counted, added, split, one),
    )

pub returns-in-Err : goal.returns-in-Err
returns-in-Err c =
    let i = c.loop-next.invariant in
    let steps = rw (c.in-Some.is, c.in-Err.is) at c.next_object.ensures in
    let all = objects_end (objects_of c.args.entry.body.now c.args.entry.offsets.now) c.loop-next.objects i.0 i.1 (Some c.in-Err.bad) steps.0 in
    record {
      counted = λ sort. i.2 sort ∙ ap (λ (t : List ObjectText). sort_count c.args.counts.now sort + times_of sort t) (sym all.0);
      bad = sym all.1;
    }

pub returns : goal.returns
returns c =
    let i = c.loop-next.invariant in
    let steps = rw c.in_default.is at c.next_object.ensures in
    let all = objects_end (objects_of c.args.entry.body.now c.args.entry.offsets.now) c.loop-next.objects i.0 i.1 None steps.0 in
    record {
      counted = λ sort. i.2 sort ∙ ap (λ (t : List ObjectText). sort_count c.args.counts.now sort + times_of sort t) (sym all.0);
      bad = sym all.1;
    }
