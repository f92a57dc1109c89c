use Rattle.std.proofs.Common.{◌+◌, ◌<◌, length, refl, sym, ap, ◌∙◌, rules}
use Rattle.object_view.specs.State.{ahead}
use Rattle.object_view.specs.Reading.{object_text}
use Rattle.object_view.proofs.ObjectLaws.{rest_of, ahead_good, ahead_bad}
use Rattle.object_view.proofs.objects.Objects.next_object.Goals as goal

pub returns-in-Ok : goal.returns-in-Ok
returns-in-Ok c =
    let body = c.self.inside.body.now in
    let list = c.self.inside.offsets.now in
    let offset = c.first_offset-offset.result in
    let some : 0 < length (rest_of list c.in-At.index) = search rules in (
      offset,
      sym c.self.view_is ∙ ap (ahead body list) c.in-At.is
          ∙ ahead_good body list c.in-At.index c.in-At.end offset _ (object_text offset c.in-Ok.object) c.if-self-ne0.false some c.first_offset-offset.ensures
          c.in-Ok.ensures.found (ap (λ n. offset + n) c.in-Ok.object.whole),
    )

pub returns-in-Err : goal.returns-in-Err
returns-in-Err c =
    let body = c.self.inside.body.now in
    let list = c.self.inside.offsets.now in
    let some : 0 < length (rest_of list c.in-At.index) = search rules in (
      sym c.self.view_is ∙ ap (ahead body list) c.in-At.is
          ∙ ahead_bad body list c.in-At.index c.in-At.end c.first_offset-offset.result c.in-Err.cause c.if-self-ne0.false some c.first_offset-offset.ensures
          c.in-Err.ensures.fails,
      refl,
    )
