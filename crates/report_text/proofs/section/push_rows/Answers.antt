use Rattle.std.proofs.Common.{◌≡◌, ℕ, List, [], ◌++◌, map, refl, sym, ap, ◌∙◌, append_assoc}
use Rattle.std.specs.List.{FoldsTo}
use Rattle.arrayvec.specs.ArrayString.{ArrayString}
use Rattle.rayon.proofs.ListFacts.{AllZip-append}
use Rattle.report_text.proofs.Pushes.{FoldsTo-append, AllZip-mapped}
use Rattle.report_text.proofs.section.push_rows.Goals as goal

pub loop-some-init : goal.loop-some-init
loop-some-init g c =
    let rest : c.args.kept.now ≡ c.into_iter-some-iterator.result.rest.now =
    sym c.chunks-some-items.ensures.rest ∙ ap (λ it. it.rest.now) (sym c.into_iter-some-iterator.ensures.into_iter_gives) in
    ([], [], rest, tt, refl)

pub loop-some-preserved : goal.loop-some-preserved
loop-some-preserved g c =
    let bytes : ArrayString → List ℕ = λ row. row.bytes in
    let so_far = c.loop-some.invariant in
    let lines = map bytes c.in_ok-rows.rows.items in
    let shows = AllZip-mapped (g.S.Section.shows c.args.found.now) bytes c.in-Some.some.now c.in_ok-rows.rows.items c.in_ok-rows.ensures in
    let takes : FoldsTo g.L.Lines.takes c.loop-some.lines lines c.push_all.new.lines = rw c.as_slice.ensures.value at c.in_ok-push_all.ensures in (
      so_far.0 ++ c.in-Some.some.now,
      so_far.1 ++ lines,
      so_far.2 ∙ ap (λ t. so_far.0 ++ t) c.in-Some.ensures.steps.1.0 ∙ sym (append_assoc so_far.0 c.in-Some.some.now c.next.new.self.rest.now),
      AllZip-append (g.S.Section.shows c.args.found.now) so_far.0 c.in-Some.some.now so_far.1 lines so_far.3 shows,
      FoldsTo-append g.L.Lines.takes c.args.lines.now c.loop-some.lines c.push_all.new.lines so_far.1 lines so_far.4 takes,
    )
