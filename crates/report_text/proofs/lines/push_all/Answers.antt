use Rattle.std.proofs.Common.{◌≡◌, ◌+◌, ℕ, List, [], ◌∷◌, ◌++◌, map, take, ap, sym, subst, ◌∙◌, arith}
use Rattle.std.proofs.lemmas.List.{map_more}
use Rattle.std.proofs.lemmas.Fn.{FoldsTo-push}
use Rattle.std.specs.List.{FoldsTo}
use Rattle.arrayvec.specs.ArrayString.{ArrayString}
use Rattle.report_text.proofs.lines.push_all.Goals as goal

pub loop-row-preserved : goal.loop-row-preserved
loop-row-preserved g c =
    let bytes : ArrayString → List ℕ = λ row. row.bytes in
    let rows = c.args.rows.now in
    let i = c.loop-row.row-index in
    let row = c.row-item.result in
    let more : map bytes (take (i + 1) rows) ≡ map bytes (take i rows) ++ row.bytes ∷ [] =
    map_more bytes rows i row (omega arith) ∙ ap (λ (r : ArrayString). map bytes (take i rows) ++ r.bytes ∷ []) (sym c.row-item.is) in
    subst (λ (ls : List (List ℕ)). FoldsTo g.L.Lines.takes c.args.lines.now ls c.push_line.new.self) (sym more)
    (FoldsTo-push g.L.Lines.takes c.args.lines.now (map bytes (take i rows)) c.loop-row.lines row.bytes c.push_line.new.self c.loop-row.invariant
    c.in_ok-push_line.ensures)
