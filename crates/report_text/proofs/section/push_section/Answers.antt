use Rattle.std.proofs.Common.{ℕ, List, ◌∷◌, ap, subst, ◌∙◌}
use Rattle.std.specs.List.{FoldsTo}
use Rattle.std.proofs.lemmas.Result.{on_ok_weaker}
use Rattle.report_text.proofs.section.push_section.Goals as goal

pub push_rows-requires-after_bounds : goal.push_rows-requires-after_bounds
push_rows-requires-after_bounds g c κs within = c.rows-rows.ensures.readable

pub returns : goal.returns
returns g c =
    on_ok_weaker c.push_rows.result
    (λ pushed.
    let lines = ap (λ (line : List ℕ). line ∷ pushed.0) c.head.ensures ∙ c.rows-rows.ensures.told pushed.0 pushed.1 in
    record {
      taken = subst (λ (ls : List (List ℕ)). FoldsTo g.L.Lines.takes c.args.lines.now ls c.push_rows.new.lines) lines
          (c.push_line.new.self, c.in_ok-push_line.ensures, pushed.2);
    })
    c.push_rows.ensures
