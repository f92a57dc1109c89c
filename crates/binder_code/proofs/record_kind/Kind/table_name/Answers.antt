use Rattle.std.proofs.Common.{sym, ap, ◌∙◌}
use Rattle.std.specs.Prelude.{option_map, unwrap_or, codes}
use Rattle.binder_code.proofs.record_kind.Kind.table_name.Goals as goal

pub returns-in-Some : goal.returns-in-Some
returns-in-Some c = ap (λ name. unwrap_or name (codes "OPAQUE")) (ap (option_map (λ line. line.now.name.now)) (sym c.in-Some.is) ∙ c.line.ensures.name)

pub returns-in-None : goal.returns-in-None
returns-in-None c = ap (λ name. unwrap_or name (codes "OPAQUE")) (ap (option_map (λ line. line.now.name.now)) (sym c.in-None.is) ∙ c.line.ensures.name)
