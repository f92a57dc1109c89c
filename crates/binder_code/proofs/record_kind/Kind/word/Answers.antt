use Rattle.std.proofs.Common.{sym, ap, ◌∙◌}
use Rattle.std.specs.Prelude.{option_map}
use Rattle.binder_code.proofs.record_kind.Kind.word.Goals as goal

pub returns-in-Some : goal.returns-in-Some
returns-in-Some c = ap (option_map (λ line. line.now.word)) (sym c.in-Some.is) ∙ c.line.ensures.word

pub returns-in-None : goal.returns-in-None
returns-in-None c = ap (option_map (λ line. line.now.word)) (sym c.in-None.is) ∙ c.line.ensures.word
