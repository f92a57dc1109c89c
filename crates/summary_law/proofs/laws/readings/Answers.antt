use Rattle.std.proofs.Common.{[], inl, subst, sym}
use Rattle.std.proofs.lemmas.List.Elements.{All-weaker}
use Rattle.summary_law.specs.Readings.{HasKeyIn, read_all}
use Rattle.summary_law.proofs.GatherLaws.{HasKeyOrNothing, read-gathered}
use Rattle.summary_law.proofs.Members.{In, contained, in_list}
use Rattle.summary_law.proofs.ReadingLaws.{at-read, read-at}
use Rattle.summary_law.proofs.laws.readings.Goals as goal

pub returns-clause-exact : goal.returns-clause-exact
returns-clause-exact g c = λ read xs y. (
  λ there. read-at read [] xs y (in_list (read_all read xs) y there),
  λ found.
      contained (read_all read xs) y
      (subst (λ all. In y (read_all read all)) (sym found.3) (at-read read [] found.0 found.1 found.2 y found.4)),
)

pub returns-clause-by_key : goal.returns-clause-by_key
returns-clause-by_key g c = λ eq key read keys xs laws distinct among.
    read-gathered laws key read keys distinct [] xs (All-weaker (HasKeyIn eq key keys) (HasKeyOrNothing laws key read keys) (λ x has. inl has) xs among)
