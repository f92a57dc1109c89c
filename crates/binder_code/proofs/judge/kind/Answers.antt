use Rattle.std.proofs.Common.{◌≡◌, ◌↔◌, Ok, Err, subst, sym}
use Rattle.binder_code.specs.Code.{number}
use Rattle.binder_code.specs.Commands.{IsOfProtocol, HasCode, ListsCode, ListsNumber}
use Rattle.binder_code.specs.declared.code.CodeFault.TheVariants.{Direction, Size}
use Rattle.binder_code.specs.declared.record_kind.Kind.TheVariants.{Opaque}
use Rattle.binder_code.proofs.KindOf.{kind_of-direction, kind_of-listed, kind_of-opaque, kind_of-size}
use Rattle.binder_code.proofs.judge.kind.Goals as goal

pub returns-clause-direction : goal.returns-clause-direction
returns-clause-direction c =
    subst (λ r. (r ≡ Err Direction) ↔ ¬ IsOfProtocol c.args.protocol c.args.code.0) (sym c.meaning.ensures) (kind_of-direction c.args.protocol c.args.code.0)

pub returns-clause-listed : goal.returns-clause-listed
returns-clause-listed c listed known =
    subst (λ r. (r ≡ Ok listed) ↔ (IsOfProtocol c.args.protocol c.args.code.0 × HasCode listed c.args.protocol c.args.code.0)) (sym c.meaning.ensures)
    (kind_of-listed c.args.protocol c.args.code.0 listed known)

pub returns-clause-opaque : goal.returns-clause-opaque
returns-clause-opaque c =
    subst (λ r. (r ≡ Ok Opaque) ↔ (IsOfProtocol c.args.protocol c.args.code.0 × ¬ ListsNumber c.args.protocol (number c.args.code.0))) (sym c.meaning.ensures)
    (kind_of-opaque c.args.protocol c.args.code.0)

pub returns-clause-size : goal.returns-clause-size
returns-clause-size c =
    subst
    (λ r. (r ≡ Err Size) ↔
    (IsOfProtocol c.args.protocol c.args.code.0 × ListsNumber c.args.protocol (number c.args.code.0) × ¬ ListsCode c.args.protocol c.args.code.0))
    (sym c.meaning.ensures) (kind_of-size c.args.protocol c.args.code.0)
