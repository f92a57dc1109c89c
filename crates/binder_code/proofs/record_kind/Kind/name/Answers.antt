use Rattle.std.proofs.Common.{ℕ, ◌≤◌, List, length, IsAscii, sym, subst}
use Rattle.binder_code.proofs.Names.{IsAscii-name_of, length-name_of}
use Rattle.binder_code.proofs.record_kind.Kind.name.Goals as goal

pub returns-clause-short : goal.returns-clause-short
returns-clause-short c = subst (λ (t : List ℕ). length t ≤ 32) (sym c.table_name.ensures) (length-name_of c.args.self)

pub returns-clause-ascii : goal.returns-clause-ascii
returns-clause-ascii c = subst IsAscii (sym c.table_name.ensures) (IsAscii-name_of c.args.self)
