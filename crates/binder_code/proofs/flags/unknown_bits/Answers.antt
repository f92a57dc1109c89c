use Rattle.std.proofs.Common.{◌≡◌, ◌∙◌, ◌-◌, ap, arith}
use Rattle.std.specs.Int.RustNames.{bit_and}
use Rattle.binder_code.specs.Flags.{known_flags}
use Rattle.binder_code.proofs.FlagBits.{known_bits-flag_table, known-unknown}
use Rattle.binder_code.proofs.flags.unknown_bits.Goals as goal

pub returns-clause-exact : goal.returns-clause-exact
returns-clause-exact c =
    let known : c.bits.result ≡ known_flags = c.bits.ensures tt ∙ c.all.ensures tt ∙ known_bits-flag_table in
    ap (λ bits. bit_and c.args.flags (4294967295 - bits)) known

pub returns-clause-rest : goal.returns-clause-rest
returns-clause-rest c =
    let whole = known-unknown c.args.flags c.ranges.flags.fits in
    let unknown = returns-clause-exact c in
    omega arith

pub returns-clause-none : goal.returns-clause-none
returns-clause-none c =
    let whole = known-unknown c.args.flags c.ranges.flags.fits in
    let unknown = returns-clause-exact c in
    (λ none. omega arith, λ known. omega arith)
