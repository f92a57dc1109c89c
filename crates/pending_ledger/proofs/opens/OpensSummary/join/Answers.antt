use Rattle.std.proofs.Common.{refl, rules}
use Rattle.pending_ledger.proofs.SumLaws.{open_joined, closed_joined}
use Rattle.pending_ledger.proofs.opens.OpensSummary.join.Goals as goal

pub returns-then-later : goal.returns-then-later
returns-then-later c = λ first second mine theirs fits. closed_joined c.args.later first second (search rules) theirs

pub returns : goal.returns
returns c = λ first second mine theirs fits.
    open_joined c.args.self c.args.later (record { places = c.in_ok-places.places; has_close = c.args.self.has_close }) first second
    (search rules) c.in_ok-places.ensures refl mine theirs
