use Rattle.std.proofs.Common.{refl, ap}
use Rattle.claim_board.specs.Running.{no_place}
use Rattle.claim_board.proofs.Opening.{opening_kept, may_share}
use Rattle.claim_board.proofs.run.open_table.Goals as goal

pub of_words-requires : goal.of_words-requires
of_words-requires g c =
    (0, no_place, refl, opening_kept g.L.JobList.jobs c.args.workers c.requires.jobs c.requires.least c.requires.most)

pub returns-clause-share : goal.returns-clause-share
returns-clause-share g c =
    let e = c.in_ok-opened.ensures in
    may_share _ _ _ _ ((e.0, e.1), e.2) (ap (λ x. x.0) e.4) c.requires.least
