use Rattle.std.proofs.Common.{◌+◌, ◌*◌, max}
use Rattle.claim_board.proofs.share.+halves.Given as goal

abbrev pub decreases-share : goal.decreases-share
decreases-share g l = 3 * l.workers

abbrev pub decreases-share_halves : goal.decreases-share_halves
decreases-share_halves g l = 3 * max l.low l.high + 2

abbrev pub decreases-share_halves-front : goal.decreases-share_halves-front
decreases-share_halves-front g l = 3 * l.low + 1

abbrev pub decreases-share_halves-back : goal.decreases-share_halves-back
decreases-share_halves-back g l = 3 * l.high + 1
