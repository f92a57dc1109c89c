use Rattle.std.proofs.Common.{◌≡◌, length}
use Rattle.board_tests.proofs.steps.make_all.Given as goal

abbrev pub invariant-loop-worker : goal.invariant-loop-worker
invariant-loop-worker l =
    record { jobs : length l.board.states ≡ length l.initial.board.states; workers : length l.board.stopped ≡ length l.initial.board.stopped }
