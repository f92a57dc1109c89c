use Rattle.std.proofs.Common.{◌≡◌, length}
use Rattle.board_tests.proofs.steps.follow.Given as goal

abbrev pub invariant-loop : goal.invariant-loop
invariant-loop l =
    record { jobs : length l.board.states ≡ length l.initial.board.states; workers : length l.board.stopped ≡ length l.initial.board.stopped }
