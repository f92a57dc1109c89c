use Rattle.board_tests.proofs.Spacing.{spaced_work}
use Rattle.board_tests.proofs.run.has_answer.Goals as goal

pub run_all-requires-after_bounds : goal.run_all-requires-after_bounds
run_all-requires-after_bounds g c κs within = let w = c.args.work.now in spaced_work w.low w.high w.jobs w.few
