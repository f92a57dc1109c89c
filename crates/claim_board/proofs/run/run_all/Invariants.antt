use Rattle.claim_board.proofs.run.run_all.Given as goal

abbrev pub ghosts-run_jobs : goal.ghosts-run_jobs
ghosts-run_jobs g a = record { jobs = g.W.Work.listed a.work.now }
