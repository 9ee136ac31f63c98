use Rattle.run_late.proofs.arguments.+all_taken.Given as goal

abbrev pub decreases-all_taken : goal.decreases-all_taken
decreases-all_taken l = l.left
