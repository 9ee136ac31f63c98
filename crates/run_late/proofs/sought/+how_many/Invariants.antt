use Rattle.run_late.proofs.sought.+how_many.Given as goal

abbrev pub decreases-how_many : goal.decreases-how_many
decreases-how_many l = l.arguments
