use Rattle.run_memory.proofs.loops.counts_down.Goals as goal

pub returns : goal.returns
returns c = λ m. rw c.zero.ensures at (c.fits.ensures m)
