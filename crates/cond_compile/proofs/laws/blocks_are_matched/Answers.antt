use Rattle.cond_compile.proofs.BlocksFound.{block_found, block_is_quiet}
use Rattle.cond_compile.proofs.BlocksUnique.{blocks_are_unique}
use Rattle.cond_compile.proofs.LexedFaults.{lexed_sound}
use Rattle.cond_compile.proofs.laws.blocks_are_matched.Goals as goal

pub returns-clause-one : goal.returns-clause-one
returns-clause-one c = blocks_are_unique

pub returns-clause-found : goal.returns-clause-found
returns-clause-found c = block_found

pub returns-clause-only : goal.returns-clause-only
returns-clause-only c = block_is_quiet

pub returns-clause-tokens : goal.returns-clause-tokens
returns-clause-tokens c = lexed_sound
