use Rattle.cond_compile.proofs.Sound.{found_before_then, found_to_end}
use Rattle.cond_compile.proofs.laws.what_is_read_is_spelled.Goals as goal

pub returns-clause-to_end : goal.returns-clause-to_end
returns-clause-to_end c = λ pieces e read. found_to_end pieces e read

pub returns-clause-before_then : goal.returns-clause-before_then
returns-clause-before_then c = λ pieces e read. found_before_then pieces e read
