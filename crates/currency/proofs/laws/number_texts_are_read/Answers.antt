use Rattle.currency.proofs.NumberTextLaws.{read_spells, spelled_reads}
use Rattle.currency.proofs.laws.number_texts_are_read.Goals as goal

pub returns : goal.returns
returns c = record { reads = spelled_reads; writes = read_spells }
