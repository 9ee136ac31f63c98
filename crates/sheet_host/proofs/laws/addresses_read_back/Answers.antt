use Rattle.sheet_host.proofs.AddressLaws.{address_reads}
use Rattle.sheet_host.proofs.WrittenLaws.{written_address}
use Rattle.sheet_host.specs.Address.{address_of}
use Rattle.sheet_host.proofs.laws.addresses_read_back.Goals as goal

pub returns-clause-read : goal.returns-clause-read
returns-clause-read c text area is = address_reads text area is

pub returns-clause-written : goal.returns-clause-written
returns-clause-written c area inside = address_reads (address_of area) area (written_address area inside)
