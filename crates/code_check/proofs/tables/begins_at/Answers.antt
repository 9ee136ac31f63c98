use Rattle.pcode.specs.View.{code_view}
use Rattle.code_check.proofs.Tests.{refused}
use Rattle.code_check.proofs.Entries.{begins_low, begins_high, begins_if}
use Rattle.code_check.proofs.tables.begins_at.Goals as goal

pub returns-then-address-addresses : goal.returns-then-address-addresses
returns-then-address-addresses c =
    refused (begins_low (code_view c.args.code.now) c.args.procedure c.args.addresses.first c.args.addresses.end c.args.statement c.entry_of-address.result c.requires c.entry_of-address.ensures c.if-address-addresses.true)

pub returns-then-addresses-address : goal.returns-then-addresses-address
returns-then-addresses-address c =
    refused (begins_high (code_view c.args.code.now) c.args.procedure c.args.addresses.first c.args.addresses.end c.args.statement c.entry_of-address.result c.requires c.entry_of-address.ensures c.if-addresses-address.true)

pub returns : goal.returns
returns c =
    begins_if (code_view c.args.code.now) c.args.procedure c.args.addresses.first c.args.addresses.end c.args.statement c.entry_of-address.result c.is_begun_at.result c.requires c.entry_of-address.ensures
    c.if-address-addresses.false c.if-addresses-address.false c.is_begun_at.ensures
