use Rattle.std.proofs.Common.{sym, ap, ◌∙◌}
use Rattle.sheet_host.specs.Field.{has_units, field_of_cell}
use Rattle.sheet_host.proofs.Texts.{signed_units, printed_units}
use Rattle.sheet_host.proofs.field.has_text.Goals as goal

pub returns-in-Long : goal.returns-in-Long
returns-in-Long c = sym (ap (λ v. has_units (field_of_cell v)) c.in-Long.is ∙ signed_units c.in-Long.field-0)

pub returns-in-LongLong : goal.returns-in-LongLong
returns-in-LongLong c = sym (ap (λ v. has_units (field_of_cell v)) c.in-LongLong.is ∙ signed_units c.in-LongLong.field-0)

pub returns-in-Currency : goal.returns-in-Currency
returns-in-Currency c = sym (ap (λ v. has_units (field_of_cell v)) c.in-Currency.is ∙ printed_units c.in-Currency.field-0)
