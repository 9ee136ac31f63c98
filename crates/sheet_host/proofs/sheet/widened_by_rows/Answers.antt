use Rattle.sheet_host.proofs.Fields.{short_row}
use Rattle.sheet_host.proofs.sheet.widened_by_rows.Goals as goal

pub widened_by_fields-corners-requires-clause-short : goal.widened_by_fields-corners-requires-clause-short
widened_by_fields-corners-requires-clause-short c = short_row c.args.rows.now c.loop-place.place c.requires.short
