use Rattle.std.proofs.Common.{length, sym, ap, ◌∙◌}
use Rattle.field_table.proofs.Frames.{length_texts}
use Rattle.field_table.proofs.text_list.TextList.len.Goals as goal

pub returns : goal.returns
returns c = sym (length_texts c.self.inside.count c.self.inside.units.items) ∙ ap length c.self.view_is
