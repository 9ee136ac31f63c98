-- Serves the code: the label that is gone to.
use Rattle.std.specs.Prelude.{Bool, false}
use Rattle.vba_tree.specs.declared.simple.LabelName.{LabelName}
use Rattle.vba_module.specs.Parts.{Part, label}
use Rattle.binder.specs.Violations.{same_label_name}

abbrev pub is_label : LabelName → Part → Bool
is_label l (label x) = same_label_name l x
is_label l part = false
