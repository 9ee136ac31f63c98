-- Serves the code: what Option lines choose.
use Rattle.std.specs.Prelude.{Bool, false, Option, Some, None}
use Rattle.vba_tree.specs.declared.line.OptionChoice.{OptionChoice}
use Rattle.vba_tree.specs.Tree.{option_line}
use Rattle.vba_module.specs.Parts.{Part, whole_line}

-- the choice of an Option line
abbrev pub choice_in : Part → Option OptionChoice
choice_in (whole_line (option_line option)) = Some option.choice
choice_in part = None

abbrev pub passes : (OptionChoice → Bool) → Option OptionChoice → Bool
passes is None = false
passes is (Some choice) = is choice
