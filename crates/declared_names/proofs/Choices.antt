-- Options of a module.
use Rattle.std.proofs.Common.{◌≡◌, Bool, true, false, List, [], ◌∷◌, refl, sym, ap, ◌∙◌, if◌then◌else◌}
use Rattle.std.specs.Prelude.{◌||◌}
use Rattle.vba_tree.specs.declared.line.OptionChoice.{OptionChoice}
use Rattle.vba_tree.specs.Tree.{option_line}
use Rattle.vba_module.specs.Parts as parts
use Rattle.binder.specs.Sources.{has_choice}
use Rattle.declared_names.specs.Choices.{choice_in, passes}

or_if : (b c : Bool) → (b || c) ≡ (if b then true else c)
or_if true c = refl
or_if false c = refl

pub one_more : (is : OptionChoice → Bool) (p : parts.Part) (ps : List parts.Part) → (passes is (choice_in p) || has_choice is ps) ≡ has_choice is (p ∷ ps)
one_more is (parts.whole_line (option_line option)) ps = or_if (is option.choice) (has_choice is ps)
one_more is p ps = refl
