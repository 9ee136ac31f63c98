-- Serves the code: what was read of a module as contracts see it.
use Rattle.std.specs.Prelude.{List, map, reverse}
use Rattle.module_parts.specs.Brackets.{kind_view}
use Rattle.vba_module.specs.Parts.{Part}
use Rattle.module_tree.specs.declared.progress.Section.{Section}
use Rattle.module_tree.specs.declared.progress.Section.TheVariants as sections
use Rattle.module_tree.specs.declared.progress.Frame.{Frame}
use Rattle.module_tree.specs.declared.progress.Progress.{Progress}
use Rattle.module_tree.specs.Growing as growing
use Rattle.module_tree.specs.View.{nodes_view, arms_view}

abbrev pub section_view : {P : Type 0} → (P → Part) → Section P → growing.Section
section_view view sections.Body = growing.in_body
section_view view (sections.Arm body arms is_last line) = growing.in_arm (nodes_view view body.items) (arms_view view arms.items) is_last (view line)

abbrev pub frame_view : {P : Type 0} → (P → Part) → Frame P → growing.Frame
frame_view view frame = record {
  before = nodes_view view frame.before.items;
  kind = kind_view frame.kind;
  opening = view frame.opening;
  section = section_view view frame.section;
}

-- the last frame is on top
abbrev pub stack : {P : Type 0} → (P → Part) → List (Frame P) → List growing.Frame
stack view frames = reverse (map (frame_view view) frames)

abbrev pub progress_view : {P : Type 0} → (P → Part) → Progress P → growing.State
progress_view view progress = record { frames = stack view progress.frames.items; read = nodes_view view progress.read.items }
