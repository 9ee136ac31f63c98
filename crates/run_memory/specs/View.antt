-- Serves the code: the plain data that memory stands for.
use Rattle.std.specs.Prelude.{ℕ, Bool, List, [], ◌∷◌, map, reverse, option_map, if◌then◌else◌}
use Rattle.vba_values.specs.Types.{declared}
use Rattle.vba_values.specs.View.{view}
use Rattle.bound_project.specs.View.{declared_view}
use Rattle.vba_meaning.specs.Paths as plain
use Rattle.vba_meaning.specs.Memory as plain_memory
use Rattle.run_memory.specs.declared.path.Root.{Root}
use Rattle.run_memory.specs.declared.path.Root.TheVariants as root
use Rattle.run_memory.specs.declared.path.Step.{Step}
use Rattle.run_memory.specs.declared.path.Path.{Path}
use Rattle.run_memory.specs.declared.frame.Slot.{Slot}
use Rattle.run_memory.specs.declared.frame.Slot.TheVariants as slot
use Rattle.run_memory.specs.declared.frame.Typed.{Typed}
use Rattle.run_memory.specs.declared.frame.Loop.{Loop}
use Rattle.run_memory.specs.declared.frame.Kept.{Kept}
use Rattle.run_memory.specs.declared.frame.Kept.TheVariants as kept
use Rattle.run_memory.specs.declared.frame.Frame.{Frame}
use Rattle.run_memory.specs.declared.memory.Object.{Object}
use Rattle.run_memory.specs.declared.memory.RunError.{RunError}
use Rattle.run_memory.specs.declared.memory.Memory.{Memory}

-- ---- paths

abbrev pub root_view : Root → plain.Root
root_view (root.Frame k x) = plain.in_frame k x
root_view (root.Project x) = plain.in_project x
root_view (root.Instance o i) = plain.in_fields o i
root_view (root.Block k i) = plain.in_block k i
root_view (root.Object o) = plain.in_object o
root_view (root.Item v) = plain.in_item (view v)

abbrev pub step_view : Step → plain.Step
step_view s = record { step = s.step; moves = s.moves }

abbrev pub path_view : Path → plain.Path
path_view p = record { root = root_view p.root; steps = map step_view p.steps.items; of = declared p.of; bounded = p.is_bounded; makes = p.makes }

-- ---- frames: the last item of a stack is its first

abbrev pub slot_view : Slot → plain_memory.Slot
slot_view (slot.Value v) = plain_memory.value (view v)
slot_view (slot.Path p) = plain_memory.path (path_view p)

abbrev pub typed_view : Typed → plain_memory.Typed
typed_view t = record { value = view t.value; of = declared_view t.of }

abbrev pub loop_view : Loop → plain_memory.Loop
loop_view l = record { last = typed_view l.last; step = typed_view l.step; compare = l.compare }

abbrev pub kept_view : Kept → plain_memory.Kept
kept_view (kept.Only v) = plain_memory.only (view v)
kept_view (kept.AtPath p) = plain_memory.at_path (path_view p)
kept_view (kept.Walk begun v next) = plain_memory.walk begun (view v) next

abbrev pub loop_at_view : ℕ × Loop → ℕ × plain_memory.Loop
loop_at_view e = (e.0, loop_view e.1)

abbrev pub kept_at_view : ℕ × Kept → ℕ × plain_memory.Kept
kept_at_view e = (e.0, kept_view e.1)

abbrev pub frame_view : Frame → plain_memory.Frame
frame_view f = record {
  called = f.is_called;
  procedure = f.procedure;
  statement = f.statement;
  errors = f.errors;
  slots = map slot_view f.slots.items;
  pending = map path_view (reverse f.pending.items);
  loops = map loop_at_view (reverse f.loops.items);
  keeps = map kept_at_view f.keeps.items;
  returns = reverse f.returns.items;
  me = view f.me;
  held = f.held.items;
}

-- the frame that runs, where one stands, before those that called
abbrev pub frames_view : Bool → Frame → List Frame → List plain_memory.Frame
frames_view stands top callers = if stands then frame_view top ∷ map frame_view (reverse callers) else []

-- ---- the memory

abbrev pub object_view : Object → plain_memory.Object
object_view b = record { class = b.class; told = b.is_told; fields = map view b.fields.items; keys = b.keys.items; set_numbers = b.set_numbers.items }

abbrev pub error_view : RunError → plain_memory.Error
error_view e = record { number = e.number; source = e.source; description = e.description; procedure = e.procedure; statement = e.statement }

abbrev pub memory_view : Memory → plain_memory.Memory
memory_view m = record {
  frames = frames_view m.stands m.top m.callers.items;
  shared = map view m.shared.items;
  objects = map (option_map object_view) m.objects.items;
  waiting = reverse m.waiting.items;
  err = error_view m.err;
  column = m.column;
  book = m.book;
  events_on = m.events_on;
  updates_screen = m.updates_screen;
  shows_alerts = m.shows_alerts;
  next_set = m.next_set;
  changed = m.changed;
}
