-- Serves the code: the plain data that values with their types stand for.
use Rattle.std.specs.Prelude.{List, map, reverse, Option, option_map}
use Rattle.std.specs.declared.alloc.Global.{Global}
use Rattle.std.specs.declared.vec.Vec.{Vec}
use Rattle.vba_values.specs.View.{view as value_view}
use Rattle.bound_project.specs.View.{declared_view}
use Rattle.vba_expression.specs.Tree.{name}
use Rattle.declared_names.specs.binder.specs.Scopes.{Scope}
use Rattle.declared_names.specs.binder.specs.Constants as plain
use Rattle.declared_names.specs.View.{qualifier_view}
use Rattle.constant_values.specs.Names as plain_names
use Rattle.constant_values.specs.Stack.{Outcome, with_value, outcome, member_outcome}
use Rattle.constant_values.specs.declared.known.Known.{Known}
use Rattle.constant_values.specs.declared.item.Item.{Item}
use Rattle.constant_values.specs.declared.item.Item.TheVariants as item
use Rattle.constant_values.specs.declared.names.Names.{Names}
use Rattle.constant_values.specs.declared.names.Names.TheVariants as names

abbrev pub known_view : Known → plain.Known
known_view k = record { value = value_view k.value; of = declared_view k.of }

-- a value that may be missing
abbrev pub slot_view : Option Known → Option plain.Known
slot_view k = option_map known_view k

-- what an item of the stack stands for
abbrev pub item_view : plain_names.Names → Scope → Item → Outcome
item_view known s (item.Value value) = with_value (slot_view value)
item_view known s (item.Name x) = outcome known s (name x.now)
item_view known s (item.Member q x) = member_outcome known s (option_map qualifier_view q) x.now

-- the items of the stack, the last one first
abbrev pub outcomes : plain_names.Names → Scope → List Item → List Outcome
outcomes known s items = reverse (map (item_view known s) items)

-- slots of tables
abbrev pub slots_view : List (Option Known) → List (Option plain.Known)
slots_view slots = map slot_view slots

-- tables of the values of modules
abbrev pub tables_view : List (Vec (Option Known) Global) → List (List (Option plain.Known))
tables_view tables = map (λ table. slots_view table.items) tables

-- what is known of names
abbrev pub names_view : Names → plain_names.Names
names_view names.Nothing = plain_names.nothing
names_view (names.Values entries own) = plain_names.values (tables_view entries.now) (slots_view own.now)
