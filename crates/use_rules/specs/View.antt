-- Serves the code: the plain data that its own stand for.
use Rattle.std.specs.Prelude.{List, map, reverse}
use Rattle.vba_module.specs.Blocks.{Kind}
use Rattle.declared_names.specs.module_parts.specs.Brackets.{kind_view}
use Rattle.declared_names.specs.module_parts.specs.declared.bracket.BlockKind.{BlockKind}
use Rattle.declared_names.specs.View.{qualifier_view}
use Rattle.use_rules.specs.TypesFound as types
use Rattle.use_rules.specs.NamesFound as names
use Rattle.use_rules.specs.declared.types_item.TypesItem.{TypesItem}
use Rattle.use_rules.specs.declared.types_item.TypesItem.TheVariants as types_item
use Rattle.use_rules.specs.declared.names_item.NamesItem.{NamesItem}
use Rattle.use_rules.specs.declared.names_item.NamesItem.TheVariants as names_item

abbrev pub types_item_view : TypesItem → types.TypesItem
types_item_view (types_item.Ended least) = types.ended least
types_item_view (types_item.New x) = types.a_new x.now
types_item_view (types_item.TypeOf least x) = types.a_type_of least x.now
types_item_view (types_item.Arguments least) = types.in_arguments least

-- the last one is on top
abbrev pub types_stack : List TypesItem → List types.TypesItem
types_stack items = reverse (map types_item_view items)

abbrev pub names_item_view : NamesItem → names.NamesItem
names_item_view (names_item.Name x) = names.a_name x.now
names_item_view (names_item.Member q x) = names.a_member (qualifier_view q) x.now
names_item_view (names_item.Ended least) = names.ended least
names_item_view (names_item.Arguments least) = names.in_arguments least

abbrev pub names_stack : List NamesItem → List names.NamesItem
names_stack items = reverse (map names_item_view items)

abbrev pub kinds_stack : List BlockKind → List Kind
kinds_stack opened = reverse (map kind_view opened)
