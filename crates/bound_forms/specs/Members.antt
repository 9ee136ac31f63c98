-- What stands behind a dot ([MS-VBAL] 5.6.12): members of objects of the host, of classes and of Types.
use Rattle.std.specs.Prelude.{ℕ, Bool, true, false, ◌&&◌, ◌||◌, not, List, ◌∷◌, length, codes, Option, Some, None, option_map, option_and_then, bytes_eq, if◌then◌else◌, unwrap_or, slice_index_or, []}
use Rattle.vba_base.specs.declared.place.Place.{Place}
use Rattle.vba_values.specs.Types.{Declared}
use Rattle.vba_values.specs.Types as type
use Rattle.vba_words.specs.declared.identifier.Identifier.{Identifier}
use Rattle.vba_expression.specs.Tree.{Expr, name, member, index}
use Rattle.bound_project.specs.Expressions.{err_number, err_source, err_description, Node, field_value, err_value, host_object, Lvalue, variable, item, field, kept_place, no_exprs, also, object_field, as_new}
use Rattle.bound_project.specs.Expressions as bound
use Rattle.bound_project.specs.Project.{Declaration, UserType, no_name}
use Rattle.binder.specs.Declarations.{What, a_variable, a_procedure, Entry}
use Rattle.binder.specs.Scopes.{Scope, Space, behind, first_at}
use Rattle.binder.specs.Types.{is_object}
use Rattle.binder.specs.Constants.{home}
use Rattle.binder.specs.Storage.{declared_variable, user_types, has_bounds}
use Rattle.bound_forms.specs.Terms.{Within, Env, HostMember, Term, a_place, a_value, a_host_member, err_object, err_raise, err_clear, no_term, expression_of, broken_value, a_method, read_of}
use Rattle.vba_values.specs.declared.object.HostRef.TheVariants as host
use Rattle.vba_tree.specs.Tree as written
use Rattle.binder.specs.Classes.{class_space, member_entry, field_number, made_class}
use Rattle.bound_forms.specs.Operands.{may_be_instance, is_found_late, if_there, alone, is_host_type, HostKind, application, workbook, sheets, sheet, area, collection, any_object, host_kind}

-- ---- members of objects of the host

abbrev pub member_with : List ℕ → Declared → (least greatest : ℕ) → HostMember
member_with fold of least greatest = record { name = fold; of = of; least = least; greatest = Some greatest; late = false }

abbrev pub mark_members : List HostMember
mark_members =
    member_with (codes "enableevents") type.boolean 0 0 ∷ member_with (codes "screenupdating") type.boolean 0 0
    ∷ member_with (codes "displayalerts") type.boolean 0 0 ∷ []

abbrev pub sheets_members : List HostMember
sheets_members = member_with (codes "count") type.long 0 0 ∷ member_with (codes "item") type.worksheet 1 1 ∷ []

abbrev pub sheet_members : List HostMember
sheet_members =
    member_with (codes "name") type.text 0 0 ∷ member_with (codes "index") type.long 0 0 ∷ member_with (codes "cells") type.range 0 2
    ∷ member_with (codes "range") type.range 1 2 ∷ member_with (codes "usedrange") type.range 0 0 ∷ []

-- what Rows and Columns give has no declared type of its own
abbrev pub area_members : List HostMember
area_members =
    member_with (codes "value") type.variant 0 0 ∷ member_with (codes "address") type.text 0 0 ∷ member_with (codes "row") type.long 0 0
    ∷ member_with (codes "column") type.long 0 0 ∷ member_with (codes "count") type.long 0 0 ∷ member_with (codes "rows") type.object 0 0
    ∷ member_with (codes "columns") type.object 0 0 ∷ member_with (codes "cells") type.range 0 2 ∷ member_with (codes "item") type.range 2 2
    ∷ member_with (codes "offset") type.range 2 2 ∷ member_with (codes "resize") type.range 2 2 ∷ member_with (codes "clearcontents") type.variant 0 0
    ∷ member_with (codes "worksheet") type.worksheet 0 0 ∷ member_with (codes "parent") type.worksheet 0 0 ∷ []

-- the hidden [_NewEnum] gives the Collection itself
abbrev pub collection_members : List HostMember
collection_members =
    member_with (codes "add") type.variant 1 4 ∷ member_with (codes "count") type.long 0 0 ∷ member_with (codes "item") type.variant 1 1
    ∷ member_with (codes "remove") type.variant 1 1 ∷ member_with (codes "_newenum") type.collection 0 0 ∷ []

abbrev pub listed_member : List HostMember → List ℕ → Option HostMember
listed_member [] fold = None
listed_member (m ∷ ms) fold = if bytes_eq fold m.name then Some (record m { name = fold }) else listed_member ms fold

-- a member that the run finds: of an object of an unknown kind, and so of what a Variant has; among the members of classes too
-- where the object may be one of a class
abbrev pub found_member : (late : Bool) → List ℕ → HostMember
found_member late fold = record { name = fold; of = type.variant; least = 0; greatest = None; late = late }

-- a member of a kind of objects
abbrev pub member_in : HostKind → List ℕ → Option HostMember
member_in application fold = listed_member mark_members fold
member_in workbook fold = None
member_in sheets fold = listed_member sheets_members fold
member_in sheet fold = listed_member sheet_members fold
member_in area fold = listed_member area_members fold
member_in collection fold = listed_member collection_members fold
member_in any_object fold = Some (found_member false fold)

abbrev pub sheets_value : Term
sheets_value = a_value (host_object host.Sheets) type.object

-- S34: a member that there isn't, told at the dot
abbrev pub unknown_member : (dot : Place) → bound.Expr → Term
unknown_member dot e = broken_value 34 dot (also e no_exprs)

-- what stands behind a dot behind an object; the sheets of the workbook are those of the host
abbrev pub member_of_kind : HostKind → (dot : Place) → bound.Expr → List ℕ → Term
member_of_kind workbook dot object fold =
    if bytes_eq fold (codes "worksheets") || bytes_eq fold (codes "sheets") then sheets_value else unknown_member dot object
member_of_kind kind dot object fold = unwrap_or (option_map (λ m. a_host_member object m) (member_in kind fold)) (unknown_member dot object)

-- what is of no object type has no members
abbrev pub member_of_other : (dot : Place) → bound.Expr → Term
member_of_other dot e = if is_object (bound.operand_type e) then no_term else unknown_member dot e

abbrev pub object_member : (place dot : Place) → Node → Declared → List ℕ → Term
object_member place dot node of fold =
    unwrap_or (option_map (λ kind. member_of_kind kind dot (expression_of node place of) fold) (host_kind node of)) (member_of_other dot (expression_of node place of))

-- the same where an object of a class may be there
abbrev pub host_behind : Env → (place dot : Place) → Node → Declared → List ℕ → Term
host_behind env place dot node of fold =
    if is_found_late env (expression_of node place of) then a_host_member (expression_of node place of) (found_member true fold) else object_member place dot node of fold

-- whether an object has a default member Item: an object of a class has one of its own
abbrev pub has_item_member : Env → bound.Expr → Bool
has_item_member env (bound.expr node place of operand) = is_host_type of && not (may_be_instance env (bound.expr node place of operand))

-- what brackets behind an object take: its default member with arguments is Item, or else S34 at its first token
abbrev pub item_of : Env → Place → Term → Term
item_of env place (a_place x of bounds lends makes) =
    if has_item_member env (expression_of (read_of makes x) place of) then object_member place place (read_of makes x) of (codes "item") else a_place x of bounds lends makes
item_of env place (a_value node of) = if has_item_member env (expression_of node place of) then object_member place place node of (codes "item") else a_value node of
item_of env place t = t

abbrev pub no_type : UserType
no_type = record { name = no_name; fields = [] }

abbrev pub field_named : Env → ℕ → Identifier → Option (ℕ × Declaration)
field_named env number x = first_at (λ (d : Declaration). bytes_eq d.name.fold x.name) 0 (slice_index_or (user_types env.scope) number no_type).fields

-- a field, or else what is no field of a value
abbrev pub with_field : Option (ℕ × Declaration) → (ℕ → Declaration → Term) → (dot : Place) → bound.Expr → Term
with_field found term dot e = unwrap_or (option_map (λ f. term f.0 f.1) found) (unknown_member dot e)

abbrev pub err_member : (dot : Place) → List ℕ → Term
err_member dot fold =
    if bytes_eq fold (codes "number") then a_value (err_value err_number) type.long
    else if bytes_eq fold (codes "source") then a_value (err_value err_source) type.text
    else if bytes_eq fold (codes "description") then a_value (err_value err_description) type.text
    else if bytes_eq fold (codes "raise") then err_raise
    else if bytes_eq fold (codes "clear") then err_clear
    else broken_value 34 dot no_exprs

-- a place; of a variable that is declared As New, by the class of which an object is made where it is read
abbrev pub made_place : Option ℕ → Lvalue → Declared → (bounds : ℕ) → (lends : Bool) → Term
made_place None x of bounds lends = a_place x of bounds lends false
made_place (Some number) x of bounds lends = a_place (as_new number x) of bounds lends true

-- a variable as it is declared, which is kept there
abbrev pub declared_at : Scope → written.Variable → Lvalue → (lends : Bool) → Term
declared_at s v x lends = let d = declared_variable s v in made_place (made_class s v) x d.of (length d.bounds) lends

-- a variable of an object, and a procedure of it, by the entry of its class
abbrev pub object_term : Env → bound.Expr → Space → ℕ → Entry → Term
object_term env base space number e = at e.what
  where
    at : What → Term
    at (a_variable v) =
        let d = declared_variable (home env.scope space) v in
        declared_at (home env.scope space) v (object_field base (field_number space number) d.of (has_bounds d)) false
    at (a_procedure p) = a_method base space number p
    at what = no_term

-- what stands behind a dot behind an object of a class, or else S34
abbrev pub class_member : Env → (dot : Place) → bound.Expr → ℕ → Identifier → Term
class_member env dot base number f = unwrap_or (option_and_then in_class (class_space env.scope.spaces number)) (unknown_member dot base)
  where
    in_class : Space → Option Term
    in_class space = option_map (λ m. object_term env base space m.0 m.1) (member_entry env.scope space f)

-- the same behind any value that is of no Type
abbrev pub object_behind : Env → (place dot : Place) → Node → Declared → Identifier → Term
object_behind env place dot node (type.class number) f = class_member env dot (expression_of node place (type.class number)) number f
object_behind env place dot node of f = host_behind env place dot node of f.name

abbrev pub field_of_place : Env → (place dot : Place) → Lvalue → Declared → (lends makes : Bool) → Identifier → Term
field_of_place env place dot x (type.udt number) lends makes f =
    with_field (field_named env number f) (λ i d. a_place (field x i d.of (has_bounds d)) d.of (length d.bounds) lends false) dot (expression_of (read_of makes x) place (type.udt number))
field_of_place env place dot x of lends makes f = object_behind env place dot (read_of makes x) of f

abbrev pub field_of_value : Env → (place dot : Place) → Node → Declared → Identifier → Term
field_of_value env place dot node (type.udt number) f =
    let e = expression_of node place (type.udt number) in
    with_field (field_named env number f) (λ i d. a_value (field_value e i) d.of) dot e
field_of_value env place dot node of f = object_behind env place dot node of f

-- what stands behind a dot; a procedure, a member and a function stand there without arguments
abbrev pub behind_alone : Env → (place dot : Place) → Term → Identifier → Term
behind_alone env place dot (a_place x of bounds lends makes) f = field_of_place env place dot x of lends makes f
behind_alone env place dot (a_value node of) f = field_of_value env place dot node of f
behind_alone env place dot other f = no_term

abbrev pub member_of : Env → (place dot : Place) → Term → Identifier → Term
member_of env place dot err_object f = err_member dot f.name
member_of env place dot t f = behind_alone env place dot (alone env place t) f

-- what stands behind a dot that begins a place
abbrev pub kept_member : Env → Place → Option Within → Identifier → Term
kept_member env place within f = if_there (option_map (λ w. field_of_place env place place (kept_place w.header) w.of w.lends false f) within)
