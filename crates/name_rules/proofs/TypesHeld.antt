-- What Types hold, one more.
use Rattle.std.proofs.Common.{◌≡◌, ℕ, Bool, List, [], ◌∷◌, ◌++◌, map, Option, Some, None, refl, sym, ap, ◌∙◌}
use Rattle.std.proofs.lemmas.List.{map-append}
use Rattle.std.specs.Prelude.{Vec}
use Rattle.std.specs.declared.alloc.Global.{Global}
use Rattle.vba_words.specs.declared.identifier.Identifier.{Identifier}
use Rattle.vba_values.specs.Types.{Declared}
use Rattle.vba_values.specs.Types as type
use Rattle.constant_values.specs.declared_names.specs.binder.specs.Declarations.{FieldWritten, What, a_variable, a_constant, an_enum, a_member, a_type, an_event, a_procedure, Entry}
use Rattle.constant_values.specs.declared_names.specs.binder.specs.Scopes.{Scope}
use Rattle.constant_values.specs.declared_names.specs.binder.specs.Types.{written_type}
use Rattle.constant_values.specs.declared_names.specs.binder.specs.Violations.{held_in, types_of_entries}
use Rattle.name_rules.specs.Held.{held_of_type, held_list, number_in_field}

-- the Type of a field, or none
held_by : (s : Scope) (f : FieldWritten) (fs : List FieldWritten) (d : Declared) → written_type (λ e. 0) s f.type_clause.declared_type ≡ d
    → held_in s (f ∷ fs) ≡ held_list (held_of_type d) ++ held_in s fs
held_by s f fs type.boolean is = simp is
held_by s f fs type.byte is = simp is
held_by s f fs type.integer is = simp is
held_by s f fs type.long is = simp is
held_by s f fs type.long_long is = simp is
held_by s f fs type.currency is = simp is
held_by s f fs type.text is = simp is
held_by s f fs (type.fixed_text n) is = simp is
held_by s f fs type.object is = simp is
held_by s f fs (type.class n) is = simp is
held_by s f fs type.collection is = simp is
held_by s f fs type.worksheet is = simp is
held_by s f fs type.range is = simp is
held_by s f fs type.variant is = simp is
held_by s f fs (type.udt n) is = simp is
held_by s f fs (type.array_of of) is = simp is

pub field_held : (s : Scope) (f : FieldWritten) (fs : List FieldWritten)
    → held_in s (f ∷ fs) ≡ number_in_field s f ++ held_in s fs
field_held s f fs = held_by s f fs (written_type (λ e. 0) s f.type_clause.declared_type) refl

-- one Type more
pub type_more : (types : List (Vec ℕ Global)) (held : Vec ℕ Global) → map (λ (v : Vec ℕ Global). v.items) (types ++ held ∷ []) ≡ map (λ (v : Vec ℕ Global). v.items) types ++ held.items ∷ []
type_more types held = map-append (λ (v : Vec ℕ Global). v.items) types (held ∷ [])

pub types_split : (s : Scope) (x : Identifier) (public : Bool) (w : What) (es : List Entry)
    → types_of_entries s (record { name = x; is_public = public; what = w } ∷ es)
    ≡ types_of_entries s (record { name = x; is_public = public; what = w } ∷ []) ++ types_of_entries s es
types_split s x public (a_variable v) es = refl
types_split s x public (a_constant c) es = refl
types_split s x public an_enum es = refl
types_split s x public (a_member value steps) es = refl
types_split s x public (a_type fields) es = refl
types_split s x public (an_event ps) es = refl
types_split s x public (a_procedure p) es = refl
