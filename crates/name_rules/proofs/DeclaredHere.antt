-- What is declared, of all that is said.
use Rattle.std.proofs.Common.{◌≡◌, Bor, List, [], ◌∷◌, ◌++◌, map, refl, sym, ap, ◌∙◌}
use Rattle.std.specs.Prelude.{Option, flat_map, option_map, Bool, ◌||◌, if◌then◌else◌}
use Rattle.std.specs.List.{list_any}
use Rattle.vba_tree.specs.declared.procedure.EventLine.{EventLine}
use Rattle.vba_tree.specs.View.{parameters_view}
use Rattle.vba_module.specs.Headers.{parameters_of}
use Rattle.constant_values.specs.declared_names.specs.module_parts.specs.View.{parts_view}
use Rattle.constant_values.specs.declared_names.specs.Range.{range_items}
use Rattle.constant_values.specs.declared_names.specs.View.{entry_view, what_view}
use Rattle.constant_values.specs.declared_names.specs.declared.range.PartRange.{PartRange}
use Rattle.constant_values.specs.declared_names.specs.declared.entry.Entry as code
use Rattle.constant_values.specs.declared_names.specs.declared.entry.What.{What}
use Rattle.constant_values.specs.declared_names.specs.declared.entry.What.TheVariants as what
use Rattle.vba_base.specs.declared.place.Place.{Place}
use Rattle.vba_words.specs.declared.identifier.Identifier.{Identifier}
use Rattle.vba_expression.specs.Tree.{Expr, name, Args, no_args, missing, plain}
use Rattle.vba_expression.specs.Tree as expr
use Rattle.vba_tree.specs.Tree.{Parameter, TypeClause}
use Rattle.std.proofs.lemmas.List.{map-append}
use Rattle.constant_values.specs.declared_names.specs.binder.specs.Declarations.{FieldWritten, fields_in, Local, Written, header_names}
use Rattle.constant_values.specs.declared_names.specs.binder.specs.Said.{Said, declares, type_named, new_named, constant_expression, expression, redimmed, goes_to, raises, arguments_said, said_in_body}
use Rattle.constant_values.specs.declared_names.specs.binder.specs.Said as say
use Rattle.constant_values.specs.declared_names.specs.binder.specs.Scopes.{Scope, Use, plainly}
use Rattle.constant_values.specs.declared_names.specs.binder.specs.Names.{Using, names_used, names_called, uses_of, redim_uses, usings, declared_here}
use Rattle.constant_values.specs.declared_names.specs.binder.specs.Violations.{later, same_name, place_of_name, twice_in_procedure, twice_inside}
use Rattle.name_rules.specs.Naming.{declared_in, names_in}

uses_declare : (xs : List (Use × Identifier)) (us : List Using) → declared_here (uses_of xs ++ us) ≡ declared_here us
uses_declare [] us = refl
uses_declare (x ∷ xs) us = uses_declare xs us

redims_declare : (e : Expr) (clause : Option TypeClause) (us : List Using) → declared_here (redim_uses e clause ++ us) ≡ declared_here us
redims_declare (name x) clause us = refl
redims_declare e clause us = uses_declare (names_used plainly e) us

pub all_declared : (said : List Said) → declared_here (flat_map usings said) ≡ declared_in said
all_declared [] = refl
all_declared (declares l ∷ said) = ap (λ ls. l ∷ ls) (all_declared said)
all_declared (type_named t ∷ said) = all_declared said
all_declared (new_named t ∷ said) = all_declared said
all_declared (constant_expression e ∷ said) = all_declared said
all_declared (expression e ∷ said) = uses_declare (names_used plainly e) (flat_map usings said) ∙ all_declared said
all_declared (say.called e ∷ said) = uses_declare (names_called e) (flat_map usings said) ∙ all_declared said
all_declared (redimmed e clause ∷ said) = redims_declare e clause (flat_map usings said) ∙ all_declared said
all_declared (goes_to l ∷ said) = all_declared said
all_declared (raises x ∷ said) = all_declared said

pub declared_append : (said more : List Said) → declared_in (said ++ more) ≡ declared_in said ++ declared_in more
declared_append [] more = refl
declared_append (declares l ∷ said) more = ap (λ ls. l ∷ ls) (declared_append said more)
declared_append (_ ∷ said) more = declared_append said more

pub arguments_declare : (xs : Args) → declared_in (arguments_said xs) ≡ []
arguments_declare no_args = refl
arguments_declare (missing before comma) = arguments_declare before
arguments_declare (plain before comma e) =
    declared_append (arguments_said before) (expression e ∷ []) ∙ ap (λ ls. ls ++ []) (arguments_declare before)
arguments_declare (expr.named before comma x mark e) =
    declared_append (arguments_said before) (expression e ∷ []) ∙ ap (λ ls. ls ++ []) (arguments_declare before)

any_named : {A B : Type 0} (f : A → B) (test : B → Bool) (xs : List A) → list_any (λ x. test (f x)) xs ≡ list_any test (map f xs)
any_named f test [] = refl
any_named f test (x ∷ xs) = ap (λ found. test (f x) || found) (any_named f test xs)

-- what clashes by its name
pub later_named : {A B : Type 0} (f : A → B) (clash : B → B → Bool) (place_of : B → Place) (before xs : List A)
    → later (λ a b. clash (f a) (f b)) (λ a. place_of (f a)) before xs ≡ later clash place_of (map f before) (map f xs)
later_named f clash place_of before [] = refl
later_named f clash place_of before (x ∷ xs) =
    ap (λ b. (if b then place_of (f x) ∷ [] else []) ++ later (λ a c. clash (f a) (f c)) (λ a. place_of (f a)) (x ∷ before) xs) (any_named f (clash (f x)) before)
    ∙ ap (λ places. (if list_any (clash (f x)) (map f before) then place_of (f x) ∷ [] else []) ++ places) (later_named f clash place_of (x ∷ before) xs)

-- one name more
pub name_more : (xs : List (Bor Identifier)) (x : Bor Identifier) → map (λ (y : Bor Identifier). y.now) (xs ++ x ∷ []) ≡ map (λ (y : Bor Identifier). y.now) xs ++ x.now ∷ []
name_more xs x = map-append (λ (y : Bor Identifier). y.now) xs (x ∷ [])

pub named_append : (said more : List Said)
    → map (λ (l : Local). l.name) (declared_in (said ++ more)) ≡ map (λ (l : Local). l.name) (declared_in said) ++ map (λ (l : Local). l.name) (declared_in more)
named_append said more = ap (map (λ (l : Local). l.name)) (declared_append said more) ∙ map-append (λ (l : Local). l.name) (declared_in said) (declared_in more)

-- the names that a procedure declares twice
pub procedure_named : (s : Scope) (p : Written) → twice_in_procedure s p ≡ later same_name place_of_name [] (names_in p)
procedure_named s p =
    later_named (λ (l : Local). l.name) same_name place_of_name [] (header_names p ++ declared_here (flat_map usings (said_in_body p)))
    ∙ ap (λ xs. later same_name place_of_name [] xs)
    (ap (λ ls. map (λ (l : Local). l.name) (header_names p ++ ls)) (all_declared (said_in_body p))
    ∙ map-append (λ (l : Local). l.name) (header_names p) (declared_in (said_in_body p)))

-- fields, and parameters, by their names
pub fields_named : (fs : List FieldWritten)
    → later (λ (a : FieldWritten) (b : FieldWritten). same_name a.name b.name) (λ (f : FieldWritten). place_of_name f.name) [] fs ≡ later same_name place_of_name [] (map (λ (f : FieldWritten). f.name) fs)
fields_named fs = later_named (λ (f : FieldWritten). f.name) same_name place_of_name [] fs

pub parameters_named : (ps : List Parameter)
    → later (λ (a : Parameter) (b : Parameter). same_name a.name b.name) (λ (p : Parameter). place_of_name p.name) [] ps ≡ later same_name place_of_name [] (map (λ (p : Parameter). p.name) ps)
parameters_named ps = later_named (λ (p : Parameter). p.name) same_name place_of_name [] ps

-- the same of an entry
pub type_inside : (s : Scope) (e : code.Entry) (parts : PartRange) → e.what ≡ what.Type parts
    → twice_inside s (entry_view e) ≡ later same_name place_of_name [] (map (λ (f : FieldWritten). f.name) (fields_in (parts_view (range_items parts))))
type_inside s e parts is =
    ap (λ (w : What). twice_inside s (record { name = e.name.now; is_public = e.is_public; what = what_view w })) is
    ∙ fields_named (fields_in (parts_view (range_items parts)))

pub event_inside : (s : Scope) (e : code.Entry) (event : Bor EventLine) → e.what ≡ what.Event event
    → twice_inside s (entry_view e) ≡ later same_name place_of_name [] (map (λ (p : Parameter). p.name) (parameters_of (option_map parameters_view event.now.parameters)))
event_inside s e event is =
    ap (λ (w : What). twice_inside s (record { name = e.name.now; is_public = e.is_public; what = what_view w })) is
    ∙ parameters_named (parameters_of (option_map parameters_view event.now.parameters))
