-- The values with which variables begin.
use Rattle.std.proofs.Common.{◌≡◌, ℕ, zero, suc, ◌<◌, ◌≤◌, List, [], ◌∷◌, length, map, get_or, refl, ap, ◌∙◌, arith}
use Rattle.std.specs.Prelude.{slice_index_or}
use Rattle.std.proofs.lemmas.List.{length-map}
use Rattle.vba_values.specs.Val.{empty}
use Rattle.arrays_udt.specs.Fields.{Field, fields_at}
use Rattle.arrays_udt.specs.Fresh.{udt_within}
use Rattle.bound_project.specs.declared.declarations.UserType.{UserType}
use Rattle.bound_project.specs.declared.declarations.Declarations.{Declarations}
use Rattle.bound_project.specs.Project.{field_of, types_of}
use Rattle.bound_project.specs.View.{declaration_view, declarations_view, user_type_view}

pub composed : {A B C : Type 0} (g : B → C) (f : A → B) (xs : List A) → map g (map f xs) ≡ map (λ x. g (f x)) xs
composed g f [] = refl
composed g f (x ∷ xs) = ap (λ ys. g (f x) ∷ ys) (composed g f xs)

pub without_depth : (types : List (List Field)) (number : ℕ) → udt_within 0 types number ≡ empty
without_depth types number = refl

pub as_many_types : (d : Declarations) → length (types_of (declarations_view d)) ≡ length d.types.items
as_many_types d = length-map (map user_type_view d.types.items) (λ t. map field_of t.fields) ∙ length-map d.types.items user_type_view

there : (xs : List UserType) (n : ℕ) (u : UserType) → n < length xs
    → slice_index_or (map (λ t. map field_of t.fields) (map user_type_view xs)) n [] ≡ map field_of (map declaration_view (get_or xs n u).fields.items)
there [] n u h = absurd (omega arith)
there (x ∷ xs) zero u h = refl
there (x ∷ xs) (suc n) u h = there xs n u (omega arith)

past : (xs : List UserType) (n : ℕ) → length xs ≤ n → slice_index_or (map (λ t. map field_of t.fields) (map user_type_view xs)) n [] ≡ []
past [] n h = refl
past (x ∷ xs) zero h = absurd (omega arith)
past (x ∷ xs) (suc n) h = past xs n (omega arith)

pub fields_there : (d : Declarations) (n : ℕ) (u : UserType) → n < length d.types.items → fields_at (types_of (declarations_view d)) n ≡ map field_of (map declaration_view (get_or d.types.items n u).fields.items)
fields_there d n u h = there d.types.items n u h

pub fields_past : (d : Declarations) (n : ℕ) → length d.types.items ≤ n → fields_at (types_of (declarations_view d)) n ≡ []
fields_past d n h = past d.types.items n h
