-- One use more, in the order of the text.
use Rattle.std.proofs.Common.{◌≡◌, Bool, true, false, List, [], ◌∷◌, ◌++◌, append_assoc, map, refl, sym, ap, ◌∙◌, if◌then◌else◌}
use Rattle.std.specs.Prelude.{◌||◌, reverse}
use Rattle.std.specs.List.{list_any}
use Rattle.std.proofs.lemmas.List.{map-append, reverse-append}
use Rattle.vba_words.specs.declared.identifier.Identifier.{Identifier}
use Rattle.declared_names.specs.binder.specs.Scopes.{Use, plainly, is_named}
use Rattle.declared_names.specs.binder.specs.Declarations.{Local, an_array, undeclared}
use Rattle.declared_names.specs.binder.specs.Names.{Using, by_declaration, by_redim, by_use, arranged, has_name, has_redim}
use Rattle.declared_names.specs.View.{local_view}
use Rattle.declared_names.specs.declared.local.Local.{Local as LocalHere}
use Rattle.procedure_names.specs.Added.{added}

pub locals_push : (ls : List LocalHere) (l : LocalHere) → map local_view (ls ++ l ∷ []) ≡ map local_view ls ++ local_view l ∷ []
locals_push ls l = map-append local_view ls (l ∷ [])

or_swap : (a b c : Bool) → (a || (b || c)) ≡ (b || (a || c))
or_swap true true c = refl
or_swap true false c = refl
or_swap false true c = refl
or_swap false false c = refl

-- one name at the end is looked for as one at the front
name_at_end : (ls : List Local) (l : Local) (x : Identifier) → has_name (ls ++ l ∷ []) x ≡ has_name (l ∷ ls) x
name_at_end [] l x = refl
name_at_end (m ∷ ls) l x = ap (λ b. is_named x.name m.name || b) (name_at_end ls l x) ∙ or_swap (is_named x.name m.name) (is_named x.name l.name) (has_name ls x)

pub has_name_reversed : (ls : List Local) (x : Identifier) → has_name (reverse ls) x ≡ has_name ls x
has_name_reversed [] x = refl
has_name_reversed (l ∷ ls) x =
    ap (λ ms. has_name ms x) (reverse-append (l ∷ []) ls)
    ∙ name_at_end (reverse ls) l x ∙ ap (λ b. is_named x.name l.name || b) (has_name_reversed ls x)

redim_at : (b : Bool) (static : Bool) (known : Use → Identifier → Bool) (all : List Using) (before : List Local) (l : Local) (us : List Using)
    → (if b then arranged static known all before us else l ∷ arranged static known all (l ∷ before) us)
    ≡ (let ls : List Local = (if b then [] else l ∷ []) in ls ++ arranged static known all (reverse ls ++ before) us)
redim_at true static known all before l us = refl
redim_at false static known all before l us = refl

pub arranged_step : (static : Bool) (known : Use → Identifier → Bool) (all : List Using) (before : List Local) (u : Using) (us : List Using)
    → arranged static known all before (u ∷ us)
    ≡ added static known all before u ++ arranged static known all (reverse (added static known all before u) ++ before) us
arranged_step static known all before (by_declaration l) us = refl
arranged_step static known all before (by_redim x clause) us =
    redim_at (known plainly x || has_name before x) static known all before (record { name = x; own = an_array clause static }) us
arranged_step static known all before (by_use how x) us =
    redim_at (known how x || (has_name before x || has_redim all x)) static known all before (record { name = x; own = undeclared static }) us

pub reverse_both : (xs ys : List Local) → reverse (xs ++ ys) ≡ reverse ys ++ reverse xs
reverse_both xs ys = reverse-append xs ys

-- one use more, behind the names before it
pub arranged_more : (static : Bool) (known : Use → Identifier → Bool) (all : List Using) (old new : List Local) (u : Using) (us : List Using)
    → new ≡ old ++ added static known all (reverse old) u
    → new ++ arranged static known all (reverse new) us ≡ old ++ arranged static known all (reverse old) (u ∷ us)
arranged_more static known all old new u us h =
    let a : List Local = added static known all (reverse old) u in
    ap (λ ls. ls ++ arranged static known all (reverse ls) us) h
    ∙ ap (λ b. (old ++ a) ++ arranged static known all b us) (reverse-append old a)
    ∙ append_assoc old a (arranged static known all (reverse a ++ reverse old) us)
    ∙ ap (λ ls. old ++ ls) (sym (arranged_step static known all (reverse old) u us))
