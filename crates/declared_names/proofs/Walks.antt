-- Walks over the modules of a project: one module on.
use Rattle.std.proofs.Common.{◌≡◌, ℕ, ◌+◌, ◌<◌, ◌&&◌, Option, Some, None, List, ◌∷◌, map, drop, take, length, get_or, sym, ◌∙◌, ap}
use Rattle.std.proofs.lemmas.List.{drop_more, drop-map, take-map}
use Rattle.vba_words.specs.declared.identifier.Identifier.{Identifier}
use Rattle.binder.specs.Options.{or_else}
use Rattle.binder.specs.Scopes as scopes
use Rattle.binder.specs.Scopes.{Meant, counts, entry_of, in_modules, is_seen}
use Rattle.binder.specs.Types.{TypeMeant, type_in, type_in_modules}
use Rattle.declared_names.specs.declared.space.Space.{Space}
use Rattle.declared_names.specs.View.{space_view}

-- what is left of a list begins with the item at hand
pub drop_item : {A : Type 0} (xs : List A) (i : ℕ) (item : A) → i < length xs → item ≡ get_or xs i item → drop i xs ≡ item ∷ drop (i + 1) xs
drop_item xs i item inside is = drop_more xs i item inside ∙ ap (λ x. x ∷ drop (i + 1) xs) (sym is)

-- a function of what is left, at the item at hand
pub at_item : {A B : Type 0} (F : List A → B) (xs : List A) (i : ℕ) (item : A) → i < length xs → item ≡ get_or xs i item → F (drop i xs) ≡ F (item ∷ drop (i + 1) xs)
at_item F xs i item inside is = ap F (drop_item xs i item inside is)

pub in_modules_finds :
    (how : scopes.Use) (xs : List Space) (i : ℕ) (item : Space) (x : Identifier) (m : Meant) (w : Option Meant) → i < length xs → item ≡ get_or xs i item
    → Some m ≡ entry_of (λ e. is_seen (space_view item) e && counts how e.what) (space_view item) x
    → in_modules (λ e. counts how e.what) (map space_view (drop i xs)) x ≡ w → Some m ≡ w
in_modules_finds how xs i item x m w inside is found before =
    let F : List Space → Option Meant = λ ys. in_modules (λ e. counts how e.what) (map space_view ys) x in
    ap (λ o. or_else o (F (drop (i + 1) xs))) found ∙ sym (at_item F xs i item inside is) ∙ before

pub in_modules_skips :
    (how : scopes.Use) (xs : List Space) (i : ℕ) (item : Space) (x : Identifier) (w : Option Meant) → i < length xs → item ≡ get_or xs i item
    → None ≡ entry_of (λ e. is_seen (space_view item) e && counts how e.what) (space_view item) x
    → in_modules (λ e. counts how e.what) (map space_view (drop i xs)) x ≡ w → in_modules (λ e. counts how e.what) (map space_view (drop (i + 1) xs)) x ≡ w
in_modules_skips how xs i item x w inside is none before =
    let F : List Space → Option Meant = λ ys. in_modules (λ e. counts how e.what) (map space_view ys) x in
    ap (λ o. or_else o (F (drop (i + 1) xs))) none ∙ sym (at_item F xs i item inside is) ∙ before

pub drop_map : {X Y : Type 0} (f : X → Y) (n : ℕ) (xs : List X) → drop n (map f xs) ≡ map f (drop n xs)
drop_map f n xs = drop-map f n xs

pub take_map : {X Y : Type 0} (f : X → Y) (n : ℕ) (xs : List X) → take n (map f xs) ≡ map f (take n xs)
take_map f n xs = take-map f n xs

pub type_in_modules_finds :
    (s : scopes.Scope) (xs : List Space) (i : ℕ) (item : Space) (x : Identifier) (m : TypeMeant) (w : Option TypeMeant) → i < length xs → item ≡ get_or xs i item
    → Some m ≡ type_in s (is_seen (space_view item)) (space_view item) x
    → type_in_modules s (map space_view (drop i xs)) x ≡ w → Some m ≡ w
type_in_modules_finds s xs i item x m w inside is found before =
    let F : List Space → Option TypeMeant = λ ys. type_in_modules s (map space_view ys) x in
    ap (λ o. or_else o (F (drop (i + 1) xs))) found ∙ sym (at_item F xs i item inside is) ∙ before

pub type_in_modules_skips :
    (s : scopes.Scope) (xs : List Space) (i : ℕ) (item : Space) (x : Identifier) (w : Option TypeMeant) → i < length xs → item ≡ get_or xs i item
    → None ≡ type_in s (is_seen (space_view item)) (space_view item) x
    → type_in_modules s (map space_view (drop i xs)) x ≡ w → type_in_modules s (map space_view (drop (i + 1) xs)) x ≡ w
type_in_modules_skips s xs i item x w inside is none before =
    let F : List Space → Option TypeMeant = λ ys. type_in_modules s (map space_view ys) x in
    ap (λ o. or_else o (F (drop (i + 1) xs))) none ∙ sym (at_item F xs i item inside is) ∙ before
