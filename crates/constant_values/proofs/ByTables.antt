-- What is computed by tables is what the definitions say.
use Rattle.std.proofs.Common.{◌≡◌, List, [], Option, Some, None, refl, ap, ◌∙◌, sym}
use Rattle.std.specs.Prelude.{slice_get}
use Rattle.vba_lexer.specs.declared.number.TypeSuffix.{TypeSuffix}
use Rattle.vba_values.specs.Types.{Declared}
use Rattle.vba_expression.specs.Tree.{Expr}
use Rattle.vba_tree.specs.Tree.{DeclaredType, TypeClause, Constant}
use Rattle.declared_names.specs.binder.specs.Types.{written_type, clause_type}
use Rattle.declared_names.specs.binder.specs.Declarations.{What, Own}
use Rattle.declared_names.specs.binder.specs.Scopes.{Space, Scope}
use Rattle.declared_names.specs.binder.specs.Constants.{Known, names_in, value_by, length_by, constant_by, first_by, entry_by, own_by, home, known_value, known_length}
use Rattle.declared_names.specs.View.{scope_view}
use Rattle.constant_values.specs.declared.own.Constants.{Constants}
use Rattle.constant_values.specs.Names.{Names, values, names_from}
use Rattle.constant_values.specs.Rounds.{IsPlaced, longest, entries_round}
use Rattle.constant_values.specs.Tables.{AreConstants, constants_names}
use Rattle.constant_values.specs.View.{tables_view}
use Rattle.constant_values.proofs.Same.{SameNames, value_same, length_same, written_same, clause_same, constant_same, first_same, entry_same, own_same}
use Rattle.constant_values.proofs.Rounded.{through, same_through}

names_known : (c : Constants) → AreConstants c → constants_names c ≡ through (longest (scope_view c.scope)) (scope_view c.scope)
names_known c h = rw (h.entries, h.own) refl

same_known : (c : Constants) → AreConstants c → SameNames (names_from (constants_names c)) (names_in (scope_view c.scope)) (scope_view c.scope)
same_known c h = rw (names_known c h) (same_through (longest (scope_view c.scope)) (scope_view c.scope) h.placed)

pub value_known : (c : Constants) (names : Names) (e : Expr) → AreConstants c → names ≡ constants_names c
    → value_by (names_from names) (scope_view c.scope) e ≡ known_value (scope_view c.scope) e
value_known c names e h is =
    rw is (value_same (names_from (constants_names c)) (names_in (scope_view c.scope)) (scope_view c.scope) (same_known c h) e)

pub length_known : (c : Constants) (names : Names) (e : Expr) → AreConstants c → names ≡ constants_names c
    → length_by (names_from names) (scope_view c.scope) e ≡ known_length (scope_view c.scope) e
length_known c names e h is =
    rw is (length_same (names_from (constants_names c)) (names_in (scope_view c.scope)) (scope_view c.scope) (same_known c h) e)

pub written_known : (c : Constants) (names : Names) (t : DeclaredType) → AreConstants c → names ≡ constants_names c
    → written_type (length_by (names_from names) (scope_view c.scope)) (scope_view c.scope) t ≡ written_type (known_length (scope_view c.scope)) (scope_view c.scope) t
written_known c names t h is =
    rw is (written_same (names_from (constants_names c)) (names_in (scope_view c.scope)) (scope_view c.scope) (same_known c h) t)

pub clause_known : (c : Constants) (names : Names) (x : Option TypeSuffix) (t : Option TypeClause) → AreConstants c → names ≡ constants_names c
    → clause_type (length_by (names_from names) (scope_view c.scope)) (scope_view c.scope) x t
    ≡ clause_type (known_length (scope_view c.scope)) (scope_view c.scope) x t
clause_known c names x t h is =
    rw is (clause_same (names_from (constants_names c)) (names_in (scope_view c.scope)) (scope_view c.scope) (same_known c h) x t)

pub constant_known : (c : Constants) (names : Names) (x : Constant) → AreConstants c → names ≡ constants_names c
    → constant_by (names_from names) (scope_view c.scope) x ≡ constant_by (names_in (scope_view c.scope)) (scope_view c.scope) x
constant_known c names x h is =
    rw is (constant_same (names_from (constants_names c)) (names_in (scope_view c.scope)) (scope_view c.scope) (same_known c h) x)

pub first_known : (c : Constants) (names : Names) (e : Option Expr) → AreConstants c → names ≡ constants_names c
    → first_by (names_from names) (scope_view c.scope) e ≡ first_by (names_in (scope_view c.scope)) (scope_view c.scope) e
first_known c names e h is =
    rw is (first_same (names_from (constants_names c)) (names_in (scope_view c.scope)) (scope_view c.scope) (same_known c h) e)

pub own_known : (c : Constants) (names : Names) (o : Own) → AreConstants c → names ≡ constants_names c
    → own_by (names_from names) (scope_view c.scope) o ≡ own_by (names_in (scope_view c.scope)) (scope_view c.scope) o
own_known c names o h is =
    rw is (own_same (names_from (constants_names c)) (names_in (scope_view c.scope)) (scope_view c.scope) (same_known c h) o)

-- in another module the values of its entries go by the same table
same_home : (c : Constants) (space : Space) → AreConstants c → slice_get (scope_view c.scope).spaces space.number ≡ Some space
    → SameNames (names_from (values (tables_view c.entries.now) [])) (names_in (scope_view c.scope)) (home (scope_view c.scope) space)
same_home c space h placed =
    let there : IsPlaced (home (scope_view c.scope) space) = record { numbered = h.placed.numbered; here = placed } in
    rw (h.entries) (same_through (longest (scope_view c.scope)) (home (scope_view c.scope) space) there)

pub entry_known : (c : Constants) (names : Names) (s : Scope) (space : Space) (w : What) → AreConstants c
    → slice_get (scope_view c.scope).spaces space.number ≡ Some space → names ≡ values (tables_view c.entries.now) [] → s ≡ home (scope_view c.scope) space
    → entry_by (names_from names) s w ≡ entry_by (names_in (scope_view c.scope)) (home (scope_view c.scope) space) w
entry_known c names s space w h placed is at =
    rw (is, at) (entry_same (names_from (values (tables_view c.entries.now) [])) (names_in (scope_view c.scope)) (home (scope_view c.scope) space)
    (same_home c space h placed) w)
