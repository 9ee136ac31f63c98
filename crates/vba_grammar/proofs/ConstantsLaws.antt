-- The laws of reading constants.
use Rattle.std.proofs.Common.{◌≡◌, ◌≤◌, length, true, false, List, ◌∷◌, ◌++◌, Option, Some, None, refl, sym, ap, ◌∙◌, subst}
use Rattle.vba_words.specs.declared.identifier.Identifier.{Identifier}
use Rattle.vba_words.specs.declared.reading.ReadToken.{ReadToken}
use Rattle.vba_words.specs.Spelling.{naming}
use Rattle.vba_tree.specs.Tree.{Listed, TypeClause, DefaultValue, Constant}
use Rattle.vba_tree.specs.Spelling.{optional, with_commas, spell_type_clause, spell_constant}
use Rattle.vba_tree.specs.Forms.{Each, FormedConstant}
use Rattle.vba_tree.specs.Fitting.{ConstantFits}
use Rattle.vba_grammar.specs.Front.{Found, is_comma, begins, commas_at}
use Rattle.vba_grammar.specs.Clauses.{item_ends, Valued, before_value, constant_at}
use Rattle.vba_grammar.specs.Laws.{IsComplete, IsFoundBefore}
use Rattle.vba_grammar.proofs.Binding.{Spelled, nothing_told, some_told, then_told, then_is}
use Rattle.vba_grammar.proofs.Fronts.{name_told, commas_told, commas_is}
use Rattle.vba_grammar.proofs.ValuedLaws.{spell_valued, FormedValued, LongestValued, IsThere, HasValue, before_laws, valued_told, valued_found, valued_is}
use Rattle.vba_grammar.proofs.Founds.{gotten, commas_found}

-- a name and a value behind a type clause
abbrev constant_of : Identifier → Option TypeClause → Option DefaultValue → List ReadToken → Found Constant
constant_of name clause None rest = None
constant_of name clause (Some default) rest = Some (record { name = name; type_clause = clause; equal = default.equal; value = default.value }, rest)

abbrev pub GoodConstant : Constant → Type 0
GoodConstant c = FormedConstant c × ConstantFits c

tail_of : (t u : ReadToken) (xs ys : List ReadToken) → t ∷ xs ≡ u ∷ ys → xs ≡ ys
tail_of t u xs ys h = cc

abbrev value_of : Constant → Valued
value_of c = (c.type_clause, Some (record { equal = c.equal; value = c.value }))

constant_longest : (c : Constant) → LongestValued HasValue (value_of c) → ConstantFits c
constant_longest c longest y formed same = longest (value_of y) tt formed (tail_of _ _ (spell_valued (value_of y)) (spell_valued (value_of c)) same)

longest_constant : (c : Constant) → ConstantFits c → LongestValued HasValue (value_of c)
longest_constant c fits w may formed same = at w.0 w.1 may formed same
  where
    at : (clause : Option TypeClause) (d : Option DefaultValue) → IsThere d → FormedValued (clause, d) → spell_valued (clause, d) ≡ spell_valued (value_of c)
        → length (optional spell_type_clause clause) ≤ length (optional spell_type_clause c.type_clause)
    at clause None may formed same = absurd may
    at clause (Some d) may formed same =
        fits (record { name = c.name; type_clause = clause; equal = d.equal; value = d.value }) formed (ap (λ us. naming c.name ∷ us) same)

-- a constant
pub constant_told : (ts : List ReadToken) → Spelled spell_constant GoodConstant ts (constant_at ts)
constant_told ts = then_told (name_told ts) (λ x rest p. then_told (valued_told HasValue before_value before_laws rest) (λ v behind q. at x rest p v.0 v.1 behind q))
  where
    at : (x : Identifier) (rest : List ReadToken) → ts ≡ naming x ∷ rest → (clause : Option TypeClause) (d : Option DefaultValue) (behind : List ReadToken)
        → (rest ≡ spell_valued (clause, d) ++ behind) × FormedValued (clause, d) × LongestValued HasValue (clause, d)
        → Spelled spell_constant GoodConstant ts (constant_of x clause d behind)
    at x rest p clause None behind q = nothing_told
    at x rest p clause (Some d) behind q =
        some_told (p ∙ ap (λ us. naming x ∷ us) q.0, (q.1, constant_longest (record { name = x; type_clause = clause; equal = d.equal; value = d.value }) q.2))

pub constant_is : IsComplete spell_constant GoodConstant (λ rest. item_ends rest ≡ true) constant_at
constant_is c rest good h =
    then_is (λ v behind. constant_of c.name v.0 v.1 behind) (valued_is HasValue before_value before_laws (value_of c) rest tt good.0 (longest_constant c good.1) h) refl

pub constant_found_before : (c : Constant) (rest : List ReadToken) → FormedConstant c → item_ends rest ≡ true → IsFoundBefore rest (constant_at (spell_constant c ++ rest))
constant_found_before c rest formed h =
    let p = valued_found HasValue before_value before_laws (value_of c) rest tt formed h in
    subst (IsFoundBefore rest) (sym (then_is (λ v behind. constant_of c.name v.0 v.1 behind) p.is refl)) (at p.value.0 p.value.1 p.may)
  where
    at : (clause : Option TypeClause) (d : Option DefaultValue) → IsThere d → IsFoundBefore rest (constant_of c.name clause d rest)
    at clause None may = absurd may
    at clause (Some d) may = refl

-- what is found where a constant stands
pub record ConstantFound (c : Constant) (rest : List ReadToken) : Type 0 where
  pub constant : Constant
  pub found : constant_at (spell_constant c ++ rest) ≡ Some (constant, rest)

pub constant_found : (c : Constant) (rest : List ReadToken) → FormedConstant c → item_ends rest ≡ true → ConstantFound c rest
constant_found c rest formed h =
    let g = gotten (constant_at (spell_constant c ++ rest)) rest (constant_found_before c rest formed h) in
    record { constant = g.part; found = g.is }

-- constants with commas
pub constants_told : (ts : List ReadToken) → Spelled (with_commas spell_constant) (Each GoodConstant) ts (commas_at constant_at ts)
constants_told ts = commas_told spell_constant constant_at constant_told ts

pub constants_are : IsComplete (with_commas spell_constant) (Each GoodConstant) (λ rest. (item_ends rest ≡ true) × (begins is_comma rest ≡ false)) (commas_at constant_at)
constants_are = commas_is spell_constant constant_at (λ token ts. refl) constant_is

pub constants_found : (list : Listed Constant) (rest : List ReadToken) → Each FormedConstant list → item_ends rest ≡ true → begins is_comma rest ≡ false
    → IsFoundBefore rest (commas_at constant_at (with_commas spell_constant list ++ rest))
constants_found list rest good h k = commas_found spell_constant constant_at (λ token ts. refl) constant_found_before list rest good h k
