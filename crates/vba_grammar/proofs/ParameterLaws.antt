-- The laws of parameters that the laws of lines need.
use Rattle.std.specs.Prelude.{List, [], ◌++◌, Some}
use Rattle.vba_words.specs.declared.reading.ReadToken.{ReadToken}
use Rattle.vba_tree.specs.Tree.{Parameters, ResultType}
use Rattle.vba_tree.specs.Spelling.{spell_parameters, spell_result_type}
use Rattle.vba_tree.specs.Forms.{FormedParameters, FormedType}
use Rattle.vba_tree.specs.Fitting.{ParametersFit}
use Rattle.vba_grammar.specs.Clauses.{parameters_at, result_type_at}
use Rattle.vba_grammar.specs.Laws.{IsSound, IsComplete, IsFoundBefore}

abbrev pub GoodParameters : Parameters → Type 0
GoodParameters p = FormedParameters (Some p) × ParametersFit (Some p)

pub record ParameterLaws : Type 0 where
  pub sound : IsSound spell_parameters GoodParameters parameters_at
  pub complete : IsComplete spell_parameters GoodParameters (λ rest. Unit {0}) parameters_at
  pub found : (p : Parameters) (rest : List ReadToken) → FormedParameters (Some p) → IsFoundBefore rest (parameters_at (spell_parameters p ++ rest))
  -- the type of a result, at the end of a line
  pub result_found : (r : ResultType) → FormedType r.declared_type → IsFoundBefore [] (result_type_at (spell_result_type r ++ []))
