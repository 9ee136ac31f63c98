-- What is asked of names is what S17 and S23 have.
use Rattle.std.proofs.Common.{◌≡◌, Bool, List, [], ◌∷◌, ◌++◌, Option, Some, None, refl, sym, ap, ◌∙◌}
use Rattle.std.specs.Prelude.{flat_map}
use Rattle.std.proofs.lemmas.List.{append-nil}
use Rattle.vba_base.specs.declared.place.Place.{Place}
use Rattle.vba_words.specs.declared.identifier.Identifier.{Identifier}
use Rattle.vba_expression.specs.Tree.{Expr, literal, me, name, with_member, member, index, parenthesised, new, type_of, unary, binary, Args, no_args, missing, plain}
use Rattle.vba_expression.specs.Tree as expr
use Rattle.declared_names.specs.binder.specs.LeftOut.{behind_left_out, names_left_out, left_out_in_args, said_left_out, suffix_left_out}
use Rattle.declared_names.specs.binder.specs.Said.{Said, declares, type_named, new_named, constant_expression, expression, redimmed, goes_to, raises}
use Rattle.declared_names.specs.binder.specs.Said as say
use Rattle.declared_names.specs.binder.specs.Scopes.{Scope, Use, plainly, called, before_dot, Qualifier, qualifier_of}
use Rattle.declared_names.specs.binder.specs.Violations.{behind_fault, names_said, names_unknown, unknown_in_args}
use Rattle.use_rules.specs.Asked.{at_dotted, names_asked, asked_in_args, said_asked, said_faults}
use Rattle.use_rules.specs.declared.question.Question.{Question}
use Rattle.use_rules.specs.declared.question.Question.TheVariants.{IsUnknown, IsLeftOut}

both : {A : Type 0} (x y z w : List A) → x ≡ z → y ≡ w → x ++ y ≡ z ++ w
both x y z w first second = cc

-- a name behind a dot
dotted_unknown : (s : Scope) (within : Bool) (q : Option Qualifier) (how : Use) (x : Identifier) (base : List Place)
    → at_dotted s (IsUnknown within) q how x base ≡ behind_fault s q how x base
dotted_unknown s within None how x base = append-nil base
dotted_unknown s within (Some q) how x base = refl

dotted_left_out : (s : Scope) (q : Option Qualifier) (how : Use) (x : Identifier) (base : List Place)
    → at_dotted s IsLeftOut q how x base ≡ behind_left_out s q how x base ++ suffix_left_out x
dotted_left_out s None how x base = refl
dotted_left_out s (Some q) how x base = refl

mutual
  unknown_asked : (s : Scope) (within : Bool) (how : Use) (e : Expr) → names_asked s (IsUnknown within) how e ≡ names_unknown s within how e
  unknown_asked s within how (literal l) = refl
  unknown_asked s within how (me token) = refl
  unknown_asked s within how (name x) = refl
  unknown_asked s within how (with_member dot x) = refl
  unknown_asked s within how (member base dot x) =
      dotted_unknown s within (qualifier_of s base) how x (names_asked s (IsUnknown within) before_dot base)
      ∙ ap (behind_fault s (qualifier_of s base) how x) (unknown_asked s within before_dot base)
  unknown_asked s within how (index base left args right) =
      both _ _ _ _ (unknown_asked s within called base) (unknown_asked_in s within args)
  unknown_asked s within how (parenthesised left e right) = unknown_asked s within plainly e
  unknown_asked s within how (new new_word t) = refl
  unknown_asked s within how (type_of type_of_word e is_word t) = unknown_asked s within plainly e
  unknown_asked s within how (unary operator token e) = unknown_asked s within plainly e
  unknown_asked s within how (binary l operator token r) = both _ _ _ _ (unknown_asked s within plainly l) (unknown_asked s within plainly r)

  unknown_asked_in : (s : Scope) (within : Bool) (xs : Args) → asked_in_args s (IsUnknown within) xs ≡ unknown_in_args s within xs
  unknown_asked_in s within no_args = refl
  unknown_asked_in s within (missing before comma) = unknown_asked_in s within before
  unknown_asked_in s within (plain before comma e) = both _ _ _ _ (unknown_asked_in s within before) (unknown_asked s within plainly e)
  unknown_asked_in s within (expr.named before comma x mark e) = both _ _ _ _ (unknown_asked_in s within before) (unknown_asked s within plainly e)

mutual
  left_out_asked : (s : Scope) (how : Use) (e : Expr) → names_asked s IsLeftOut how e ≡ names_left_out s how e
  left_out_asked s how (literal l) = refl
  left_out_asked s how (me token) = refl
  left_out_asked s how (name x) = refl
  left_out_asked s how (with_member dot x) = refl
  left_out_asked s how (member base dot x) =
      dotted_left_out s (qualifier_of s base) how x (names_asked s IsLeftOut before_dot base)
      ∙ ap (λ places. behind_left_out s (qualifier_of s base) how x places ++ suffix_left_out x) (left_out_asked s before_dot base)
  left_out_asked s how (index base left args right) = both _ _ _ _ (left_out_asked s called base) (left_out_asked_in s args)
  left_out_asked s how (parenthesised left e right) = left_out_asked s plainly e
  left_out_asked s how (new new_word t) = refl
  left_out_asked s how (type_of type_of_word e is_word t) = left_out_asked s plainly e
  left_out_asked s how (unary operator token e) = left_out_asked s plainly e
  left_out_asked s how (binary l operator token r) = both _ _ _ _ (left_out_asked s plainly l) (left_out_asked s plainly r)

  left_out_asked_in : (s : Scope) (xs : Args) → asked_in_args s IsLeftOut xs ≡ left_out_in_args s xs
  left_out_asked_in s no_args = refl
  left_out_asked_in s (missing before comma) = left_out_asked_in s before
  left_out_asked_in s (plain before comma e) = both _ _ _ _ (left_out_asked_in s before) (left_out_asked s plainly e)
  left_out_asked_in s (expr.named before comma x mark e) = both _ _ _ _ (left_out_asked_in s before) (left_out_asked s plainly e)

-- what is said
unknown_said : (s : Scope) (within : Bool) (said : Said) → said_asked s (IsUnknown within) said ≡ names_said s within said
unknown_said s within (declares l) = refl
unknown_said s within (type_named t) = refl
unknown_said s within (new_named t) = refl
unknown_said s within (constant_expression e) = unknown_asked s within plainly e
unknown_said s within (expression e) = unknown_asked s within plainly e
unknown_said s within (say.called e) = unknown_asked s within called e
unknown_said s within (redimmed e clause) = unknown_asked s within plainly e
unknown_said s within (goes_to l) = refl
unknown_said s within (raises x) = refl

left_out_said : (s : Scope) (said : Said) → said_asked s IsLeftOut said ≡ said_left_out s said
left_out_said s (declares l) = refl
left_out_said s (type_named t) = refl
left_out_said s (new_named t) = refl
left_out_said s (constant_expression e) = left_out_asked s plainly e
left_out_said s (expression e) = left_out_asked s plainly e
left_out_said s (say.called e) = left_out_asked s called e
left_out_said s (redimmed e clause) = left_out_asked s plainly e
left_out_said s (goes_to l) = refl
left_out_said s (raises x) = refl

all_same : (f g : Said → List Place) → ((said : Said) → f said ≡ g said) → (all : List Said) → flat_map f all ≡ flat_map g all
all_same f g same [] = refl
all_same f g same (said ∷ all) = both _ _ _ _ (same said) (all_same f g same all)

pub rules_asked : (s : Scope) (question : Question) (all : List Said) → flat_map (said_asked s question) all ≡ flat_map (said_faults s question) all
rules_asked s (IsUnknown within) all = all_same (said_asked s (IsUnknown within)) (names_said s within) (unknown_said s within) all
rules_asked s IsLeftOut all = all_same (said_asked s IsLeftOut) (said_left_out s) (left_out_said s) all
