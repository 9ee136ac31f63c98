-- Where the trees begin that the trees of the code stand for.
use Rattle.std.proofs.Common.{◌≡◌, List, sym, rules}
use Rattle.std.specs.Prelude.{Box}
use Rattle.std.specs.declared.alloc.Global.{Global}
use Rattle.vba_lexer.specs.declared.token.Token.{Token}
use Rattle.vba_tree.specs.declared.statement.NextStatement as next
use Rattle.vba_tree.specs.declared.statement.Statement.{Statement}
use Rattle.vba_tree.specs.Spelling.{spell_statements}
use Rattle.vba_tree.specs.Tree.{nothing}
use Rattle.vba_tree.specs.View.{Next, written, missing, put, put_all, next_view, statement_view}
use Rattle.vba_module.specs.Parts.{nowhere, first_place}
use Rattle.module_parts.proofs.Firsts.{written_front, missing_front}

written_view : (colon : Token) (s : Box Statement Global) → next_view (next.Written colon s) ≡ written colon (statement_view s.value)
written_view colon s = search (rules, next.the_lemmas)

-- a line whose first statement is missing begins with its first colon
pub written_begins : (colon : Token) (s : Box Statement Global) (others : List Next)
    → colon.place ≡ first_place nowhere (spell_statements (put_all (put nothing (next_view (next.Written colon s))) others))
written_begins colon s others = rw (written_view colon s) (sym (written_front colon (statement_view s.value) others))

missing_view : (colon : Token) → next_view (next.Missing colon) ≡ missing colon
missing_view colon = search (rules, next.the_lemmas)

pub missing_begins : (colon : Token) (others : List Next)
    → colon.place ≡ first_place nowhere (spell_statements (put_all (put nothing (next_view (next.Missing colon))) others))
missing_begins colon others = rw (missing_view colon) (sym (missing_front colon others))
