use Rattle.std.proofs.Common.{rules, ◌≡◌, Some, None}
use Rattle.vba_words.specs.Readings.{read_line}
use Rattle.vba_tree.specs.View.{view}
use Rattle.vba_grammar.specs.Lines.{line_of}
use Rattle.vba_parser.proofs.Related.{is_read, is_unspelled}
use Rattle.vba_parser.proofs.parse.parse_line.Goals as goal

pub returns-in-Some-clause-read : goal.returns-in-Some-clause-read
returns-in-Some-clause-read c =
    let found : line_of (read_line c.args.source.now c.args.line.now.tokens.items) ≡ Some (view c.in-Some.tree) = search rules in
    is_read _ _ found

pub returns-clause-unspelled : goal.returns-clause-unspelled
returns-clause-unspelled c =
    let none : line_of (read_line c.args.source.now c.args.line.now.tokens.items) ≡ None = search rules in
    is_unspelled _ none
