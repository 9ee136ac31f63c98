-- The Exits of statements, and the faults of more of them.
use Rattle.std.proofs.Common.{◌≡◌, List, [], ◌∷◌, ◌++◌, refl, sym, ap, ◌∙◌, append_assoc}
use Rattle.vba_base.specs.declared.place.Place.{Place}
use Rattle.vba_tree.specs.Tree as tree
use Rattle.vba_module.specs.Blocks.{Kind, Open, nearest, unless_found, exit_faults, exits_of, role_of_block, role_of_line, role_of}
use Rattle.vba_module.specs.Parts as parts
use Rattle.module_rules.specs.Statements.{exits_in}

pub exit_faults_append : (opened : List Open) (exits others : List (Kind × Place))
    → exit_faults opened (exits ++ others) ≡ exit_faults opened exits ++ exit_faults opened others
exit_faults_append opened [] others = refl
exit_faults_append opened (found ∷ exits) others =
    ap (λ rest. unless_found found.1 (nearest found.0 opened) ++ rest) (exit_faults_append opened exits others)
    ∙ sym (append_assoc (unless_found found.1 (nearest found.0 opened)) (exit_faults opened exits) (exit_faults opened others))

-- the lines of blocks have none
block_exits : (line : tree.BlockLine) → exits_in (role_of_block line) ≡ []
block_exits (tree.if_line w e v) = refl
block_exits (tree.else_if_line w e v) = refl
block_exits (tree.else_line w) = refl
block_exits (tree.end_if w v) = refl
block_exits (tree.select_case w v e) = refl
block_exits (tree.case_line w tests) = refl
block_exits (tree.case_else w v) = refl
block_exits (tree.end_select w v) = refl
block_exits (tree.for_line w name equal e v f step) = refl
block_exits (tree.for_each w v name u e) = refl
block_exits (tree.next_line w name) = refl
block_exits (tree.do_line w condition) = refl
block_exits (tree.loop_line w condition) = refl
block_exits (tree.while_line w e) = refl
block_exits (tree.wend w) = refl
block_exits (tree.with_line w e) = refl
block_exits (tree.end_with w v) = refl

simple_exits : (s : tree.Simple) → exits_in (role_of (parts.statement (tree.simple s))) ≡ exits_of (tree.simple s)
simple_exits (tree.block_line line) = block_exits line
simple_exits other = refl

pub statement_exits : (s : tree.Stmt) → exits_in (role_of (parts.statement s)) ≡ exits_of s
statement_exits (tree.simple s) = simple_exits s
statement_exits (tree.if_then w e v ss) = refl
statement_exits (tree.if_else w e v ss l us) = refl

pub line_exits : (line : tree.Line) → exits_in (role_of_line line) ≡ []
line_exits (tree.enum_header header) = refl
line_exits (tree.end_enum w v) = refl
line_exits (tree.type_header header) = refl
line_exits (tree.end_type w v) = refl
line_exits (tree.procedure_header access static_word kind name parameters result_type) = refl
line_exits (tree.procedure_end ending) = refl
line_exits other = refl
