use Rattle.std.proofs.Common.{◌≡◌, ◌∙◌, ap, sym, true, false, None}
use Rattle.std.specs.Prelude.{codes, ◌&&◌}
use Rattle.vba_lexer.specs.Header.{spells, trimmed, begins_with_line, header_behind}
use Rattle.vba_lexer.specs.Lines.{lines_of}
use Rattle.vba_lexer.proofs.Headers.{and_false}
use Rattle.vba_lexer.proofs.header.header_behind.Goals as goal
use Rattle.vba_lexer.proofs.header.header_behind.Goals.{else-spells-via-then-spells+else-begins_with_line, else-spells-via-else-spells}

pub returns-then-begins_with_line : goal.returns-then-begins_with_line
returns-then-begins_with_line c =
    let words : spells (codes "version 1.0 class") (trimmed c.args.text.now) ≡ true =
    ap (spells (codes "version 1.0 class")) (sym c.trimmed.ensures) ∙ sym c.spells.ensures ∙ c.if-spells.true in
    let next : begins_with_line (codes "begin") (lines_of c.args.source.now) ≡ true = sym c.begins_with_line.ensures ∙ c.if-begins_with_line.true in
    record { value = rw (words, next) c.lines_to_end.ensures.value; within = c.lines_to_end.ensures.within }

pub returns-else-spells : goal.returns-else-spells
returns-else-spells c =
    let none : header_behind (record { text = c.args.text.now; ending = c.args.ending }) (lines_of c.args.source.now) ≡ None =
    elim c.else-spells.branch [
      | else-spells-via-then-spells+else-begins_with_line w ↦
          let next : begins_with_line (codes "begin") (lines_of c.args.source.now) ≡ false = sym w.begins_with_line.ensures ∙ w.if-begins_with_line.false in
          let e : (spells (codes "version 1.0 class") (trimmed c.args.text.now) && begins_with_line (codes "begin") (lines_of c.args.source.now)) ≡ false =
          ap (λ b. spells (codes "version 1.0 class") (trimmed c.args.text.now) && b) next ∙ and_false (spells (codes "version 1.0 class") (trimmed c.args.text.now)) in
          rw e
      | else-spells-via-else-spells w ↦
          let words : spells (codes "version 1.0 class") (trimmed c.args.text.now) ≡ false =
          ap (spells (codes "version 1.0 class")) (sym c.trimmed.ensures) ∙ sym c.spells.ensures ∙ w.if-spells.false in
          rw words
    ] in
    record { value = sym none; within = tt }
