use Rattle.std.proofs.Common.{◌≡◌, get_or, arith}
use Rattle.vba_lexer.specs.Numbers.{digit_value}
use Rattle.vba_lexer.proofs.NumberLemmas.{next_digit}
use Rattle.vba_lexer.proofs.number.digits_value.Goals as goal
use Rattle.vba_lexer.proofs.number.digits_value.Goals.{then-value-gt-LIMIT, else-value-gt-LIMIT}

pub loop-digit-preserved : goal.loop-digit-preserved
loop-digit-preserved c =
    let digit : c.digit_value.result ≡ digit_value (get_or c.args.digits.now c.loop-digit.digit-index 0) = c.digit_value.ensures.value in
    record {
      cut = elim c.if-value-gt-LIMIT.branch [ then-value-gt-LIMIT w ↦ omega arith | else-value-gt-LIMIT w ↦ omega arith ];
      goes_on =
          next_digit 0x1_0000_0000_0000_0000 c.args.base c.loop-digit.value c.if-value-gt-LIMIT.value c.loop-digit.digit-index _ c.args.digits.now
          c.requires.some (omega arith) c.loop-digit.invariant.goes_on
          (λ above. elim c.if-value-gt-LIMIT.branch [ then-value-gt-LIMIT w ↦ omega arith | else-value-gt-LIMIT w ↦ omega arith ])
          (λ below. elim c.if-value-gt-LIMIT.branch [ then-value-gt-LIMIT w ↦ omega arith | else-value-gt-LIMIT w ↦ omega arith ]);
    }
