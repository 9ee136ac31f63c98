use Rattle.std.proofs.Common.{◌≡◌, true, length}
use Rattle.vba_module.specs.Outside.{form_in}
use Rattle.vba_parser.proofs.form.form_in.Given as goal

abbrev pub invariant-tokens : goal.invariant-tokens
invariant-tokens l = form_in l.may_begin l.left ≡ form_in true l.fn.tokens

abbrev pub decreases-tokens : goal.decreases-tokens
decreases-tokens l = length l.left
