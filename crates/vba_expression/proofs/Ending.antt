-- Where more than one frame waits, nothing is finished.
use Rattle.std.proofs.Common.{◌≡◌, suc, ◌<◌, List, [], ◌∷◌, ◌++◌, length, None, refl, ap, arith}
use Rattle.std.specs.Prelude.{reverse}
use Rattle.std.proofs.lemmas.List.{length-reverse, length-append}
use Rattle.vba_expression.specs.declared.frame.Frame as declared
use Rattle.vba_expression.specs.declared.frame.Frame.TheVariants as held
use Rattle.vba_expression.specs.Tree.{Expr}
use Rattle.vba_expression.specs.Nodes.{Item}
use Rattle.vba_expression.specs.Reader.{call, Frame, whole, argument, named_argument, want, have, finished, finished_arguments}
use Rattle.vba_expression.specs.Seen.{waiting_on, waiting}

waiting_long : (fs : List declared.Frame) (items : List Item) → length (waiting_on fs items) ≡ length fs
waiting_long [] items = refl
waiting_long (held.Whole limit ∷ fs) items = ap suc (waiting_long fs _)
waiting_long (held.RightOperand o t ∷ fs) items = ap suc (waiting_long fs _)
waiting_long (held.UnaryOperand u t ∷ fs) items = ap suc (waiting_long fs _)
waiting_long (held.Inner l ∷ fs) items = ap suc (waiting_long fs _)
waiting_long (held.TypeOfOperand w ∷ fs) items = ap suc (waiting_long fs _)
waiting_long (held.Argument h c ∷ fs) items = ap suc (waiting_long fs _)
waiting_long (held.NamedArgument h c x g ∷ fs) items = ap suc (waiting_long fs _)

many : (fs : List declared.Frame) (items : List Item) → 1 < length fs → 1 < length (waiting fs items)
many fs items h = omega (arith, waiting_long (reverse fs) items, length-reverse fs)

two_whole : (e : Expr) (fs : List Frame) → 1 < length fs → None ≡ finished (have e fs)
two_whole e [] h = absurd (omega arith)
two_whole e (f ∷ []) h = absurd (omega arith)
two_whole e (whole limit ∷ g ∷ fs) h = refl
two_whole e (other ∷ g ∷ fs) h = refl

two_having : (e : Expr) (fs : List Frame) → 1 < length fs → None ≡ finished_arguments (have e fs)
two_having e [] h = absurd (omega arith)
two_having e (f ∷ []) h = absurd (omega arith)
two_having e (argument call xs c ∷ g ∷ fs) h = refl
two_having e (named_argument call xs c x k ∷ g ∷ fs) h = refl
two_having e (other ∷ g ∷ fs) h = refl

two_wanting : (fs : List Frame) → 1 < length fs → None ≡ finished_arguments (want fs)
two_wanting [] h = absurd (omega arith)
two_wanting (f ∷ []) h = absurd (omega arith)
two_wanting (argument call xs c ∷ g ∷ fs) h = refl
two_wanting (other ∷ g ∷ fs) h = refl

pub not_whole : (fs : List declared.Frame) (e : Expr) (items : List Item) → 1 < length fs → None ≡ finished (have e (waiting fs items))
not_whole fs e items h = two_whole e (waiting fs items) (many fs items h)

pub not_last : (fs : List declared.Frame) (f : declared.Frame) (e : Expr) (items : List Item) → 0 < length fs
    → None ≡ finished_arguments (have e (waiting (fs ++ f ∷ []) items))
not_last fs f e items h = two_having e (waiting (fs ++ f ∷ []) items) (many (fs ++ f ∷ []) items (omega (arith, length-append fs (f ∷ []))))

pub not_wanted : (fs : List declared.Frame) (items : List Item) → 1 < length fs → None ≡ finished_arguments (want (waiting fs items))
not_wanted fs items h = two_wanting (waiting fs items) (many fs items h)
