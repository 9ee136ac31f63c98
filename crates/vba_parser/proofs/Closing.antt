-- Single-line Ifs that end one after another, from the innermost.
use Rattle.std.proofs.Common.{◌≡◌, true, List, [], ◌∷◌, ◌++◌, Option, Some, None, refl, ap, sym, subst, ◌∙◌}
use Rattle.std.specs.Prelude.{map, reverse}
use Rattle.std.proofs.lemmas.List.{map-append, reverse-append}
use Rattle.vba_lexer.specs.declared.token.Token.{Token}
use Rattle.vba_expression.specs.View.{view as expression_view}
use Rattle.vba_tree.specs.Forms.{begins}
use Rattle.vba_tree.specs.Tree.{if_then, if_else, Stmts}
use Rattle.vba_grammar.specs.Lists.{in_list, Frame, then_frame, else_frame, State, need, with_else, closed}
use Rattle.vba_parser.specs.Begun.{ended, AreBegun}
use Rattle.vba_parser.specs.Seen.{head_place, else_view, frame_view, stack}
use Rattle.vba_parser.specs.declared.frame.Frame as declared
use Rattle.vba_parser.specs.declared.frame.Frame.TheVariants as frames
use Rattle.vba_parser.specs.declared.frame.IfHead.{IfHead}
use Rattle.vba_parser.specs.declared.frame.ElseHead.{ElseHead}
use Rattle.vba_parser.proofs.Begun.{put_begun}

-- no If is open
pub stack_nothing : stack [] ≡ []
unfolding stack
stack_nothing = refl

-- one more If is open
pub stack_push : (waiting : List declared.Frame) (frame : declared.Frame) → stack (waiting ++ frame ∷ []) ≡ frame_view frame ∷ stack waiting
unfolding stack
stack_push waiting frame = ap reverse (map-append frame_view waiting (frame ∷ [])) ∙ reverse-append (map frame_view waiting) (frame_view frame ∷ [])

-- the innermost of them
frame_begun : (held : Stmts) (f : Frame) (fs : List Frame) → AreBegun (begins held) (f ∷ fs) → begins held ≡ true
frame_begun held (then_frame place w e v) fs h = h.0
frame_begun held (else_frame place w e v ss l) fs h = h.0

-- the others, when it ends
others_begun : (held : Stmts) (f : Frame) (fs : List Frame) → AreBegun (begins held) (f ∷ fs) → AreBegun (begins (ended f held)) fs
others_begun held (then_frame place w e v) fs h = put_begun place (if_then w e v held) fs h.1
others_begun held (else_frame place w e v ss l) fs h = put_begun place (if_else w e v ss l held) fs h.1

closed_frame : (held : Stmts) (f : Frame) (fs : List Frame) → closed held (f ∷ fs) ≡ closed (ended f held) fs
closed_frame held (then_frame place w e v) fs = refl
closed_frame held (else_frame place w e v ss l) fs = refl

-- the Ifs that wait end with these statements, and then the line has the wanted ones
pub record Closing (wanted : Stmts) (held : Stmts) (waiting : List declared.Frame) : Type 0 where
  pub same : closed held (stack waiting) ≡ wanted
  pub begun : AreBegun (begins held) (stack waiting)

pub closes : (held : Stmts) (waiting : List declared.Frame) → AreBegun (begins held) (stack waiting) → Closing (closed held (stack waiting)) held waiting
closes held waiting h = record { same = refl; begun = h }

others_wait : (held : Stmts) (all waiting : List declared.Frame) (frame : declared.Frame)
    → all ≡ waiting ++ frame ∷ [] → AreBegun (begins held) (stack all) → AreBegun (begins held) (frame_view frame ∷ stack waiting)
others_wait held all waiting frame e h = subst (AreBegun (begins held)) (ap stack e ∙ stack_push waiting frame) h

pub closing_begun : (wanted held : Stmts) (all waiting : List declared.Frame) (frame : declared.Frame)
    → all ≡ waiting ++ frame ∷ [] → Closing wanted held all → begins held ≡ true
closing_begun wanted held all waiting frame e h =
    frame_begun held (frame_view frame) (stack waiting) (others_wait held all waiting frame e h.begun)

pub closes_more : (wanted held next : Stmts) (all waiting : List declared.Frame) (frame : declared.Frame)
    → all ≡ waiting ++ frame ∷ [] → Closing wanted held all → next ≡ ended (frame_view frame) held → Closing wanted next waiting
closes_more wanted held next all waiting frame e h is_next =
    let P : Stmts → Type 0 = λ ss. AreBegun (begins ss) (stack waiting) in
    record {
      same =
          ap (λ ss. closed ss (stack waiting)) is_next
          ∙ sym (closed_frame held (frame_view frame) (stack waiting))
          ∙ sym (ap (closed held) (ap stack e ∙ stack_push waiting frame))
          ∙ h.same;
      begun = subst P (sym is_next) (others_begun held (frame_view frame) (stack waiting) (others_wait held all waiting frame e h.begun));
    }

pub closes_none : (wanted held : Stmts) → Closing wanted held [] → held ≡ wanted
closes_none wanted held h = sym (ap (closed held) stack_nothing) ∙ h.same

-- an Else behind these statements and in the Ifs that wait leads to the wanted state
pub record Opening (wanted : Option State) (token : Token) (held : Stmts) (waiting : List declared.Frame) : Type 0 where
  pub same : with_else held (stack waiting) token ≡ wanted
  pub begun : AreBegun (begins held) (stack waiting)

pub opens : (token : Token) (held : Stmts) (waiting : List declared.Frame)
    → AreBegun (begins held) (stack waiting) → Opening (with_else held (stack waiting) token) token held waiting
opens token held waiting h = record { same = refl; begun = h }

pub opening_begun : (wanted : Option State) (token : Token) (held : Stmts) (waiting : List declared.Frame) (frame : declared.Frame)
    → Opening wanted token held (waiting ++ frame ∷ []) → begins held ≡ true
opening_begun wanted token held waiting frame h =
    frame_begun held (frame_view frame) (stack waiting) (subst (AreBegun (begins held)) (stack_push waiting frame) h.begun)

-- the innermost If has no Else
pub opens_else : (wanted : Option State) (token : Token) (held : Stmts) (waiting : List declared.Frame) (head : IfHead) (s : State)
    → Opening wanted token held (waiting ++ frames.Then head ∷ [])
    → s ≡ need in_list (else_frame (head_place head) head.if_word (expression_view head.condition) head.then_word held token ∷ stack waiting)
    → Some s ≡ wanted
opens_else wanted token held waiting head s h e =
    ap Some e ∙ sym (ap (λ fs. with_else held fs token) (stack_push waiting (frames.Then head))) ∙ h.same

-- it has one, and ends
pub opens_more : (wanted : Option State) (token : Token) (held next : Stmts) (all waiting : List declared.Frame) (frame : declared.Frame) (head : ElseHead)
    → all ≡ waiting ++ frame ∷ [] → frame ≡ frames.Else head → Opening wanted token held all → next ≡ ended (else_view head) held
    → Opening wanted token next waiting
opens_more wanted token held next all waiting frame head e is_else h is_next =
    let made = frames.Else head in
    let last : all ≡ waiting ++ made ∷ [] = e ∙ ap (λ f. waiting ++ f ∷ []) is_else in
    let P : Stmts → Type 0 = λ ss. AreBegun (begins ss) (stack waiting) in
    record {
      same =
          ap (λ ss. with_else ss (stack waiting) token) is_next
          ∙ sym (ap (λ fs. with_else held fs token) (ap stack last ∙ stack_push waiting made))
          ∙ h.same;
      begun = subst P (sym is_next) (others_begun held (frame_view made) (stack waiting) (others_wait held all waiting made last h.begun));
    }

-- no If waits
pub opens_none : (wanted : Option State) (token : Token) (held : Stmts) → Opening wanted token held [] → None ≡ wanted
opens_none wanted token held h = sym (ap (λ fs. with_else held fs token) stack_nothing) ∙ h.same
