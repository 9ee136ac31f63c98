use Rattle.std.proofs.Common.{◌≡◌, ◌-◌, length, [], ◌∷◌, ◌++◌, ◌∙◌}
use Rattle.std.specs.List.{slice_get}
use Rattle.std.specs.Option.{option_copied}
use Rattle.vba_words.proofs.Lines.{read_more}
use Rattle.vba_words.proofs.read.read_tokens.Goals as goal

pub loop-token-preserved : goal.loop-token-preserved
loop-token-preserved c =
    let items : c.push.new.self.items ≡ c.loop-token.found.items ++ c.in_ok-next.next ∷ [] = c.in_ok-push.ensures.items in
    let last : option_copied c.last-before.result ≡ slice_get c.loop-token.found.items (length c.loop-token.found.items - 1) =
    rw c.deref.ensures.value at c.last-before.ensures.value in
    rw items
    (read_more _ _ _ _ _ c.loop-token.token-index _ _ _ c.loop-token-test.true last c.in_ok-next.ensures c.context_behind-context.ensures ∙ c.loop-token.invariant)
