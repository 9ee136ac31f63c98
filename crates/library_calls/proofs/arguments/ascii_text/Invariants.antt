use Rattle.std.proofs.Common.{◌≡◌, take}
use Rattle.library_calls.proofs.arguments.ascii_text.Given as goal

abbrev pub invariant-loop-character : goal.invariant-loop-character
invariant-loop-character l = l.text ≡ take l.character-index l.characters
