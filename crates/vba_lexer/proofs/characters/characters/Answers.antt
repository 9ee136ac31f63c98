use Rattle.std.proofs.Common.{◌≡◌, ◌≤◌, ◌++◌, ◌∷◌, [], arith, ap, ◌∙◌, sym, length, drop, length-drop}
use Rattle.std.proofs.lemmas.List.{append-nil, take_rest, drop_all}
use Rattle.vba_lexer.specs.Characters.{characters_of, units_of}
use Rattle.vba_lexer.proofs.CharacterLemmas.{next_character, units_of-characters_of}
use Rattle.vba_lexer.proofs.characters.characters.Goals as goal

pub loop-place-preserved : goal.loop-place-preserved
loop-place-preserved c =
    let first : characters_of (drop c.loop-place.place c.args.units.now)
    ≡ c.first_character-character.result.0 ∷ characters_of (drop c.first_character-character.result.1 (drop c.loop-place.place c.args.units.now)) =
    rw take_rest at c.first_character-character.ensures.first in
    let within : c.first_character-character.result.1 ≤ length (drop c.loop-place.place c.args.units.now) =
    rw take_rest at c.first_character-character.ensures.within in
    record {
      within = omega (arith, length-drop c.loop-place.place c.args.units.now);
      goes_on = next_character c.args.units.now c.loop-place.found.items c.push.new.self.items c.loop-place.place _ _ c.loop-place.invariant.goes_on first
          c.in_ok-push.ensures.items;
    }

pub returns-clause-size : goal.returns-clause-size
returns-clause-size c =
    let e : c.loop-place.found.items ++ characters_of (drop c.loop-place.place c.args.units.now) ≡ characters_of c.args.units.now =
    c.loop-place.invariant.goes_on in
    let f : drop c.loop-place.place c.args.units.now ≡ [] = drop_all c.loop-place.place c.args.units.now (omega arith) in
    let all : c.loop-place.found.items ≡ characters_of c.args.units.now = sym (append-nil c.loop-place.found.items) ∙ (rw f at e) in
    ap units_of all ∙ units_of-characters_of c.args.units.now (λ place. omega (arith, c.type_inv.units place))
