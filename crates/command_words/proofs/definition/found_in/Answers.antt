use Rattle.std.proofs.Common.{◌∙◌, ap, map, string_bytes, option_map}
use Rattle.std.proofs.lemmas.Result.{IfOk-weaker}
use Rattle.clap.specs.Matches.{found_of}
use Rattle.clap.specs.Simple.{app_of}
use Rattle.clap.specs.Walk.{rows_of}
use Rattle.command_words.proofs.Found.{found_matches, found_none}
use Rattle.command_words.proofs.definition.found_in.Goals as goal

pub returns-in-Ok : goal.returns-in-Ok
returns-in-Ok c =
    found_matches (app_of c.args.definition) (map string_bytes c.args.words.now) c.in-Ok.matches c.requires (c.in-Ok.ensures.kinds c.requires) c.in-Ok.ensures.matches

-- the error's kind is no want of memory where there is an answer
pub returns-in-Err : goal.returns-in-Err
returns-in-Err c =
    IfOk-weaker c.refused.result _ _ (λ found given.
    ap (option_map (λ matches. rows_of (found_of matches))) given.1
    ∙ found_none (app_of c.args.definition) (map string_bytes c.args.words.now) c.in-Err.error
    (λ memory. given.0 (c.kind.ensures ∙ memory)) (c.in-Err.ensures.kinds c.requires)) c.refused.ensures
