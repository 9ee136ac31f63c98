-- Serves the code: a command as the code holds it.
use Rattle.std.specs.Prelude.{option_map}
use Rattle.command_words.specs.Words as words
use Rattle.command_words.specs.declared.command.Command.{Command}
use Rattle.command_words.specs.declared.command.Command.TheVariants.{Run, Check, Code}

-- the command that it is
abbrev pub command_view : Command → words.Command
command_view (Run file turns trace save) = words.run file.now turns trace (option_map (λ suffix. suffix.now) save)
command_view (Check file) = words.check file.now
command_view (Code file) = words.code file.now
