-- What the code's commands are in the definitions.
use Rattle.std.specs.Prelude.{ℕ, List}
use Rattle.jp_model.specs.Script.Commands as script
use Rattle.jp_model.specs.Script.Commands.{command_of, without_final_cr}
use Rattle.jp_cli.specs.declared.command.Command.{Command}
use Rattle.jp_cli.specs.declared.command.Command.TheVariants as commands

-- a command of the code, as the definitions have it
abbrev pub command_view : Command → script.Command
command_view commands.Empty = script.empty_line
command_view (commands.Query argument) = script.query_line argument.now
command_view (commands.Explain argument) = script.explain_line argument.now
command_view (commands.Index argument) = script.index_line argument.now
command_view (commands.Drop argument) = script.drop_line argument.now
command_view commands.Indexes = script.indexes_line
command_view commands.Check = script.check_line
command_view (commands.Append text) = script.append_line text.now
command_view (commands.Replace number text) = script.replace_line number text.now
command_view commands.Unknown = script.unknown_line

-- what a line of the script asks for, as it came: one final CR is dropped
abbrev pub asked_in : List ℕ → script.Command
asked_in line = command_of (without_final_cr line)
