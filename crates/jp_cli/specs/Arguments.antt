-- What the program's arguments have in common, and what they ask for.
use Rattle.std.specs.Prelude.{◌≡◌, false, List, Some, codes, map, option_map}
use Rattle.clap.specs.Built.{IsPlainArg}
use Rattle.clap.specs.Words.{Row, Rule, Text, first_of, rule_of}
use Rattle.clap.specs.declared.builder.arg.Arg.{Arg}
use Rattle.jp_cli.specs.Words.{commands_in, framing_of}
use Rattle.jp_cli.specs.declared.words.Options.{Options}

-- an argument of this rule and name, which clap treats in no special way
pub record IsArgument (arg : Arg) (wanted : Rule) (name : Text) : Type 0 where
  pub rule : rule_of arg ≡ wanted
  pub id : arg.id.now ≡ name
  pub plain : IsPlainArg arg × (arg.global ≡ false)

-- the options are what the command line gives the arguments
pub record IsAskedBy (found : List Row) (o : Options) : Type 0 where
  pub file : first_of (codes "file") found ≡ Some o.file.now
  pub script : first_of (codes "script") found ≡ option_map (λ s. s.now) o.script
  pub commands : map (λ s. s.now) o.commands.items ≡ commands_in found
  pub framing : o.framing ≡ framing_of (first_of (codes "seq") found)
