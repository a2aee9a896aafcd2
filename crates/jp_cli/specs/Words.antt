-- What the program's arguments ask for (profile): `jpq FILE [-c COMMAND].. [--script FILE] [--seq]`, read as the crate `clap`
-- reads arguments.
use Rattle.std.specs.Prelude.{true, false, List, [], ◌∷◌, Option, Some, None, codes, if◌then◌else◌, unwrap_or}
use Rattle.std.specs.Option.{option_map_or}
use Rattle.std.specs.Str.{bytes_eq}
use Rattle.clap.specs.Words.{App, Kinds, Row, Rule, Text, all_of, fault_of, first_of, matches_of, new_app, new_rule, with_rule}
use Rattle.clap.specs.Kinds.{or_else}
use Rattle.clap.specs.declared.builder.action.ArgAction.TheVariants.{Append, Set, SetTrue}
use Rattle.clap.specs.declared.error.kind.ErrorKind.TheVariants.{ArgumentConflict, MissingRequiredArgument}
use Rattle.jp_model.specs.declared.Framing.{Framing}
use Rattle.jp_model.specs.declared.Framing.TheVariants.{Lines, Sequence}

-- FILE, the collection: it has to be there
abbrev pub file_rule : Rule
file_rule = record (new_rule (codes "file")) { required = true; action = Some Set; value_names = 1 }

-- `-c` or `--command`, with one value each time; it may be left out, and be given again and again
abbrev pub command_rule : Rule
command_rule = record (new_rule (codes "command")) {
  long = Some (codes "command");
  short = Some 0x63;
  action = Some Append;
  value_names = 1;
}

-- `--script`, with one value; it may be left out
abbrev pub script_rule : Rule
script_rule = record (new_rule (codes "script")) {
  long = Some (codes "script");
  action = Some Set;
  value_names = 1;
}

-- `--seq`, a flag; it may be left out
abbrev pub seq_rule : Rule
seq_rule = record (new_rule (codes "seq")) { long = Some (codes "seq"); action = Some SetTrue }

-- a command that tells its version where it is asked for it
abbrev pub with_version : App → App
with_version app = record app { top = record app.top { has_version = true } }

-- the arguments that the program takes
abbrev pub program : App
program = with_rule (with_rule (with_rule (with_rule (with_version (new_app (codes "jpq"))) file_rule) command_rule) script_rule) seq_rule

-- what the command line gives each argument, its first text being the program's own name
unfoldable pub found_in : List Text → List Row
found_in words = matches_of program words

-- the commands that stand among the arguments, in their order
abbrev pub commands_in : List Row → List Text
commands_in found = unwrap_or (all_of (codes "command") found) []

-- why a file, a script and commands do not go together: the script is named twice, or standard input would be both the
-- collection and the script
abbrev pub source_faults : Text → Option Text → List Text → Kinds
source_faults file (Some script) (c ∷ cs) = ArgumentConflict ∷ []
source_faults file (Some script) [] = []
source_faults file None (c ∷ cs) = []
source_faults file None [] = if bytes_eq file (codes "-") then MissingRequiredArgument ∷ [] else []

-- the same of what was found in the arguments
abbrev pub source_faults_in : List Row → Kinds
source_faults_in found = source_faults (unwrap_or (first_of (codes "file") found) []) (first_of (codes "script") found) (commands_in found)

-- why the arguments are refused as they are read: the kinds that the error may have, and none where they are taken
unfoldable pub parse_faults : List Text → Kinds
parse_faults words = fault_of program words

-- why the arguments are refused: as they are read, or after that for their sources
abbrev pub faults_in : List Text → Kinds
faults_in words = or_else (parse_faults words) (source_faults_in (found_in words))

-- the framing by the value of the flag `--seq`, which is `true` where the flag is given
abbrev pub framing_of : Option Text → Framing
framing_of value = if option_map_or (λ v. bytes_eq v (codes "true")) value false then Sequence else Lines
