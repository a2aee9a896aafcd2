-- The program's arguments (profile), read as the crate `clap` reads them: `jpgrep [OPTION].. QUERY [FILE]..`, or with `-e QUERY`
-- or `-w CONDITION` the files alone, and so with `--each QUERY`.
use Rattle.std.specs.Prelude.{◌≡◌, ◌++◌, ◌&&◌, ◌||◌, not, ℕ, Bool, true, false, List, [], ◌∷◌, Option, Some, is_some, codes, ◌==◌, if◌then◌else◌, length, map, max, option_map, unwrap_or}
use Rattle.std.specs.Option.{option_map_or}
use Rattle.std.specs.Str.{bytes_eq}
use Rattle.std.specs.Str.Parse.{digits_value, without_leading_plus}
use Rattle.clap.specs.Kinds.{or_else}
use Rattle.clap.specs.ValueTests.{is_unsigned_in}
use Rattle.clap.specs.Walk.{is_empty}
use Rattle.clap.specs.Words.{App, Kinds, Row, Rule, Text, all_of, fault_of, first_of, matches_of, new_app, new_rule}
use Rattle.clap.specs.declared.builder.action.ArgAction.TheVariants.{Append, Help, Set, SetTrue}
use Rattle.clap.specs.declared.error.kind.ErrorKind.TheVariants.{ArgumentConflict, InvalidValue, MissingRequiredArgument, WrongNumberOfValues}
use Rattle.jp_model.specs.Lines.{pieces}
use Rattle.jp_options.specs.Colour.{colour_of}
use Rattle.jp_options.specs.declared.options.Options.{Options}

-- the arguments that belong to no option, as many as there are
abbrev pub words_rule : Rule
words_rule = record (new_rule (codes "words")) { action = Some Append; value_names = 1 }

-- an option with a letter and a long name, which takes a value each time that it is given
abbrev pub option_rule : Text → ℕ → Text → Rule
option_rule id letter word = record (new_rule id) {
  long = Some word;
  short = Some letter;
  action = Some Append;
  value_names = 1;
}

-- `--in` and `--not-in`, which take a value each time that they are given
abbrev pub list_rule : Text → Rule
list_rule id = record (new_rule id) { long = Some id; action = Some Append; value_names = 1 }

-- `-m`, `-A`, `-B` and `-C`, of which the last value counts
abbrev pub number_rule : Text → ℕ → Text → Rule
number_rule id letter word = record (option_rule id letter word) { action = Some Set }

-- `--names`, `--each`, `--fold` and `--color`, of which the last value counts
abbrev pub value_rule : Text → Rule
value_rule id = record (new_rule id) { long = Some id; action = Some Set; value_names = 1 }

-- a flag with a letter and a long name
abbrev pub flag_rule : Text → ℕ → Text → Rule
flag_rule id letter word = record (new_rule id) { long = Some word; short = Some letter; action = Some SetTrue }

-- a flag with a long name alone
abbrev pub word_rule : Text → Rule
word_rule id = record (new_rule id) { long = Some id; action = Some SetTrue }

-- `--help` asks for the help, and has no letter: `-h` is another flag
abbrev pub help_rule : Rule
help_rule = record (new_rule (codes "help")) { long = Some (codes "help"); action = Some Help }

-- which lines or nodes are selected: QUERY and FILE, `-e`, `-w`, `--each`, `--in`, `--not-in`, `-v`, `--refused`
abbrev pub asking_rules : List Rule
asking_rules = words_rule
    ∷ option_rule (codes "query") 0x65 (codes "query")
    ∷ option_rule (codes "where") 0x77 (codes "where")
    ∷ value_rule (codes "each")
    ∷ list_rule (codes "in")
    ∷ list_rule (codes "not-in")
    ∷ flag_rule (codes "invert") 0x76 (codes "invert-match")
    ∷ word_rule (codes "refused")
    ∷ []

-- what is printed: `-o`, `-p`, `-c`, `-l`, `-L`, `-q`, `--tally`
abbrev pub printing_rules : List Rule
printing_rules = flag_rule (codes "only") 0x6F (codes "only-matching")
    ∷ flag_rule (codes "path") 0x70 (codes "path")
    ∷ flag_rule (codes "count") 0x63 (codes "count")
    ∷ flag_rule (codes "with") 0x6C (codes "files-with-matches")
    ∷ flag_rule (codes "without") 0x4C (codes "files-without-match")
    ∷ flag_rule (codes "quiet") 0x71 (codes "quiet")
    ∷ word_rule (codes "tally")
    ∷ []

-- what of the files is counted: `--paths`, `--fold`
abbrev pub survey_rules : List Rule
survey_rules = word_rule (codes "paths") ∷ value_rule (codes "fold") ∷ []

-- how it is spelled: `-r`, `-j`, `--tsv`, `--csv`, `--header`, `--names`
abbrev pub spelling_rules : List Rule
spelling_rules = flag_rule (codes "raw") 0x72 (codes "raw")
    ∷ flag_rule (codes "canonical") 0x6A (codes "canonical")
    ∷ word_rule (codes "tsv")
    ∷ word_rule (codes "csv")
    ∷ word_rule (codes "header")
    ∷ value_rule (codes "names")
    ∷ []

-- what stands in front, and how many lines are wanted: `-n`, `-H`, `-h`, `-Z`, `-m`
abbrev pub front_rules : List Rule
front_rules = flag_rule (codes "number") 0x6E (codes "line-number")
    ∷ flag_rule (codes "name") 0x48 (codes "with-filename")
    ∷ flag_rule (codes "unnamed") 0x68 (codes "no-filename")
    ∷ flag_rule (codes "null") 0x5A (codes "null")
    ∷ number_rule (codes "most") 0x6D (codes "max-count")
    ∷ value_rule (codes "color")
    ∷ []

-- how many lines around selected lines are shown: `-A`, `-B`, `-C`
abbrev pub context_rules : List Rule
context_rules = number_rule (codes "after") 0x41 (codes "after-context")
    ∷ number_rule (codes "before") 0x42 (codes "before-context")
    ∷ number_rule (codes "around") 0x43 (codes "context")
    ∷ []

-- the others: `-s`, `--check`, `--json`, `--elements`, `--seq`, `--help`
abbrev pub general_rules : List Rule
general_rules = flag_rule (codes "silent") 0x73 (codes "no-messages")
    ∷ word_rule (codes "check")
    ∷ word_rule (codes "json")
    ∷ word_rule (codes "elements")
    ∷ word_rule (codes "seq")
    ∷ help_rule
    ∷ []

-- a command with more rules after those that it has
abbrev pub with_rules : App → List Rule → App
with_rules app rules = record app { top = record app.top { rules = app.top.rules ++ rules } }

-- a command that tells its version where it is asked for it, gets no flag for its help, and takes an option again that was
-- given
abbrev pub with_settings : App → App
with_settings app = record app {
  top = record app.top { has_version = true; disable_help_flag = true; args_override_self = true };
}

-- the arguments that the program takes
abbrev pub program : App
program = with_rules (with_settings (new_app (codes "jpgrep"))) (asking_rules ++ printing_rules ++ survey_rules ++ spelling_rules ++ front_rules ++ context_rules ++ general_rules)

-- what the command line gives each argument, its first text being the program's own name
unfoldable pub found_in : List Text → List Row
found_in words = matches_of program words

-- the values of an argument, in their order
abbrev pub values_in : Text → List Row → List Text
values_in id found = unwrap_or (all_of id found) []

-- a flag is given: its value is `true`
abbrev pub is_given : Text → List Row → Bool
is_given id found = option_map_or (λ value. bytes_eq value (codes "true")) (first_of id found) false

-- a value of `-m`, `--fold`, `-A`, `-B` or `-C`, if there is one, is a number that 64 bits hold: decimal digits, after a plus or not
abbrev pub is_count : Option Text → Bool
is_count value = option_map_or (is_unsigned_in 0 18446744073709551615) value true

-- the number that it writes
abbrev pub count_of : Option Text → Option ℕ
count_of value = option_map (λ word. digits_value 10 (without_leading_plus word)) value

-- the names that a value of `--names` lists, with a comma between two of them, and none where there is no value
abbrev pub names_of : Option Text → List Text
names_of value = option_map_or (pieces 0x2C) value []

-- the options are what the command line gives the arguments
pub record IsAskedBy (found : List Row) (o : Options) : Type 0 where
  pub words : map (λ s. s.now) o.words.items ≡ values_in (codes "words") found
  pub queries : map (λ s. s.now) o.queries.items ≡ values_in (codes "query") found
  pub conditions : map (λ s. s.now) o.conditions.items ≡ values_in (codes "where") found
  pub each : map (λ s. s.now) o.each.items ≡ values_in (codes "each") found
  pub lists : map (λ s. s.now) o.lists.items ≡ values_in (codes "in") found
  pub other_lists : map (λ s. s.now) o.other_lists.items ≡ values_in (codes "not-in") found
  pub most : o.most ≡ count_of (first_of (codes "most") found)
  pub inverted : o.inverted ≡ is_given (codes "invert") found
  pub refused : o.refused ≡ is_given (codes "refused") found
  pub only_matching : o.only_matching ≡ is_given (codes "only") found
  pub paths : o.paths ≡ is_given (codes "path") found
  pub raw : o.raw ≡ is_given (codes "raw") found
  pub canonical : o.canonical ≡ is_given (codes "canonical") found
  pub tabs : o.tabs ≡ is_given (codes "tsv") found
  pub commas : o.commas ≡ is_given (codes "csv") found
  pub header : o.header ≡ is_given (codes "header") found
  pub names : map (λ s. s.now) o.names.items ≡ names_of (first_of (codes "names") found)
  pub colour : colour_of (first_of (codes "color") found) ≡ Some o.colour
  pub tally : o.tally ≡ is_given (codes "tally") found
  pub survey : o.survey ≡ is_given (codes "paths") found
  pub fold : o.fold ≡ count_of (first_of (codes "fold") found)
  pub after : o.after ≡ count_of (first_of (codes "after") found)
  pub before : o.before ≡ count_of (first_of (codes "before") found)
  pub around : o.around ≡ count_of (first_of (codes "around") found)
  pub numbered : o.numbered ≡ is_given (codes "number") found
  pub counted : o.counted ≡ is_given (codes "count") found
  pub quiet : o.quiet ≡ is_given (codes "quiet") found
  pub with_matches : o.with_matches ≡ is_given (codes "with") found
  pub without_matches : o.without_matches ≡ is_given (codes "without") found
  pub named : o.named ≡ is_given (codes "name") found
  pub unnamed : o.unnamed ≡ is_given (codes "unnamed") found
  pub null : o.null ≡ is_given (codes "null") found
  pub silent : o.silent ≡ is_given (codes "silent") found
  pub checks : o.checks ≡ is_given (codes "check") found
  pub texts : o.texts ≡ is_given (codes "json") found
  pub elements : o.elements ≡ is_given (codes "elements") found
  pub sequence : o.sequence ≡ is_given (codes "seq") found

-- nodes are asked one by one: `--each`
abbrev pub asks_each : List Row → Bool
asks_each found = not (is_empty (values_in (codes "each") found))

-- none of `-e`, `-w`, `--each`, `--in` and `--not-in` was given
abbrev pub names_nothing : List Row → Bool
names_nothing found = is_empty (values_in (codes "query") found) && is_empty (values_in (codes "where") found)
    && not (asks_each found)
    && is_empty (values_in (codes "in") found) && is_empty (values_in (codes "not-in") found)

-- neither a query nor a condition was given, nor `--refused`, nor `--paths`: there is no argument, and none of `-e`, `-w`, `--each`,
-- `--in` and `--not-in`
abbrev pub asks_nothing : List Row → Bool
asks_nothing found = not (is_given (codes "refused") found) && not (is_given (codes "paths") found) && is_empty (values_in (codes "words") found) && names_nothing found

-- values are asked for, and a table
abbrev pub asks_values : List Row → Bool
asks_values found = is_given (codes "only") found || is_given (codes "path") found

abbrev pub asks_table : List Row → Bool
asks_table found = is_given (codes "tsv") found || is_given (codes "csv") found

-- a value is spelled otherwise than its line spells it: `-r` or `-j`
abbrev pub asks_spelling : List Row → Bool
asks_spelling found = is_given (codes "raw") found || is_given (codes "canonical") found

-- something is asked of values, which a refused line has none of: `-e`, `-w`, `--each`, `--in`, `--not-in`, `-v`, `-o`, `-r`, `-j`
-- or a table
abbrev pub asks_of_values : List Row → Bool
asks_of_values found = not (names_nothing found) || is_given (codes "invert") found || is_given (codes "only") found || asks_spelling found || asks_table found

-- the names of columns are asked for: `--header` or `--names`
abbrev pub asks_header : List Row → Bool
asks_header found = is_given (codes "header") found || not (is_empty (names_of (first_of (codes "names") found)))

-- the names of `--names` are given, and are not as many as the queries; there is one where there is no `-e`
abbrev pub has_other_names : List Row → Bool
has_other_names found =
    let names = names_of (first_of (codes "names") found) in
    not (is_empty names) && not (length names == max (length (values_in (codes "query") found)) 1)

-- values are printed, where nodes are asked one by one those of `-e`
abbrev pub prints_values : List Row → Bool
prints_values found = if asks_each found then not (is_empty (values_in (codes "query") found)) else is_given (codes "only") found

-- what does not match is selected, and something is printed that it has none of: a table, paths or values
abbrev pub prints_others : List Row → Bool
prints_others found = is_given (codes "invert") found && (asks_table found || is_given (codes "path") found || prints_values found)

-- what came is counted, and told at the end: `--tally` or `--paths`
abbrev pub counts_all : List Row → Bool
counts_all found = is_given (codes "tally") found || is_given (codes "paths") found

-- `--fold` is given
abbrev pub asks_fold : List Row → Bool
asks_fold found = is_some (count_of (first_of (codes "fold") found))

-- lines around selected lines are asked for: `-A`, `-B` or `-C` is given
abbrev pub asks_context : List Row → Bool
asks_context found =
    is_some (count_of (first_of (codes "after") found)) || is_some (count_of (first_of (codes "before") found)) || is_some (count_of (first_of (codes "around") found))

-- something is printed that has no lines around it: values, a table, nodes, or what is told at the end
abbrev pub refuses_context : List Row → Bool
refuses_context found = asks_values found || asks_table found || asks_each found || counts_all found

-- why a word lacks another: `--header` or `--names` a table, a tally or paths, `--fold` paths; and none where none does
abbrev pub missing_conflicts : List Row → Kinds
missing_conflicts found = if asks_header found && not (asks_table found) && not (counts_all found) then MissingRequiredArgument ∷ []
    else if asks_fold found && not (is_given (codes "paths") found) then MissingRequiredArgument ∷ [] else []

-- why the options of what is printed do not go together: `-r` with `-j`, `--tsv` with `--csv`, a table with what spells or
-- selects otherwise, a word that lacks another, more names than queries or fewer, `-v` with what prints values;
-- and none where they do
abbrev pub form_conflicts : List Row → Kinds
form_conflicts found = if is_given (codes "raw") found && is_given (codes "canonical") found then ArgumentConflict ∷ []
    else if is_given (codes "tsv") found && is_given (codes "csv") found then ArgumentConflict ∷ []
    else if asks_table found && (asks_values found || asks_spelling found) then ArgumentConflict ∷ []
    else or_else (missing_conflicts found) (if has_other_names found then WrongNumberOfValues ∷ [] else if prints_others found then ArgumentConflict ∷ [] else [])

-- why the options of what plays the lines do not go together: `--json` with `--elements`, `--seq` with either of them; and none
-- where they do
abbrev pub stream_conflicts : List Row → Kinds
stream_conflicts found = if is_given (codes "json") found && is_given (codes "elements") found then ArgumentConflict ∷ []
    else if is_given (codes "seq") found && (is_given (codes "json") found || is_given (codes "elements") found) then ArgumentConflict ∷ [] else []

-- something is asked for that a tally has none of: `-o`, `-p`, `-c`, `-l`, `-L`, `-q`, `-n`, `-H`, `-Z`, `-v`, `--seq`,
-- `--refused`
abbrev pub refuses_tally : List Row → Bool
refuses_tally found =
    asks_values found
    || (is_given (codes "count") found || is_given (codes "with") found || is_given (codes "without") found || is_given (codes "quiet") found)
    || (is_given (codes "number") found || is_given (codes "name") found || is_given (codes "null") found)
    || is_given (codes "invert") found || is_given (codes "seq") found || is_given (codes "refused") found

-- something is asked for that paths have none of: `-e`, `--tally`, `--names`, `-r`, `-j`, and what a tally has none of
abbrev pub refuses_survey : List Row → Bool
refuses_survey found =
    not (is_empty (values_in (codes "query") found))
    || is_given (codes "tally") found || not (is_empty (names_of (first_of (codes "names") found)))
    || asks_spelling found || refuses_tally found

-- why what is printed does not go together with `--paths`, with `--tally`, or with `-A`, `-B` or `-C`, which have none of it; and none
-- where it does
abbrev pub told_conflicts : List Row → Kinds
told_conflicts found = if is_given (codes "paths") found && refuses_survey found then ArgumentConflict ∷ []
    else if is_given (codes "tally") found && refuses_tally found then ArgumentConflict ∷ []
    else if asks_context found && refuses_context found then ArgumentConflict ∷ [] else []

-- why the options do not go together: `-l` with `-L`, `-H` with `-h`, `--refused` with what asks of values, `--paths`, `--tally` or
-- lines around selected ones with what they have none of, what is printed, what plays the lines, no query; and none where they do
abbrev pub conflicts_in : List Row → Kinds
conflicts_in found = if is_given (codes "with") found && is_given (codes "without") found then ArgumentConflict ∷ []
    else if is_given (codes "name") found && is_given (codes "unnamed") found then ArgumentConflict ∷ []
    else if is_given (codes "refused") found && asks_of_values found then ArgumentConflict ∷ []
    else or_else (told_conflicts found) (or_else (form_conflicts found) (or_else (stream_conflicts found) (if asks_nothing found then MissingRequiredArgument ∷ [] else [])))

-- why the arguments are refused as they are read: the kinds that the error may have, and none where they are taken
unfoldable pub parse_faults : List Text → Kinds
parse_faults words = fault_of program words

-- the values of `-m`, `--fold`, `-A`, `-B` and `-C` are numbers, where they are given, and that of `--color` says when
abbrev pub has_values : List Row → Bool
has_values found =
    is_count (first_of (codes "most") found) && is_count (first_of (codes "fold") found)
    && is_count (first_of (codes "after") found) && is_count (first_of (codes "before") found) && is_count (first_of (codes "around") found)
    && is_some (colour_of (first_of (codes "color") found))

-- why one of them is refused
abbrev pub value_faults : List Row → Kinds
value_faults found = if has_values found then [] else InvalidValue ∷ []

-- why the arguments are refused one by one: as they are read, or after that for a value that is no number or does not say when
abbrev pub reading_faults : List Text → Kinds
reading_faults words = or_else (parse_faults words) (value_faults (found_in words))

-- why the arguments are refused: one by one, or after that since they do not go together
abbrev pub faults_in : List Text → Kinds
faults_in words = or_else (reading_faults words) (conflicts_in (found_in words))
