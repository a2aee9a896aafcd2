-- Where the collection and the script come from (profile).
use Rattle.std.specs.Prelude.{◌≡◌, List, [], ◌∷◌, ◌++◌, Bool, Option, Some, None, codes, true, false, ⊤}
use Rattle.std.specs.Str.{bytes_eq}
use Rattle.std.specs.String.{string_bytes}
use Rattle.clap.specs.Words.{Text}
use Rattle.jp_cli.specs.declared.sources.CollectionSource.{CollectionSource}
use Rattle.jp_cli.specs.declared.sources.CollectionSource.TheVariants as collections
use Rattle.jp_cli.specs.declared.sources.ScriptSource.{ScriptSource}
use Rattle.jp_cli.specs.declared.sources.ScriptSource.TheVariants as scripts

-- the collection comes from the file of this name, and from standard input where it is `-`
abbrev pub IsCollectionOf : Text → CollectionSource → Type 0
IsCollectionOf file collections.StandardInput = bytes_eq file (codes "-") ≡ true
IsCollectionOf file (collections.File name) = (name.now ≡ file) × (bytes_eq file (codes "-") ≡ false)

-- the script that commands make: each with a line feed after it
abbrev pub script_of : List Text → Text
script_of [] = []
script_of (command ∷ others) = command ++ 0x0A ∷ script_of others

-- the script comes from the commands where there are any, else from the file, and where none is named from standard input
abbrev pub IsScriptOf : Option Text → List Text → ScriptSource → Type 0
IsScriptOf file (c ∷ cs) (scripts.Commands text) = string_bytes text ≡ script_of (c ∷ cs)
IsScriptOf (Some file) [] (scripts.File name) = name.now ≡ file
IsScriptOf None [] scripts.StandardInput = ⊤
IsScriptOf _ _ _ = ⊥

-- standard input is the collection, or the script
abbrev pub comes_from_input : Text → Option Text → List Text → Bool
comes_from_input file None [] = true
comes_from_input file _ _ = bytes_eq file (codes "-")
