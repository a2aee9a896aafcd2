-- Whether what is printed has colours.
use Rattle.std.specs.Prelude.{List, Bool, true, false, ◌&&◌, ◌||◌, not, codes, ltb, length, bytes_eq, if◌then◌else◌, Option, Some, None}
use Rattle.clap.specs.Words.{Text}
use Rattle.jp_form.specs.declared.form.Spelling.{Spelling}
use Rattle.jp_form.specs.declared.form.Spelling.TheVariants as spellings
use Rattle.jp_options.specs.Words.{asked_spelling, begins_with_query}
use Rattle.jp_options.specs.declared.colour.Colour.{Colour}
use Rattle.jp_options.specs.declared.colour.Colour.TheVariants as colours
use Rattle.jp_options.specs.declared.options.Options.{Options}

-- what a value of `--color` says, if it says anything
abbrev pub colour_by : Text → Option Colour
colour_by value =
    if bytes_eq value (codes "always") then Some colours.Always
    else if bytes_eq value (codes "auto") then Some colours.Auto
    else if bytes_eq value (codes "never") then Some colours.Never
    else None

-- what `--color` says: where it is not given, that there are none
abbrev pub colour_of : Option Text → Option Colour
colour_of None = Some colours.Never
colour_of (Some value) = colour_by value

-- what is printed has colours, by whether it is printed to a terminal
abbrev pub colours_by : Colour → (terminal : Bool) → Bool
colours_by colours.Never terminal = false
colours_by colours.Auto terminal = terminal
colours_by colours.Always terminal = true

abbrev pub asked_colours : (terminal : Bool) → Options → Bool
asked_colours terminal o = colours_by o.colour terminal

-- a query is given: the first argument, or one of `-e`
abbrev pub gives_query : Options → Bool
gives_query o = begins_with_query o || ltb 0 (length o.queries.items)

-- values are printed as they stand
abbrev pub is_source : Spelling → Bool
is_source spellings.Source = true
is_source _ = false

-- nodes are coloured in selected lines: a query is given, the lines match, they are printed and not surveyed, and as they stand
abbrev pub asked_marks : (coloured : Bool) → Options → Bool
asked_marks coloured o = coloured && (gives_query o && (not o.inverted && (not o.survey && is_source (asked_spelling o))))
