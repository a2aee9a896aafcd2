-- What the program's arguments ask for, once they are read.
use Rattle.std.specs.Prelude.{ℕ, List, [], ◌∷◌, length, take, drop, map, codes, Bool, true, false, ◌&&◌, ◌||◌, not, ltb, if◌then◌else◌, min, is_some, unwrap_or}
use Rattle.jp_cut.specs.declared.machine.Pieces.TheVariants as pieces
use Rattle.jp_form.specs.declared.form.Shown.{Shown}
use Rattle.jp_form.specs.declared.form.Shown.TheVariants as shown
use Rattle.jp_form.specs.declared.form.Spelling.{Spelling}
use Rattle.jp_form.specs.declared.form.Spelling.TheVariants as spellings
use Rattle.jp_form.specs.declared.form.Summary.{Summary}
use Rattle.jp_form.specs.declared.form.Summary.TheVariants as summaries
use Rattle.jp_form.specs.declared.form.Table.{Table}
use Rattle.jp_form.specs.declared.form.Table.TheVariants as tables
use Rattle.jp_form.specs.declared.form.Units.{Units}
use Rattle.jp_form.specs.declared.form.Units.TheVariants as units
use Rattle.jp_model.specs.declared.Framing.TheVariants as framings
use Rattle.jp_options.specs.declared.options.Options.{Options}

-- the arguments that belong to no option, the queries of `-e`, and the conditions of `-w`
abbrev pub words_of : Options → List (List ℕ)
words_of o = map (λ s. s.now) o.words.items

abbrev pub given_queries : Options → List (List ℕ)
given_queries o = map (λ s. s.now) o.queries.items

-- there is `--in` or `--not-in`
abbrev pub names_list : Options → Bool
names_list o = ltb 0 (length o.lists.items) || ltb 0 (length o.other_lists.items)

-- nodes are asked one by one, those of `--each`
abbrev pub asks_each : Options → Bool
asks_each o = ltb 0 (length o.each.items)

-- there is none of `-e`, `-w`, `--each`, `--in`, `--not-in`, `--refused` and `--paths`, so that the first argument is the query
abbrev pub begins_with_query : Options → Bool
begins_with_query o = not o.refused && not o.survey && not (ltb 0 (length o.queries.items)) && not (ltb 0 (length o.conditions.items)) && not (asks_each o) && not (names_list o)

-- the queries: the first argument, or those of `-e`, or where there is none the node that is asked, which is `$`, or `@` where nodes are
-- asked one by one; and none where there is `--refused`
abbrev pub asked_queries : Options → List (List ℕ)
asked_queries o =
    if begins_with_query o then take 1 (words_of o)
    else if not o.refused && not (ltb 0 (length o.queries.items)) then (if asks_each o then codes "@" else codes "$") ∷ []
    else given_queries o

-- the names of the columns are wanted
abbrev pub has_header : Options → Bool
has_header o = o.header || ltb 0 (length o.names.items)

-- the names of the columns: those of `--names`, or else the queries
abbrev pub asked_columns : Options → List (List ℕ)
asked_columns o = if ltb 0 (length o.names.items) then map (λ s. s.now) o.names.items else asked_queries o

-- the files: the arguments after the query, or all of them
abbrev pub asked_files : Options → List (List ℕ)
asked_files o = if begins_with_query o then drop 1 (words_of o) else words_of o

-- the first selected line of a file decides: nothing but that there is one is asked for
abbrev pub first_decides : Options → Bool
first_decides o = o.quiet || o.with_matches || o.without_matches

-- how many selected lines of a file are wanted: what `-m` says, or else what 64 bits count, and no more than one where the
-- first decides
abbrev pub asked_most : Options → ℕ
asked_most o =
    let most = unwrap_or o.most 18446744073709551615 in
    if first_decides o then min most 1 else most

-- what of a file plays the lines: JSON texts where `--json` asks for them, elements where `--elements` does, the texts of a
-- sequence where `--seq` does, and else its lines
abbrev pub asked_units : Options → Units
asked_units o =
    if o.texts then units.Pieces pieces.Texts
    else if o.elements then units.Pieces pieces.Elements
    else if o.sequence then units.Lines framings.Sequence
    else units.Lines framings.Lines

-- there are several queries
abbrev pub has_several : Options → Bool
has_several o = ltb 1 (length o.queries.items)

-- each query is a column: those of a table, or several of a tally; paths have other columns
abbrev pub has_columns : Options → Bool
has_columns o = if o.tally then has_several o else not o.survey && (o.tabs || o.commas)

-- what of a line is tallied: the values of one query, or a row of the values of several
abbrev pub tally_rows : Options → Shown
tally_rows o = if has_several o then shown.Cells tables.Canonical else shown.Values false

-- how the cells of what is counted are shown: as in a table, or in canonical form; `-r` shows them as `--tsv` does
abbrev pub counted_table : Options → Table
counted_table o = if o.commas then tables.Commas else if o.tabs || o.raw then tables.Tabs else tables.Canonical

-- an object whose nodes have more names than this has its paths folded: as many as `--fold` says, or else a thousand
abbrev pub asked_fold : Options → ℕ
asked_fold o = unwrap_or o.fold 1000

-- lines around selected lines are asked for: `-A`, `-B` or `-C` is given
abbrev pub asks_context : Options → Bool
asks_context o = is_some o.after || is_some o.before || is_some o.around

-- they are shown, unless something else is printed
abbrev pub shows_context : Options → Bool
shows_context o = asks_context o && not (first_decides o || o.counted)

-- how many lines before a selected line are shown: as many as `-B` says, or else as `-C` says, or else none
abbrev pub asked_before : Options → ℕ
asked_before o = unwrap_or o.before (unwrap_or o.around 0)

-- how many after it: as many as `-A` says, or else as `-C` says, or else none
abbrev pub asked_after : Options → ℕ
asked_after o = unwrap_or o.after (unwrap_or o.around 0)

-- how many lines are shown after the last selected line that is wanted
abbrev pub asked_trailing : Options → ℕ
asked_trailing o = if shows_context o then asked_after o else 0

-- what a row shows: nothing where something else is printed, a line or one around it where `-A`, `-B` or `-C` asks for them, what is
-- tallied, the line or the node whose paths are counted, cells where `--tsv` or `--csv` asks for them, values where `-o` or `-p` does or nodes are
-- asked one by one, and of a refused line with `-p` the word of its fault
abbrev pub asked_rows : Options → Shown
asked_rows o =
    if first_decides o || o.counted then shown.Nothing
    else if asks_context o then shown.Around
    else if o.tally then tally_rows o
    else if o.survey then shown.Nodes
    else if o.tabs then shown.Cells tables.Tabs
    else if o.commas then shown.Cells tables.Commas
    else if o.refused then shown.Line o.paths
    else if o.only_matching || o.paths || asks_each o then shown.Values o.paths
    else shown.Line false

-- how a row spells it, as `-r` and `-j` ask for; what is tallied is in canonical form
abbrev pub asked_spelling : Options → Spelling
asked_spelling o = if o.tally then spellings.Canonical else if o.raw then spellings.Text else if o.canonical then spellings.Canonical else spellings.Source

-- what is printed in place of rows: of `-q`, `-l`, `-L`, `-c` the first decides
abbrev pub asked_summary : Options → Summary
asked_summary o = if o.quiet then summaries.Nothing else if o.with_matches then summaries.NameWith else if o.without_matches then summaries.NameWithout else if o.counted then summaries.Count else summaries.Nothing

-- the name of the file stands in front: as `-H` and `-h` ask for, and else where there are several; and of no tally and no paths
abbrev pub asks_names : Options → Bool
asks_names o = not (o.tally || o.survey) && (o.named || (not o.unnamed && ltb 1 (length (asked_files o))))
