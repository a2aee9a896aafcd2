-- What is kept of rows, and what will be shown.
use Rattle.std.specs.Prelude.{◌≡◌, ℕ, List, [], ◌∷◌, ◌++◌, map, Bool, false, Result, MatchResult}
use Rattle.jp_devices.specs.Devices.{Begins}
use Rattle.jp_context.specs.Groups.{marks_from, separator, text_of}
use Rattle.jp_context.specs.Told.{ToldRow, next_row}
use Rattle.jp_context.specs.declared.state.Groups.{Groups}
use Rattle.jp_context.specs.declared.shown.Shown.{Shown}
use Rattle.jp_context.specs.declared.shown.Shown.TheVariants as showing
use Rattle.jp_sink.specs.Texts.{written}
use Rattle.jp_sink.specs.declared.Untold.{Untold}
use Rattle.jp_sink.specs.declared.Untold.TheVariants as untold
use Rattle.jp_sink.specs.declared.text.TextSink.{TextSink}

-- the text of rows, where `left` are still to be shown after one that is selected, and `shown` tells what was shown before them
abbrev pub text_from : (coloured : Bool) → (before after left : ℕ) → (shown : Shown) → List ToldRow → List ℕ
text_from coloured before after left shown rows = text_of coloured shown (marks_from before after left rows)

-- rows that are kept are within their stream, and not selected
abbrev pub kept_rows : List (List ℕ) → List ToldRow
kept_rows texts = map (next_row false) texts

abbrev pub kept_texts : Groups → List (List ℕ)
kept_texts groups = map (λ row. row.items) groups.kept.items

-- what will be shown of the rows that are kept and of others
abbrev pub will_show : Groups → List ToldRow → List ℕ
will_show groups rows = text_from groups.layout.coloured groups.layout.before groups.layout.after groups.left groups.shown (kept_rows (kept_texts groups) ++ rows)

-- the text of rows that are all shown, one next to the other, and what parts a row after them from what was shown
abbrev pub show_front : (coloured : Bool) → Shown → List (List ℕ) → List ℕ
show_front coloured shown [] = separator coloured shown
show_front coloured shown (text ∷ more) = separator coloured shown ++ (text ++ show_front coloured showing.Neighbour more)

-- why a row was not taken: there is no memory for it, and what will be shown is as before; or what was written begins what was to be
abbrev pub MissesRow : {W : Type 0} → (old new : Groups) → (from to : TextSink W) → ToldRow → Untold → Type 0
MissesRow old new from to row untold.Line = (more : List ToldRow) → written from ++ will_show old more ≡ written to ++ will_show new more
MissesRow old new from to row untold.Sink = (more : List ToldRow) → Begins to.out.taken (written from ++ will_show old (row ∷ more))

-- a row was taken, and what is to be shown now that it came was written; or it was not
abbrev pub ShowsRow : {W A : Type 0} → (old new : Groups) → (from to : TextSink W) → Result A Untold → ToldRow → Type 0
ShowsRow old new from to result row = MatchResult result
    (λ _. (more : List ToldRow) → written from ++ will_show old (row ∷ more) ≡ written to ++ will_show new more)
    (λ fault. MissesRow old new from to row fault)

-- a row was kept, or there is no memory for it
abbrev pub KeepsRow : {A : Type 0} → (old new : Groups) → Result A Untold → ToldRow → Type 0
KeepsRow old new result row = MatchResult result
    (λ _. (more : List ToldRow) → will_show old (row ∷ more) ≡ will_show new more)
    (λ fault. (fault ≡ untold.Line) × ((more : List ToldRow) → will_show old more ≡ will_show new more))
