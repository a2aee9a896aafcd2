-- How far a row of a stream stands from one that is selected.
use Rattle.std.specs.Prelude.{◌≡◌, ℕ, ◌+◌, ◌≤◌, List, [], ◌∷◌, get_or, map, Bool, true, false, not}
use Rattle.std.specs.List.{list_all}
use Rattle.jp_context.specs.Groups.{Mark}
use Rattle.jp_context.specs.Told.{ToldRow}

-- a row goes on with the stream of the one before it
abbrev pub goes_on : ToldRow → Bool
goes_on row = not row.first

-- rows of one stream, from its first
abbrev pub is_stream : List ToldRow → Bool
is_stream [] = true
is_stream (row ∷ more) = list_all goes_on more

-- whether the row at a place is selected
abbrev pub selected_at : List ToldRow → ℕ → Bool
selected_at rows place = get_or (map (λ row. row.selected) rows) place false

-- and whether it is shown
abbrev pub shown_at : List Mark → ℕ → Bool
shown_at marks place = get_or (map (λ mark. mark.shown) marks) place false

-- a row that is selected stands at most `before` rows after this place, and at most `after` rows before it
abbrev pub IsNear : ℕ → ℕ → List ToldRow → ℕ → Type 0
IsNear before after rows place = (chosen : ℕ) × (selected_at rows chosen ≡ true) × (chosen ≤ place + before) × (place ≤ chosen + after)

-- rows of which none follows one that came before them
abbrev pub begins_anew : List ToldRow → Bool
begins_anew [] = true
begins_anew (row ∷ more) = row.first

-- a row is not selected
abbrev pub is_passed : ToldRow → Bool
is_passed row = not row.selected

-- a row that is not shown
abbrev pub hidden : ToldRow → Mark
hidden row = record { row = row; shown = false }
