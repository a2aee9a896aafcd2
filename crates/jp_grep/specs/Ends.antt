-- How a run ends (profile).
use Rattle.std.specs.Prelude.{◌≡◌, ◌&&◌, ◌||◌, not, ℕ, Bool, true, if◌then◌else◌, ltb, Result, MatchResult}
use Rattle.jp_grep.specs.declared.fault.SearchFault.{SearchFault}
use Rattle.jp_grep.specs.declared.found.Found.{Found}
use Rattle.jp_grep.specs.Watching.{is_whole}

-- The exit status: 0 where a line was selected, 1 where none was, 2 where something was refused or failed; under `-q` 0 where a
-- line was selected, whatever else there was.
abbrev pub status_of : Bool → Bool → Bool → ℕ
status_of quiet selected failed = if quiet && selected then 0 else if failed then 2 else if selected then 0 else 1

-- what is known after a search: whether a line was selected so far, and whether anything was refused, given up, passed over or
-- failed. With `-s` a refused line is no fault, as a blank one is none.
abbrev pub NotesSearch : Bool → Result Found SearchFault → Bool → Bool → Bool → Bool → Type 0
NotesSearch silent result selected0 failed0 selected1 failed1 = MatchResult result
    (λ found. (selected1 ≡ (selected0 || ltb 0 found.counts.selected)) × (failed1 ≡ (failed0 || ((not silent && ltb 0 found.counts.refused) || not (is_whole found)))))
    (λ fault. (selected1 ≡ selected0) × (failed1 ≡ true))
