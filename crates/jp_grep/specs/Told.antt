-- What is told of the refused lines of a stream: of the first ten one by one, and of the others how many there are (profile).
use Rattle.std.specs.Prelude.{ℕ, ◌-◌, List, [], ◌++◌, codes, decimal, ◌||◌, ◌==◌, if◌then◌else◌, ltb, not}
use Rattle.jp_model.specs.Rows.{line_feed}
use Rattle.jp_grep.specs.Items.{Item}
use Rattle.jp_grep.specs.Rows.{messages_from, most_told, refused_count}
use Rattle.jp_form.specs.declared.form.Form.{Form}

-- what is said of refused lines after their number
abbrev pub more_words : ℕ → List ℕ
more_words count = (if count == 1 then codes " more line is refused; --refused lists them" else codes " more lines are refused; --refused lists them") ++ line_feed

-- the message on them
abbrev pub more_message : (name : List ℕ) → ℕ → List ℕ
more_message name count = codes "jpgrep: " ++ name ++ codes ": " ++ decimal count ++ more_words count

-- the message on the refused lines of a stream that are not told one by one, where there are any and messages are wanted
abbrev pub more_refused : Form → ℕ → List ℕ
more_refused form count =
    if form.silent || not (ltb most_told count) then []
    else more_message form.told_name.now (count - most_told)

-- all that is told when a search of these items ends
abbrev pub told_of : Form → List Item → List ℕ
told_of form items = messages_from form 0 1 items ++ more_refused form (refused_count items)
