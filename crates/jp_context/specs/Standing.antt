-- What a writer of context stands for.
use Rattle.std.specs.Prelude.{◌≡◌, ℕ, List, [], ◌∷◌, ◌++◌, false, if◌then◌else◌}
use Rattle.jp_context.specs.Groups.{context_text}
use Rattle.jp_context.specs.Steps.{will_show}
use Rattle.jp_context.specs.Told.{rows_from, told_rows}
use Rattle.jp_context.specs.declared.context.Context.{Context}
use Rattle.jp_context.specs.declared.state.Layout.{Layout}
use Rattle.jp_sink.specs.Events.{Event}
use Rattle.jp_sink.specs.Texts.{written}

-- what is to be shown of what was told
abbrev pub text_of_told : {W : Type 0} → Context W → List Event → List ℕ
text_of_told context told = context_text context.groups.layout.coloured context.groups.layout.before context.groups.layout.after (told_rows told)

-- What was written and what will be shown of what comes are together what is to be shown of all.
abbrev pub Stands : {W : Type 0} → Context W → List Event → Type 0
Stands context told = (events : List Event) → text_of_told context (told ++ events) ≡ written context.text ++ will_show context.groups (rows_from false events)

-- the numbers that it was made with: how many rows before and after one that is selected, and 1 with colours or 0 without
abbrev pub settings_of : Layout → List ℕ
settings_of layout = layout.before ∷ layout.after ∷ (if layout.coloured then 1 else 0) ∷ []
