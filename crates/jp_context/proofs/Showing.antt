-- What is written of a row, and what will be shown after it.
use Rattle.std.proofs.Common.{◌≡◌, ◌∙◌, ℕ, List, [], ◌∷◌, ◌++◌, ap, ap₂, sym, subst, arith, append_assoc, Bool, Global, Vec, Result, Ok, Err, true}
use Rattle.std.proofs.lemmas.List.{length-map}
use Rattle.std.specs.Result.{IsErrAnd}
use Rattle.jp_context.specs.Groups.{separator}
use Rattle.jp_context.specs.Steps.{MissesRow, ShowsRow, kept_rows, kept_texts, show_front, text_from, will_show}
use Rattle.jp_context.specs.Told.{ToldRow, next_row}
use Rattle.jp_context.specs.declared.shown.Shown.{Shown}
use Rattle.jp_context.specs.declared.shown.Shown.TheVariants as showing
use Rattle.jp_context.specs.declared.state.Groups.{Groups}
use Rattle.jp_context.specs.declared.state.Layout.{Layout}
use Rattle.jp_context.proofs.Kept.{selects, texts_of}
use Rattle.jp_context.proofs.Writing.{begins_longer}
use Rattle.jp_sink.specs.Texts.{WritesOn, written}
use Rattle.jp_sink.specs.declared.Untold.{Untold}
use Rattle.jp_sink.specs.declared.text.TextSink.{TextSink}

-- after a row that is shown, where `left` rows are still to follow
abbrev pub will_follow : Layout → ℕ → List ToldRow → List ℕ
will_follow layout left more = text_from layout.coloured layout.before layout.after left showing.Neighbour more

-- nothing is kept after a row that is selected
pub after_selected : (old new : Layout) (kept : List (Vec ℕ Global)) (more : List ToldRow) → new ≡ old → kept ≡ []
    → will_follow old old.after more ≡ text_from new.coloured new.before new.after new.after showing.Neighbour (kept_rows (texts_of kept) ++ more)
after_selected old new kept more same none =
    sym (ap₂ (λ (layout : Layout) (rows : List (Vec ℕ Global)). text_from layout.coloured layout.before layout.after layout.after showing.Neighbour (kept_rows (texts_of rows) ++ more)) same none)

-- what a row that is selected brings: those before it too
selected_shows : (groups : Groups) (text : List ℕ) (more : List ToldRow)
    → will_show groups (next_row true text ∷ more) ≡ (show_front groups.layout.coloured groups.shown (kept_texts groups) ++ text) ++ will_follow groups.layout groups.layout.after more
selected_shows groups text more =
    let layout = groups.layout in
    let same = length-map groups.kept.items (λ (r : Vec ℕ Global). r.items) in
    selects layout.coloured layout.before layout.after groups.left groups.shown (kept_texts groups) text more (λ some. ap texts_of (groups.none some)) (omega (arith, groups.few, same))
    ∙ sym (append_assoc (show_front layout.coloured groups.shown (kept_texts groups)) text (will_follow layout layout.after more))

module _ {W : Type 0} (old : Groups) (from to : TextSink W) (text : List ℕ) where
  abbrev front : List ℕ
  front = show_front old.layout.coloured old.shown (kept_texts old)

  -- a row that is selected was written, after those before it
  pub selected_whole : (more : List ToldRow) → WritesOn from to (Ok (tt {0})) (front ++ text) → written from ++ will_show old (next_row true text ∷ more) ≡ written to ++ will_follow old.layout old.layout.after more
  selected_whole more h =
      let rest = will_follow old.layout old.layout.after more in
      ap (λ (t : List ℕ). written from ++ t) (selected_shows old text more) ∙ (sym (append_assoc (written from) (front ++ text) rest) ∙ ap (λ (t : List ℕ). t ++ rest) (sym h))

  -- or a beginning of them
  pub selected_part : (new : Groups) (result : Result Unit Untold) (fault : Untold) → IsErrAnd result (λ e. e ≡ fault) → WritesOn {A = Unit {0}} from to (Err fault) (front ++ text)
      → ShowsRow old new from to result (next_row true text)
  selected_part new (Ok done) fault is h = absurd is
  selected_part new (Err e) fault is h = subst (λ f. MissesRow old new from to (next_row true text) f) (sym (is ∙ h.0)) (λ more.
      let rest = will_follow old.layout old.layout.after more in
      begins_longer to.out.taken (written from ++ (front ++ text)) rest (written from ++ will_show old (next_row true text ∷ more)) h.1
      (ap (λ (t : List ℕ). written from ++ t) (selected_shows old text more) ∙ sym (append_assoc (written from) (front ++ text) rest)))

-- of the rows that are kept one was not written whole
pub front_stops : {W : Type 0} (from at to : TextSink W) (result : Result Unit Untold) (fault : Untold) (coloured : Bool) (shown : Shown) (row : List ℕ) (rest : List (List ℕ)) (all : List ℕ)
    → IsErrAnd result (λ e. e ≡ fault) → written from ++ all ≡ written at ++ show_front coloured shown (row ∷ rest) → WritesOn {A = Unit {0}} at to (Err fault) (separator coloured shown ++ row) → WritesOn from to result all
front_stops from at to (Ok done) fault coloured shown row rest all is whole h = absurd is
front_stops from at to (Err e) fault coloured shown row rest all is whole h =
    let mark = separator coloured shown in
    let more = show_front coloured showing.Neighbour rest in (
      is ∙ h.0,
      begins_longer to.out.taken (written at ++ (mark ++ row)) more (written from ++ all) h.1
          (whole ∙ (ap (λ (t : List ℕ). written at ++ t) (sym (append_assoc mark row more)) ∙ sym (append_assoc (written at) (mark ++ row) more))),
    )
