-- What a writer of context stands for once it is told more.
use Rattle.std.proofs.Common.{◌≡◌, ◌∙◌, ℕ, List, [], ◌∷◌, ◌++◌, ap, ap₂, refl, Bool, sym, subst, append_assoc, append-nil, Result, Ok, Err}
use Rattle.std.specs.Prelude.{false}
use Rattle.jp_devices.specs.Devices.{Begins}
use Rattle.jp_context.specs.Groups.{context_text}
use Rattle.jp_context.specs.Standing.{Stands, text_of_told}
use Rattle.jp_context.specs.Steps.{MissesRow, ShowsRow, will_show}
use Rattle.jp_context.specs.Told.{ToldRow, rows_from, told_rows}
use Rattle.jp_context.specs.declared.context.Context.{Context}
use Rattle.jp_context.specs.declared.state.Groups.{Groups}
use Rattle.jp_context.specs.declared.state.Layout.{Layout}
use Rattle.jp_context.specs.declared.shown.Shown.TheVariants as showing
use Rattle.jp_context.proofs.Kept.{nothing_waits, parts}
use Rattle.jp_sink.specs.Events.{Event, row_event, text_of}
use Rattle.jp_sink.specs.Telling.{Refuses, Takes, Tells}
use Rattle.jp_sink.specs.Texts.{written}
use Rattle.jp_sink.specs.declared.Untold.{Untold}
use Rattle.jp_sink.specs.declared.Untold.TheVariants as untold
use Rattle.jp_sink.proofs.Texts.{begins, holds}

-- where nothing came, a gap that comes first is none
pub begun : (coloured : Bool) (before after : ℕ) (events : List Event)
    → context_text coloured before after (told_rows events) ≡ context_text coloured before after (rows_from false events)
begun coloured before after events = parts coloured before after 0 showing.Nothing [] events (λ some. refl)

-- a row that tells a text
abbrev one : List ℕ → List Event
one text = row_event false text ∷ []

module _ {W : Type 0} where
  -- what was told is what was written, as far as no more is told
  pub all_written : (context : Context W) (told : List Event) → Stands context told → text_of_told context told ≡ written context.text
  all_written context told stands =
      ap (text_of_told context) (sym (append-nil told))
      ∙ (stands [] ∙ (ap (λ (t : List ℕ). written context.text ++ t) (nothing_waits context.groups) ∙ append-nil (written context.text)))

  abbrev Stopped : Context W → List Event → Type 0
  Stopped context told = Begins context.text.out.taken (text_of_told context told)

  module _ (old new : Context W) (same : new.groups.layout ≡ old.groups.layout) where
    -- the text of what is told depends on the layout alone
    alike : (told : List Event) → text_of_told new told ≡ text_of_told old told
    alike told = ap (λ (layout : Layout). context_text layout.coloured layout.before layout.after (told_rows told)) same

    -- events came, and what is to be shown now was written
    pub takes : (events : List Event)
        → ((more : List Event) → written old.text ++ will_show old.groups (rows_from false (events ++ more)) ≡ written new.text ++ will_show new.groups (rows_from false more))
        → Takes Stands old new events
    takes events shows told stands more =
        alike ((told ++ events) ++ more) ∙ (ap (text_of_told old) (append_assoc told events more) ∙ (stands (events ++ more) ∙ shows more))

    -- a row came, or not
    pub tells_row : (result : Result Unit Untold) (event : Event) (row : ToldRow) → ((more : List Event) → rows_from false (event ∷ more) ≡ row ∷ rows_from false more)
        → ShowsRow old.groups new.groups old.text new.text result row → Tells Stands Stopped old new result (event ∷ [])
    tells_row (Ok done) event row is h =
        takes (event ∷ []) (λ more. ap (λ (rows : List ToldRow). written old.text ++ will_show old.groups rows) (is more) ∙ h (rows_from false more))
    tells_row (Err fault) event row is h = refuses fault h
      where
        refuses : (fault : Untold) → MissesRow old.groups new.groups old.text new.text row fault → Refuses Stands Stopped old new (event ∷ []) fault
        refuses untold.Line h = takes [] (λ more. h (rows_from false more))
        refuses untold.Sink h = λ told later stands.
            subst (λ (t : List ℕ). Begins new.text.out.taken t)
            (ap (λ (rows : List ToldRow). written old.text ++ will_show old.groups rows) (sym (is later)) ∙ (sym (stands (event ∷ later)) ∙ sym (alike (told ++ event ∷ later))))
            (h (rows_from false later))

    handed : Takes holds old.text new.text [] → new.groups ≡ old.groups → (rows : List ToldRow) → written old.text ++ will_show old.groups rows ≡ written new.text ++ will_show new.groups rows
    handed h still rows =
        ap₂ (λ (t : List ℕ) (groups : Groups). t ++ will_show groups rows) (sym (append-nil (written old.text)) ∙ h (one (written old.text)) (append-nil (written old.text))) (sym still)

    -- nothing more is told, and what was written may be handed on
    pub tells_flush : new.groups ≡ old.groups → (result : Result Unit Untold) → Tells holds begins old.text new.text result [] → Tells Stands Stopped old new result []
    tells_flush still (Ok done) h = takes [] (λ more. handed h still (rows_from false more))
    tells_flush still (Err untold.Line) h = takes [] (λ more. handed h still (rows_from false more))
    tells_flush still (Err untold.Sink) h = λ told later stands.
        let rest = will_show old.groups (rows_from false later) in
        let whole : text_of (one (written old.text) ++ one rest) ≡ written old.text ++ rest = ap₂ (λ (t u : List ℕ). t ++ u) refl (append-nil rest) in
        subst (λ (t : List ℕ). Begins new.text.out.taken t) (whole ∙ (sym (stands later) ∙ sym (alike (told ++ later))))
        (h (one (written old.text)) (one rest) (append-nil (written old.text)))
