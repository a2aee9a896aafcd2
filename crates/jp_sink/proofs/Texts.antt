-- The text of what was told, and a beginning of it.
use Rattle.std.proofs.Common.{◌≡◌, ◌∙◌, ◌++◌, ◌∷◌, [], ℕ, List, drop, length, take, sym, ap, subst, append_assoc, append-nil, take-append-drop, Result, Ok, Err}
use Rattle.std.proofs.Math.Seq.{take-append_seam}
use Rattle.jp_devices.specs.Devices.{Begins}
use Rattle.jp_sink.specs.Events.{Event, event_text, text_of}
use Rattle.jp_sink.specs.Telling.{Stops, Takes, Tells}
use Rattle.jp_sink.specs.Texts.{WritesOn, written}
use Rattle.jp_sink.specs.declared.Untold.{Untold}
use Rattle.jp_sink.specs.declared.Untold.TheVariants as untold
use Rattle.jp_sink.specs.declared.text.TextSink.{TextSink}

-- the text of some events and of more
pub text_of_more : (told more : List Event) → text_of (told ++ more) ≡ text_of told ++ text_of more
text_of_more [] more = λ i. text_of more
text_of_more (event ∷ told) more = ap (λ x. event_text event ++ x) (text_of_more told more) ∙ sym (append_assoc (event_text event) (text_of told) (text_of more))

pub begins_front : (xs ys : List ℕ) → Begins xs (xs ++ ys)
begins_front xs ys = take-append_seam xs ys

pub begins_rest : (part text : List ℕ) → Begins part text → text ≡ part ++ drop (length part) text
begins_rest part text h = sym (take-append-drop (length part) text) ∙ ap (λ x. x ++ drop (length part) text) h

pub begins_more : (part a b : List ℕ) → Begins part a → Begins part (a ++ b)
begins_more part a b h =
    let rest : List ℕ = drop (length part) a in
    let e : a ++ b ≡ part ++ (rest ++ b) = ap (λ x. x ++ b) (begins_rest part a h) ∙ append_assoc part rest b in
    subst (λ x. Begins part x) (sym e) (begins_front part (rest ++ b))

module _ {W : Type 0} where
  -- what holds what was told, and what has a beginning of it
  abbrev pub holds : TextSink W → List Event → Type 0
  holds sink told = text_of told ≡ written sink

  abbrev pub begins : TextSink W → List Event → Type 0
  begins sink told = Begins sink.out.taken (text_of told)

  -- one text, and then another
  pub both_written : (result : Result Unit Untold) (a b c : TextSink W) (x y : List ℕ) → written b ≡ written a ++ x → WritesOn b c result y → WritesOn a c result (x ++ y)
  both_written (Ok done) a b c x y is w = w ∙ ap (λ l. l ++ y) is ∙ append_assoc (written a) x y
  both_written (Err fault) a b c x y is w = (w.0, subst (λ l. Begins c.out.taken l) (ap (λ l. l ++ y) is ∙ append_assoc (written a) x y) w.1)

  -- the text of an event was written
  pub event_written : (result : Result Unit Untold) (a b : TextSink W) (event : Event) → WritesOn a b result (event_text event) → Tells holds begins a b result (event ∷ [])
  event_written (Ok done) a b event w = λ told is.
      text_of_more told (event ∷ []) ∙ ap (λ l. l ++ (event_text event ++ [])) is ∙ ap (λ l. written a ++ l) (append-nil (event_text event)) ∙ sym w
  event_written (Err untold.Line) a b event w = absurd (apart w.0)
    where
      apart : untold.Line ≡ untold.Sink → ⊥
      apart h = cc
  event_written (Err untold.Sink) a b event w = λ told later is.
      let whole : text_of (told ++ (event ∷ later)) ≡ (written a ++ event_text event) ++ text_of later =
      text_of_more told (event ∷ later) ∙ ap (λ l. l ++ (event_text event ++ text_of later)) is ∙ sym (append_assoc (written a) (event_text event) (text_of later)) in
      subst (λ l. Begins b.out.taken l) (sym whole) (begins_more b.out.taken (written a ++ event_text event) (text_of later) w.1)
