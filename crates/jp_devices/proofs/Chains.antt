-- What is received of a text whose pieces are written one after another.
use Rattle.std.proofs.Common.{◌≡◌, ℕ, List, ◌++◌, length, drop, sym, ◌∙◌, ap, subst, append_assoc, take-append-drop, Option, Result, Ok, Err, MatchResult, IsErr, true, false}
use Rattle.jp_devices.specs.Devices.{Begins, Device, Received, Writes}
use Rattle.jp_devices.proofs.Devices.{received_more}
use Rattle.jp_devices.proofs.Transfers.{begins_front}

-- the writer received a beginning of the text
abbrev pub Part : {W : Type 0} → (W → Option (List ℕ)) → Device W → Device W → List ℕ → Type 0
Part contents old new text = (part : List ℕ) × Begins part text × Received contents old new part

begins_rest : (part text : List ℕ) → Begins part text → text ≡ part ++ drop (length part) text
begins_rest part text h = sym (take-append-drop (length part) text) ∙ ap (λ x. x ++ drop (length part) text) h

begins_more : (part a b : List ℕ) → Begins part a → Begins part (a ++ b)
begins_more part a b h =
    let rest : List ℕ = drop (length part) a in
    let e : a ++ b ≡ part ++ (rest ++ b) = ap (λ x. x ++ b) (begins_rest part a h) ∙ append_assoc part rest b in
    subst (λ x. Begins part x) (sym e) (begins_front part (rest ++ b))

begins_behind : (a part b : List ℕ) → Begins part b → Begins (a ++ part) (a ++ b)
begins_behind a part b h =
    let rest : List ℕ = drop (length part) b in
    let e : a ++ b ≡ (a ++ part) ++ rest = ap (λ x. a ++ x) (begins_rest part b h) ∙ sym (append_assoc a part rest) in
    subst (λ x. Begins (a ++ part) x) (sym e) (begins_front (a ++ part) rest)

module _ {W : Type 0} {contents : W → Option (List ℕ)} where
  -- one text, and then another
  pub both_received : (old mid new : Device W) (a b : List ℕ) → Received contents old mid a → Received contents mid new b → Received contents old new (a ++ b)
  both_received old mid new a b p q = received_more contents old mid new a b p q

  -- more text would have followed
  pub part_more : (old new : Device W) (a b : List ℕ) → Part contents old new a → Part contents old new (a ++ b)
  part_more old new a b p = (p.0, begins_more p.0 a b p.1, p.2)

  -- a text stands before it
  pub part_behind : (old mid new : Device W) (a b : List ℕ) → Received contents old mid a → Part contents mid new b → Part contents old new (a ++ b)
  part_behind old mid new a b w p = (a ++ p.0, begins_behind a p.0 b p.1, both_received old mid new a p.0 w p.2)

  pub ends_behind : {A E : Type 0} (result : Result A E) (old mid new : Device W) (a b : List ℕ) → Received contents old mid a → Writes contents mid new result b → Writes contents old new result (a ++ b)
  ends_behind (Ok x) old mid new a b w p = both_received old mid new a b w p
  ends_behind (Err e) old mid new a b w p = part_behind old mid new a b w p

  -- a beginning is what is received at an Err
  pub ends_in_part : {A E : Type 0} (result : Result A E) (old new : Device W) (text : List ℕ) → IsErr result → Part contents old new text → Writes contents old new result text
  ends_in_part (Ok x) old new text h p = absurd (of_ok h)
    where
      of_ok : false ≡ true → ⊥
      of_ok e = cc
  ends_in_part (Err e) old new text h p = p
