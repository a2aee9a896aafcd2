-- A body within a line is a body by itself.
use Rattle.std.proofs.Common.{◌≡◌, ℕ, ◌+◌, ◌-◌, ◌<◌, ◌≤◌, inl, inr, List, [], ◌∷◌, length, drop, take, sym, ◌∙◌, ap, ap₂, subst, true, false, refl, arith, get_or-drop, length-drop}
use Rattle.std.proofs.lemmas.List.{get_or-take, take-take, drop-take, drop-drop, length-take-le}
use Rattle.jp_model.specs.Json.Places.{byte_at, bytes_between, Has}
use Rattle.jp_model.specs.Json.Strings.{SpellsCharacter, SpellsCharacters, SpellsBody, has_lone_surrogate}
use Rattle.jp_model.specs.Characters.{four_digits}
use Rattle.std.proofs.lemmas.Bool.{cases_lt}
use Rattle.jp_lanes.specs.Search.{is_special, IsFirstSpecial}
use Rattle.jp_model.proofs.Reader.Lexical.{clash}
use Rattle.jp_strings.specs.Within.{StandsWithin}
use Rattle.jp_strings.specs.Points.{IsText, points_of}
use Rattle.jp_strings.proofs.Reading.{character_longer, characters_longer}
use Rattle.jp_strings.proofs.Texts.{points_of_spelled}
use Rattle.jp_strings.proofs.Utf8.{character_within}

-- what stands in a line from a position on
record Part (line part : List ℕ) (from : ℕ) : Type 0 where
  inside : from + length part ≤ length line
  is : part ≡ take (length part) (drop from line)

same_byte : (line part : List ℕ) (from i k : ℕ) → Part line part from → i < length part → k ≡ from + i → byte_at part i ≡ byte_at line k
same_byte line part from i k p l e = ap (λ xs. byte_at xs i) p.is ∙ (get_or-take (length part) (drop from line) i 0 l ∙ (get_or-drop from line i 0 ∙ ap (byte_at line) (sym e)))

-- the first special byte of the line from there on is that of a body that stands there
pub special_within : (line body : List ℕ) (from at end : ℕ) → StandsWithin line body from → at ≤ length body → IsFirstSpecial line (from + at) end → IsFirstSpecial body at (end - from)
special_within line body from at end s w f =
    let part : Part line body from = record { inside = s.inside; is = s.is } in
    let inside = s.inside in
    let order = f.order in
    let last : end ≤ from + length body = elim (cases_lt (from + length body) end) [
      | inl lt ↦ absurd (clash _ (s.closes (let o = f.within in omega (arith, lt, o))) (f.plain (from + length body) (omega (arith, w)) lt))
      | inr le ↦ le
    ] in
    record {
      order = omega (arith, order);
      within = omega (arith, last, order);
      plain = λ k low high.
          ap is_special (same_byte line body from k (from + k) part (omega (arith, high, last, order)) refl) ∙ f.plain (from + k) (omega (arith, low)) (omega (arith, high));
      stops = λ l.
          (let there : from + (end - from) ≡ end = omega (arith, order) in
          let e = same_byte line body from (end - from) (from + (end - from)) part l refl ∙ ap (byte_at line) there in
          ap is_special e ∙ f.stops (omega (arith, l, inside)));
    }

-- what is between two places of a line stands there
pub between_stands : (line : List ℕ) (from to : ℕ) → from ≤ to → to ≤ length line → (to < length line → is_special (byte_at line to) ≡ true) → StandsWithin line (bytes_between line from to) from
between_stands line from to o w closes =
    let d = length-drop from line in
    let size : length (bytes_between line from to) ≡ to - from = length-take-le (to - from) (drop from line) (omega (arith, d, o, w)) in
    let place : from + length (bytes_between line from to) ≡ to = omega (arith, size, o) in
    record {
      inside = omega (arith, place, w);
      is = ap (λ n. take n (drop from line)) (sym size);
      closes = λ l. ap (λ i. is_special (byte_at line i)) place ∙ closes (omega (arith, place, l));
    }

same_bytes : (line part : List ℕ) (from i j k l : ℕ) → Part line part from → i ≤ j → j ≤ length part → k ≡ from + i → l ≡ from + j → bytes_between part i j ≡ bytes_between line k l
same_bytes line part from i j k l p o w e f =
    let n : length part ≡ i + (length part - i) = omega (arith, o, w) in
    let width : j - i ≡ l - k = omega (arith, o, e, f) in
    let tail : drop i part ≡ take (length part - i) (drop k line) =
    ap (λ xs. drop i xs) (p.is ∙ ap (λ m. take m (drop from line)) n) ∙ (drop-take i (length part - i) (drop from line) ∙ (ap (λ xs. take (length part - i) xs) (drop-drop i from line ∙ ap (λ m. drop m line) (sym e)))) in
    ap (λ xs. take (j - i) xs) tail ∙ (take-take (j - i) (length part - i) (drop k line) (omega (arith, w)) ∙ ap (λ m. take m (drop k line)) width)

four_same : (a b c d e f g h : ℕ) → a ≡ e → b ≡ f → c ≡ g → d ≡ h → four_digits a b c d ≡ four_digits e f g h
four_same a b c d e f g h p q r s = ap₂ (λ x y. four_digits x y c d) p q ∙ ap₂ (λ x y. four_digits e f x y) r s

-- ---- from the line
has_in : (line part : List ℕ) (from i k b : ℕ) → Part line part from → i < length part → k ≡ from + i → Has line k b → Has part i b
has_in line part from i k b p l e h = record { inside = l; is = same_byte line part from i k p l e ∙ h.is }

character_in : (line part : List ℕ) (from i j k l u : ℕ) → Part line part from → k ≡ from + i → l ≡ from + j → j ≤ length part → SpellsCharacter line k l u → SpellsCharacter part i j u
character_in line part from i j k l u p e f w (inl a) =
    let o = a.bytes.order in
    let order : i ≤ j = omega (arith, e, f, o) in
    inl (record {
      scalar = a.scalar;
      no_control = a.no_control;
      no_quote = a.no_quote;
      no_backslash = a.no_backslash;
      bytes = record { order = order; within = w; are = same_bytes line part from i j k l p order w e f ∙ a.bytes.are };
    })
character_in line part from i j k l u p e f w (inr (inl a)) =
    let end = a.end in
    inr (inl (record {
      letter = a.letter;
      backslash = has_in line part from i k 0x5C p (omega (arith, w, end, e, f)) e a.backslash;
      has_letter = has_in line part from (i + 1) (k + 1) a.letter p (omega (arith, w, end, e, f)) (omega (arith, e)) a.has_letter;
      spells = a.spells;
      end = omega (arith, end, e, f);
    }))
character_in line part from i j k l u p e f w (inr (inr a)) =
    let end = a.end in
    let second = same_byte line part from (i + 2) (k + 2) p (omega (arith, w, end, e, f)) (omega (arith, e)) in
    let third = same_byte line part from (i + 3) (k + 3) p (omega (arith, w, end, e, f)) (omega (arith, e)) in
    let fourth = same_byte line part from (i + 4) (k + 4) p (omega (arith, w, end, e, f)) (omega (arith, e)) in
    let fifth = same_byte line part from (i + 5) (k + 5) p (omega (arith, w, end, e, f)) (omega (arith, e)) in
    inr (inr (record {
      backslash = has_in line part from i k 0x5C p (omega (arith, w, end, e, f)) e a.backslash;
      letter = has_in line part from (i + 1) (k + 1) 0x75 p (omega (arith, w, end, e, f)) (omega (arith, e)) a.letter;
      spells = four_same _ _ _ _ _ _ _ _ second third fourth fifth ∙ a.spells;
      end = omega (arith, end, e, f);
    }))

characters_in : (line part : List ℕ) (from i k : ℕ) (us : List ℕ) → Part line part from → k ≡ from + i → SpellsCharacters line k (from + length part) us → SpellsCharacters part i (length part) us
characters_in line part from i k [] p e h = omega (arith, e, h)
characters_in line part from i k (u ∷ us) p e h =
    let one = character_longer line k h.0 u h.1 in
    let rest = characters_longer line h.0 (from + length part) us h.2 in
    let middle : h.0 ≡ from + (h.0 - from) = omega (arith, e, one) in
    (h.0 - from, character_in line part from i (h.0 - from) k h.0 u p e middle (omega (arith, rest)) h.1, characters_in line part from (h.0 - from) h.0 us p middle h.2)

-- ---- to the line
has_out : (line part : List ℕ) (from i k b : ℕ) → Part line part from → k ≡ from + i → Has part i b → Has line k b
has_out line part from i k b p e h = record { inside = (let o = h.inside in let w = p.inside in omega (arith, o, w, e)); is = sym (same_byte line part from i k p h.inside e) ∙ h.is }

character_out : (line part : List ℕ) (from i j k l u : ℕ) → Part line part from → k ≡ from + i → l ≡ from + j → SpellsCharacter part i j u → SpellsCharacter line k l u
character_out line part from i j k l u p e f (inl a) =
    let o = a.bytes.order in
    let w = a.bytes.within in
    let inside = p.inside in
    inl (record {
      scalar = a.scalar;
      no_control = a.no_control;
      no_quote = a.no_quote;
      no_backslash = a.no_backslash;
      bytes = record { order = omega (arith, o, e, f); within = omega (arith, w, inside, f); are = sym (same_bytes line part from i j k l p o w e f) ∙ a.bytes.are };
    })
character_out line part from i j k l u p e f (inr (inl a)) =
    let end = a.end in
    inr (inl (record {
      letter = a.letter;
      backslash = has_out line part from i k 0x5C p e a.backslash;
      has_letter = has_out line part from (i + 1) (k + 1) a.letter p (omega (arith, e)) a.has_letter;
      spells = a.spells;
      end = omega (arith, end, e, f);
    }))
character_out line part from i j k l u p e f (inr (inr a)) =
    let end = a.end in
    let w = character_within part i j u (inr (inr a)) in
    let second = same_byte line part from (i + 2) (k + 2) p (omega (arith, w, end)) (omega (arith, e)) in
    let third = same_byte line part from (i + 3) (k + 3) p (omega (arith, w, end)) (omega (arith, e)) in
    let fourth = same_byte line part from (i + 4) (k + 4) p (omega (arith, w, end)) (omega (arith, e)) in
    let fifth = same_byte line part from (i + 5) (k + 5) p (omega (arith, w, end)) (omega (arith, e)) in
    inr (inr (record {
      backslash = has_out line part from i k 0x5C p e a.backslash;
      letter = has_out line part from (i + 1) (k + 1) 0x75 p (omega (arith, e)) a.letter;
      spells = sym (four_same _ _ _ _ _ _ _ _ second third fourth fifth) ∙ a.spells;
      end = omega (arith, end, e, f);
    }))

characters_out : (line part : List ℕ) (from i k : ℕ) (us : List ℕ) → Part line part from → k ≡ from + i → SpellsCharacters part i (length part) us → SpellsCharacters line k (from + length part) us
characters_out line part from i k [] p e h = omega (arith, e, h)
characters_out line part from i k (u ∷ us) p e h = (from + h.0, character_out line part from i h.0 k (from + h.0) u p e refl h.1, characters_out line part from h.0 (from + h.0) us p refl h.2)

-- ---- the slice
slice_part : (line : List ℕ) (from to : ℕ) → from ≤ to → to ≤ length line → (Part line (bytes_between line from to) from) × (from + length (bytes_between line from to) ≡ to)
slice_part line from to o w =
    let d = length-drop from line in
    let size : length (bytes_between line from to) ≡ to - from = length-take-le (to - from) (drop from line) (omega (arith, d, w)) in
    let part : Part line (bytes_between line from to) from = record { inside = omega (arith, size, o, w); is = ap (λ n. take n (drop from line)) (sym size) } in
    (part, omega (arith, size, o))

pub body_of_slice : (line points : List ℕ) (from to : ℕ) → to ≤ length line → SpellsBody line from to points → SpellsBody (bytes_between line from to) 0 (length (bytes_between line from to)) points
body_of_slice line points from to w s =
    let part = slice_part line from to s.order w in
    let characters = subst (λ e. SpellsCharacters line from e s.units) (sym part.1) s.characters in
    record { order = omega arith; units = s.units; characters = characters_in line (bytes_between line from to) from 0 from s.units part.0 (omega arith) characters; are = s.are }

pub body_in_line : (line points : List ℕ) (from to : ℕ) → from ≤ to → to ≤ length line → SpellsBody (bytes_between line from to) 0 (length (bytes_between line from to)) points → SpellsBody line from to points
body_in_line line points from to o w s =
    let part = slice_part line from to o w in
    let characters = characters_out line (bytes_between line from to) from 0 from s.units part.0 (omega arith) s.characters in
    record { order = o; units = s.units; characters = subst (λ e. SpellsCharacters line from e s.units) part.1 characters; are = s.are }

pub text_of_slice : (line points : List ℕ) (from to : ℕ) → to ≤ length line → SpellsBody line from to points → has_lone_surrogate points ≡ false → IsText (bytes_between line from to)
text_of_slice line points from to w s h = record { points = points; spelled = body_of_slice line points from to w s; is_whole = h }

pub points_of_slice : (line points : List ℕ) (from to : ℕ) → to ≤ length line → SpellsBody line from to points → points_of (bytes_between line from to) ≡ points
points_of_slice line points from to w s = points_of_spelled (bytes_between line from to) points (body_of_slice line points from to w s)
