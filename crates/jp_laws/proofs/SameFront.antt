-- Lines that begin alike spell the same trees there.
use Rattle.std.proofs.Common.{◌≡◌, ℕ, ◌+◌, ◌-◌, ◌<◌, ◌≤◌, inl, inr, ◌||◌, Bool, List, [], ◌∷◌, take, drop, get_or, length, Option, Some, None, encode_utf8, refl, sym, ap, ap₂, ◌∙◌, arith, take-take, get_or-take}
use Rattle.std.proofs.lemmas.List.{drop-take}
use Rattle.jp_model.proofs.Reader.Bodies.{characters_longer}
use Rattle.jp_model.proofs.Reader.Whole.{label_order}
use Rattle.jp_model.specs.declared.Span.{Span}
use Rattle.jp_model.specs.Characters.{is_white, four_digits}
use Rattle.jp_model.specs.Json.Faults.{has_long_exponent, value_has_long_exponent, children_have_long_exponent}
use Rattle.jp_model.specs.Json.Numbers.{numeral_bytes, numeral_of, is_long_exponent}
use Rattle.jp_model.specs.Json.Places.{byte_at, White, Has, Reads, bytes_between}
use Rattle.jp_model.specs.Json.Spelling.{Spells, SpellsValue, SpellsFirst, SpellsMore, SpellsLabel, SpellsString, Separator, Closes, opening, closing, word_of, null_word}
use Rattle.jp_model.specs.Json.Strings.{SpellsCharacter, SpellsCharacters, SpellsBody}
use Rattle.jp_model.specs.Json.Tree.{Tree, node, Value, null, boolean, number, string, container, Container, array, object, Children, no_child, child, Name, span}
use Rattle.jp_laws.proofs.Locations.{tree_sized, first_sized, more_sized}

-- two lines have the same first bytes, and the other has as many
module _ (line other : List ℕ) (b : ℕ) (same : take b line ≡ take b other) (within : b ≤ length other) where
  byte_same : (k : ℕ) → k < b → byte_at other k ≡ byte_at line k
  byte_same k l = sym (get_or-take b other k 0 l) ∙ (ap (λ xs. get_or xs k 0) (sym same) ∙ get_or-take b line k 0 l)

  has_same : (i byte : ℕ) → i < b → Has line i byte → Has other i byte
  has_same i byte l h = record { inside = omega arith; is = byte_same i l ∙ h.is }

  pub white_same : (i j : ℕ) → j ≤ b → White line i j → White other i j
  white_same i j l w = record { order = w.order; within = omega arith; white = λ k p q. ap is_white (byte_same k (omega arith)) ∙ w.white k p q }

  between_front : (i j : ℕ) (xs : List ℕ) → i ≤ j → j ≤ b → bytes_between xs i j ≡ take (j - i) (drop i (take b xs))
  between_front i j xs o l =
      sym (take-take (j - i) (b - i) (drop i xs) (omega arith)) ∙ ap (take (j - i)) (sym (drop-take i (b - i) xs) ∙ ap (λ n. drop i (take n xs)) (let e : i + (b - i) ≡ b = omega arith in e))

  between_same : (i j : ℕ) → i ≤ j → j ≤ b → bytes_between other i j ≡ bytes_between line i j
  between_same i j o l = between_front i j other o l ∙ (ap (λ xs. take (j - i) (drop i xs)) (sym same) ∙ sym (between_front i j line o l))

  reads_same : (i j : ℕ) (bytes : List ℕ) → j ≤ b → Reads line i j bytes → Reads other i j bytes
  reads_same i j bytes l r = record { order = r.order; within = omega arith; are = between_same i j r.order l ∙ r.are }

  -- ---- strings

  four : {p q r s w x y z u : ℕ} → p ≡ w → q ≡ x → r ≡ y → s ≡ z → four_digits w x y z ≡ Some u → four_digits p q r s ≡ Some u
  four c d g o t = rw (c, d, g, o) t

  character_same : (i j u : ℕ) → j ≤ b → SpellsCharacter line i j u → SpellsCharacter other i j u
  character_same i j u l (inl h) = inl (record { scalar = h.scalar; no_control = h.no_control; no_quote = h.no_quote; no_backslash = h.no_backslash; bytes = reads_same i j (encode_utf8 u) l h.bytes })
  character_same i j u l (inr (inl h)) =
      let e = h.end in
      inr (inl (record { letter = h.letter; backslash = has_same i 0x5C (omega arith) h.backslash; has_letter = has_same (i + 1) h.letter (omega arith) h.has_letter; spells = h.spells; end = e }))
  character_same i j u l (inr (inr h)) =
      let e = h.end in
      inr (inr (record {
        backslash = has_same i 0x5C (omega arith) h.backslash;
        letter = has_same (i + 1) 0x75 (omega arith) h.letter;
        spells = four (byte_same (i + 2) (omega arith)) (byte_same (i + 3) (omega arith)) (byte_same (i + 4) (omega arith)) (byte_same (i + 5) (omega arith)) h.spells;
        end = e;
      }))

  characters_same : (us : List ℕ) (i j : ℕ) → j ≤ b → SpellsCharacters line i j us → SpellsCharacters other i j us
  characters_same [] i j l h = h
  characters_same (u ∷ us) i j l h = let r = characters_longer line h.0 j us h.2 in (h.0, character_same i h.0 u (omega arith) h.1, characters_same us h.0 j l h.2)

  body_same : (i j : ℕ) (points : List ℕ) → j ≤ b → SpellsBody line i j points → SpellsBody other i j points
  body_same i j points l h = record { order = h.order; units = h.units; characters = characters_same h.units i j l h.characters; are = h.are }

  string_same : (i j : ℕ) (points : List ℕ) → j ≤ b → SpellsString line i j points → SpellsString other i j points
  string_same i j points l h =
      let o = h.body.order in
      let e = h.end in
      record { last = h.last; opens = has_same i 0x22 (omega arith) h.opens; body = body_same (i + 1) h.last points (omega arith) h.body; closes = has_same h.last 0x22 (omega arith) h.closes; end = e }

  -- ---- labels and brackets

  separator_same : (byte i j : ℕ) → j ≤ b → Separator line byte i j → Separator other byte i j
  separator_same byte i j l h =
      let o = h.after.order in
      record { place = h.place; before = white_same i h.place (omega arith) h.before; is = has_same h.place byte (omega arith) h.is; after = white_same (h.place + 1) j l h.after }

  label_same : (kind : Container) (i j : ℕ) (name : Option Name) → j ≤ b → SpellsLabel line kind i j name → SpellsLabel other kind i j name
  label_same array i j None l h = h
  label_same array i j (Some name) l h = absurd h
  label_same object i j None l h = absurd h
  label_same object i j (Some name) l h =
      let q = h.behind_quote in
      let o = h.body.order in
      let c = h.colon.before.order in
      let d = h.colon.after.order in
      record {
        opens = has_same i 0x22 (omega arith) h.opens;
        body = body_same name.body.start name.body.end name.points (omega arith) h.body;
        closes = has_same name.body.end 0x22 (omega arith) h.closes;
        behind_quote = q;
        colon = separator_same 0x3A (name.body.end + 1) j l h.colon;
      }

  closes_same : (kind : Container) (i j : ℕ) → j ≤ b → Closes line kind i j → Closes other kind i j
  closes_same kind i j l h =
      let e = h.end in
      record { place = h.place; white = white_same i h.place (omega arith) h.white; bracket = has_same h.place (closing kind) (omega arith) h.bracket; end = e }

  -- ---- trees

  mutual
    pub tree_same : (t : Tree) → (span t).end ≤ b → Spells line t → Spells other t
    tree_same (node s v) l h = value_same s v l h

    value_same : (s : Span) (v : Value) → s.end ≤ b → SpellsValue line s v → SpellsValue other s v
    value_same s null l h = reads_same s.start s.end null_word l h
    value_same s (boolean c) l h = reads_same s.start s.end (word_of c) l h
    value_same s (number m e) l h = record { numeral = h.numeral; correct = h.correct; bytes = reads_same s.start s.end (numeral_bytes h.numeral) l h.bytes; is_mantissa = h.is_mantissa; is_scale = h.is_scale }
    value_same s (string x) l h = string_same s.start s.end x l h
    value_same s (container kind cs) l h = let z = (first_sized line kind (s.start + 1) s.end cs h.1).0 in (has_same s.start (opening kind) (omega arith) h.0, first_same kind (s.start + 1) s.end cs l h.1)

    first_same : (kind : Container) (i j : ℕ) (cs : Children) → j ≤ b → SpellsFirst line kind i j cs → SpellsFirst other kind i j cs
    first_same kind i j no_child l h = closes_same kind i j l h
    first_same kind i j (child name (node s v) more) l h =
        let p = label_order line kind h.0 s.start name h.2 in
        let z = (tree_sized line (node s v) h.3).0 in
        let r = (more_sized line kind s.end j more h.4).0 in
        (h.0, white_same i h.0 (omega arith) h.1, label_same kind h.0 s.start name (omega arith) h.2, value_same s v (omega arith) h.3, more_same kind s.end j more l h.4)

    more_same : (kind : Container) (i j : ℕ) (cs : Children) → j ≤ b → SpellsMore line kind i j cs → SpellsMore other kind i j cs
    more_same kind i j no_child l h = closes_same kind i j l h
    more_same kind i j (child name (node s v) more) l h =
        let p = label_order line kind h.0 s.start name h.2 in
        let z = (tree_sized line (node s v) h.3).0 in
        let r = (more_sized line kind s.end j more h.4).0 in
        (h.0, separator_same 0x2C i h.0 (omega arith) h.1, label_same kind h.0 s.start name (omega arith) h.2, value_same s v (omega arith) h.3, more_same kind s.end j more l h.4)

  -- ---- exponents

  mutual
    pub exponents_same : (t : Tree) → (span t).end ≤ b → Spells line t → has_long_exponent other t ≡ has_long_exponent line t
    exponents_same (node s v) l h = value_exponents s v l h

    value_exponents : (s : Span) (v : Value) → s.end ≤ b → SpellsValue line s v → value_has_long_exponent other s v ≡ value_has_long_exponent line s v
    value_exponents s null l h = refl
    value_exponents s (boolean c) l h = refl
    value_exponents s (number m e) l h = ap (λ bytes. is_long_exponent (numeral_of bytes)) (between_same s.start s.end h.bytes.order l)
    value_exponents s (string x) l h = refl
    value_exponents s (container kind cs) l h = first_exponents kind (s.start + 1) s.end cs l h.1

    first_exponents : (kind : Container) (i j : ℕ) (cs : Children) → j ≤ b → SpellsFirst line kind i j cs → children_have_long_exponent other cs ≡ children_have_long_exponent line cs
    first_exponents kind i j no_child l h = refl
    first_exponents kind i j (child name (node s v) more) l h =
        let r = (more_sized line kind s.end j more h.4).0 in
        ap₂ (λ (x y : Bool). x || y) (value_exponents s v (omega arith) h.3) (more_exponents kind s.end j more l h.4)

    more_exponents : (kind : Container) (i j : ℕ) (cs : Children) → j ≤ b → SpellsMore line kind i j cs → children_have_long_exponent other cs ≡ children_have_long_exponent line cs
    more_exponents kind i j no_child l h = refl
    more_exponents kind i j (child name (node s v) more) l h =
        let r = (more_sized line kind s.end j more h.4).0 in
        ap₂ (λ (x y : Bool). x || y) (value_exponents s v (omega arith) h.3) (more_exponents kind s.end j more l h.4)
