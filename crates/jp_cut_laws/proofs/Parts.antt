-- The bytes at the span of a tree are written for it.
use Rattle.std.proofs.Common.{◌≡◌, ℕ, zero, suc, ◌+◌, ◌-◌, ◌<◌, ◌≤◌, inl, inr, Bool, true, false, ◌||◌, List, [], ◌∷◌, ◌++◌, length, take, drop, Option, Some, None, ℤ, refl, sym, ap, ap₂, subst, ◌∙◌, arith, add-one}
use Rattle.std.proofs.Math.Seq.{take-add, drop-cons}
use Rattle.std.proofs.lemmas.List.{drop-drop}
use Rattle.jp_model.specs.declared.Span.{Span}
use Rattle.jp_model.specs.Json.Faults.{has_long_exponent, value_has_long_exponent, children_have_long_exponent}
use Rattle.jp_model.specs.Json.Numbers.{SpellsNumber, numeral_of, is_long_exponent}
use Rattle.jp_model.specs.Json.Places.{byte_at, bytes_between, White, Has}
use Rattle.jp_model.specs.Json.Spelling.{Spells, SpellsValue, SpellsFirst, SpellsMore, SpellsLabel, SpellsString, Separator, Closes, opening, closing}
use Rattle.jp_model.specs.Json.Strings.{SpellsCharacter, SpellsCharacters, SpellsBody}
use Rattle.jp_model.specs.Json.Tree.{Tree, node, Value, null, boolean, number, string, container, Container, array, object, Children, no_child, child, Name, span}
use Rattle.jp_model.proofs.Reader.Numbers.{parts_read}
use Rattle.jp_model.proofs.Reader.Bodies.{character_longer, characters_longer}
use Rattle.jp_cut_laws.proofs.Written.{IsWhite, IsSeparator, IsEnd, IsCharacter, AreCharacters, IsString, IsLabel, IsNumber, Writes, WritesValue, WritesFirst, WritesMore}

-- ---- the bytes from a place up to another

pub between_join : (line : List ℕ) (i j k : ℕ) → i ≤ j → j ≤ k → bytes_between line i j ++ bytes_between line j k ≡ bytes_between line i k
between_join line i j k order next =
    let parts : k - i ≡ (j - i) + (k - j) = omega arith in
    let there : i + (j - i) ≡ j = omega arith in
    sym (ap (λ n. take n (drop i line)) parts ∙ take-add (j - i) (k - j) (drop i line) ∙ ap (λ xs. bytes_between line i j ++ take (k - j) xs) (drop-drop (j - i) i line ∙ ap (λ n. drop n line) there))

pub between_none : (line : List ℕ) (i : ℕ) → bytes_between line i i ≡ []
between_none line i = let n : i - i ≡ 0 = omega arith in ap (λ k. take k (drop i line)) n

between_first : (line : List ℕ) (i j : ℕ) → i < j → i < length line → bytes_between line i j ≡ byte_at line i ∷ bytes_between line (suc i) j
between_first line i j some within =
    let n : j - i ≡ suc (j - suc i) = omega arith in
    ap (λ k. take k (drop i line)) n ∙ ap (take (suc (j - suc i))) (drop-cons line i 0 within)

between_one : (line : List ℕ) (i b : ℕ) → Has line i b → bytes_between line i (i + 1) ≡ b ∷ []
between_one line i b h =
    ap (bytes_between line i) (add-one i) ∙ between_first line i (suc i) (omega arith) h.inside ∙ ap₂ (λ (x : ℕ) (xs : List ℕ). x ∷ xs) h.is (between_none line (suc i))

pub or_false : (a b : Bool) → (a || b) ≡ false → (a ≡ false) × (b ≡ false)
or_false true b e = absurd (cc)
or_false false b e = (refl, e)

module _ (line : List ℕ) where
  abbrev part : ℕ → ℕ → List ℕ
  part i j = bytes_between line i j

  -- a byte, and what follows
  byte_then : (i j b : ℕ) → Has line i b → i + 1 ≤ j → part i j ≡ b ∷ part (i + 1) j
  byte_then i j b h order = sym (between_join line i (i + 1) j (omega arith) order) ∙ ap (λ xs. xs ++ part (i + 1) j) (between_one line i b h)

  -- a part, and a byte
  then_byte : (i j b : ℕ) → i ≤ j → Has line j b → part i (j + 1) ≡ part i j ++ b ∷ []
  then_byte i j b order h = sym (between_join line i j (j + 1) order (omega arith)) ∙ ap (λ xs. part i j ++ xs) (between_one line j b h)

  four_join : (i j k m n : ℕ) → i ≤ j → j ≤ k → k ≤ m → m ≤ n → part i n ≡ part i j ++ (part j k ++ (part k m ++ part m n))
  four_join i j k m n p q r s =
      sym (between_join line i j n p (omega (arith, q, r, s)))
      ∙ ap (λ xs. part i j ++ xs) (sym (between_join line j k n q (omega (arith, r, s))) ∙ ap (λ xs. part j k ++ xs) (sym (between_join line k m n r s)))

  white_run : (n i j : ℕ) → j ≡ i + n → White line i j → IsWhite (part i j)
  white_run zero i j e w = subst IsWhite (sym (ap (part i) (let k : j ≡ i = omega (arith, e) in k) ∙ between_none line i)) tt
  white_run (suc n) i j e w =
      let l : i < length line = omega (arith, e, w.within) in
      let rest : White line (suc i) j = record { order = omega (arith, e); within = w.within; white = λ k a b. w.white k (omega arith) b } in
      subst IsWhite (sym (between_first line i j (omega (arith, e)) l)) (w.white i (omega arith) (omega (arith, e)), white_run n (suc i) j (omega (arith, e)) rest)

  pub white_part : (i j : ℕ) → White line i j → IsWhite (part i j)
  white_part i j w = white_run (j - i) i j (omega (arith, w.order)) w

  separator_part : (b i j : ℕ) → Separator line b i j → (i ≤ j) × IsSeparator b (part i j)
  separator_part b i j h =
      let o = h.before.order in
      let p = h.after.order in (
        omega (arith, o, p),
        record {
          before = part i h.place;
          after = part (h.place + 1) j;
          joined = sym (between_join line i h.place j o (omega (arith, p))) ∙ ap (λ xs. part i h.place ++ xs) (byte_then h.place j b h.is p);
          white_before = white_part i h.place h.before;
          white_after = white_part (h.place + 1) j h.after;
        },
      )

  end_part : (kind : Container) (i j : ℕ) → Closes line kind i j → (i ≤ j) × IsEnd kind (part i j)
  end_part kind i j h =
      let o = h.white.order in
      let e = h.end in (
        omega (arith, o, e),
        record { before = part i h.place; joined = ap (part i) e ∙ then_byte i h.place (closing kind) o h.bracket; white = white_part i h.place h.white },
      )

  -- ---- strings

  -- the byte at a place, whatever it is, and what follows
  whatever_then : (i k j : ℕ) → k ≡ i + 1 → k ≤ j → i < length line → part i j ≡ byte_at line i ∷ part k j
  whatever_then i k j e order l = between_first line i j (omega (arith, e)) l ∙ ap (λ n. byte_at line i ∷ part n j) (let g : suc i ≡ k = omega (arith, e) in g)

  short_part : (i j letter : ℕ) → Has line i 0x5C → Has line (i + 1) letter → j ≡ i + 2 → part i j ≡ 0x5C ∷ letter ∷ []
  short_part i j letter h g e =
      byte_then i j 0x5C h (omega (arith, e)) ∙ ap (λ xs. 0x5C ∷ xs) (byte_then (i + 1) j letter g (omega (arith, e)) ∙ ap (λ xs. letter ∷ xs) (ap (λ n. part n j) (let f : i + 1 + 1 ≡ j = omega (arith, e) in f) ∙ between_none line j))

  four_part : (i j : ℕ) → j ≡ i + 4 → j ≤ length line → part i j ≡ byte_at line i ∷ byte_at line (i + 1) ∷ byte_at line (i + 2) ∷ byte_at line (i + 3) ∷ []
  four_part i j e l =
      whatever_then i (i + 1) j refl (omega (arith, e)) (omega (arith, e, l))
      ∙ ap (λ xs. byte_at line i ∷ xs) (whatever_then (i + 1) (i + 2) j (omega arith) (omega (arith, e)) (omega (arith, e, l))
      ∙ ap (λ xs. byte_at line (i + 1) ∷ xs) (whatever_then (i + 2) (i + 3) j (omega arith) (omega (arith, e)) (omega (arith, e, l))
      ∙ ap (λ xs. byte_at line (i + 2) ∷ xs) (whatever_then (i + 3) j j (omega (arith, e)) (omega arith) (omega (arith, e, l)) ∙ ap (λ xs. byte_at line (i + 3) ∷ xs) (between_none line j))))

  unicode_part : (i j : ℕ) → Has line i 0x5C → Has line (i + 1) 0x75 → j ≡ i + 6 → j ≤ length line
      → part i j ≡ 0x5C ∷ 0x75 ∷ byte_at line (i + 2) ∷ byte_at line (i + 3) ∷ byte_at line (i + 4) ∷ byte_at line (i + 5) ∷ []
  unicode_part i j h g e l =
      byte_then i j 0x5C h (omega (arith, e))
      ∙ ap (λ xs. 0x5C ∷ xs) (byte_then (i + 1) j 0x75 g (omega (arith, e)) ∙ ap (λ xs. 0x75 ∷ xs) (ap (λ n. part n j) (let f : i + 1 + 1 ≡ i + 2 = omega arith in f) ∙ four_part (i + 2) j (omega (arith, e)) l
      ∙ moved (byte_at line) (let f : i + 2 + 1 ≡ i + 3 = omega arith in f) (let f : i + 2 + 2 ≡ i + 4 = omega arith in f) (let f : i + 2 + 3 ≡ i + 5 = omega arith in f)))
    where
      moved : (f : ℕ → ℕ) {x y z u v w : ℕ} → x ≡ u → y ≡ v → z ≡ w → f (i + 2) ∷ f x ∷ f y ∷ f z ∷ [] ≡ f (i + 2) ∷ f u ∷ f v ∷ f w ∷ []
      moved f p q r = cc

  character_part : (i j u : ℕ) → j ≤ length line → SpellsCharacter line i j u → IsCharacter (part i j) u
  character_part i j u l (inl h) = inl (record { scalar = h.scalar; no_control = h.no_control; no_quote = h.no_quote; no_backslash = h.no_backslash; joined = h.bytes.are })
  character_part i j u l (inr (inl h)) = inr (inl (record { letter = h.letter; spells = h.spells; joined = short_part i j h.letter h.backslash h.has_letter h.end }))
  character_part i j u l (inr (inr h)) =
      inr (inr (record { a = byte_at line (i + 2); b = byte_at line (i + 3); c = byte_at line (i + 4); d = byte_at line (i + 5); spells = h.spells; joined = unicode_part i j h.backslash h.letter h.end l }))

  characters_part : (us : List ℕ) (i j : ℕ) → j ≤ length line → SpellsCharacters line i j us → AreCharacters (part i j) us
  characters_part [] i j l h = ap (part i) (sym h) ∙ between_none line i
  characters_part (u ∷ us) i j l h =
      let a = character_longer line i h.0 u h.1 in
      let b = characters_longer line h.0 j us h.2 in
      (part i h.0, part h.0 j, sym (between_join line i h.0 j (omega (arith, a)) (omega (arith, b))), character_part i h.0 u (omega (arith, b)) h.1, characters_part us h.0 j l h.2)

  -- a quote, a body and a quote
  quoted_part : (i m n j : ℕ) (points : List ℕ) → Has line i 0x22 → m ≡ i + 1 → SpellsBody line m n points → Has line n 0x22 → j ≡ n + 1 → IsString (part i j) points
  quoted_part i m n j points opens e body closes f =
      let o = body.order in
      let c = closes.inside in
      record {
        body = part m n;
        units = body.units;
        characters = characters_part body.units m n (omega (arith, c)) body.characters;
        are = body.are;
        joined = byte_then i j 0x22 opens (omega (arith, o, e, f)) ∙ ap (λ xs. 0x22 ∷ xs) (ap₂ part (sym e) f ∙ then_byte m n 0x22 o closes);
      }

  string_part : (i j : ℕ) (points : List ℕ) → SpellsString line i j points → (i ≤ j) × IsString (part i j) points
  string_part i j points h = let o = h.body.order in let e = h.end in (omega (arith, o, e), quoted_part i (i + 1) h.last j points h.opens refl h.body h.closes e)

  label_part : (kind : Container) (i j : ℕ) (name : Option Name) → SpellsLabel line kind i j name → (i ≤ j) × IsLabel kind (part i j) name
  label_part array i j None h = (omega (arith, h), ap (part i) (sym h) ∙ between_none line i)
  label_part array i j (Some name) h = absurd h
  label_part object i j None h = absurd h
  label_part object i j (Some name) h =
      let e = h.behind_quote in
      let o = h.body.order in
      let c = separator_part 0x3A (name.body.end + 1) j h.colon in (
        omega (arith, e, o, c.0),
        record {
          name = part i (name.body.end + 1);
          colon = part (name.body.end + 1) j;
          joined = sym (between_join line i (name.body.end + 1) j (omega (arith, e, o)) c.0);
          quoted = quoted_part i name.body.start name.body.end (name.body.end + 1) name.points h.opens e h.body h.closes refl;
          separator = c.1;
        },
      )

  -- ---- numbers

  number_part : (i j : ℕ) (m e : ℤ) → SpellsNumber line i j m e → is_long_exponent (numeral_of (part i j)) ≡ false → IsNumber (part i j) m e
  number_part i j m e h short = record {
    numeral = h.numeral;
    correct = h.correct;
    short = sym (ap is_long_exponent (ap numeral_of h.bytes.are ∙ parts_read h.numeral h.correct)) ∙ short;
    joined = sym h.bytes.are;
    is_mantissa = h.is_mantissa;
    is_scale = h.is_scale;
  }

  -- ---- values

  mutual
    pub tree_part : (t : Tree) → Spells line t → has_long_exponent line t ≡ false → ((span t).start ≤ (span t).end) × Writes (part (span t).start (span t).end) t
    tree_part (node s v) h short = value_part s v h short

    value_part : (s : Span) (v : Value) → SpellsValue line s v → value_has_long_exponent line s v ≡ false → (s.start ≤ s.end) × WritesValue (part s.start s.end) v
    value_part s null h short = (h.order, h.are)
    value_part s (boolean b) h short = (h.order, h.are)
    value_part s (number m e) h short = (h.bytes.order, number_part s.start s.end m e h short)
    value_part s (string points) h short = string_part s.start s.end points h
    value_part s (container kind children) h short =
        let inside = first_part kind (s.start + 1) s.end children h.1 short in
        (omega (arith, inside.0), (part (s.start + 1) s.end, byte_then s.start s.end (opening kind) h.0 inside.0, inside.1))

    first_part : (kind : Container) (i j : ℕ) (c : Children) → SpellsFirst line kind i j c → children_have_long_exponent line c ≡ false → (i ≤ j) × WritesFirst kind (part i j) c
    first_part kind i j no_child h short = end_part kind i j h
    first_part kind i j (child name t more) h short =
        let s = (span t).start in
        let e = (span t).end in
        let parts = or_false (has_long_exponent line t) _ short in
        let white = h.1.order in
        let label = label_part kind h.0 s name h.2 in
        let text = tree_part t h.3 parts.0 in
        let rest = more_part kind e j more h.4 parts.1 in
        (omega (arith, white, label.0, text.0, rest.0), (part i h.0, part h.0 s, part s e, part e j, four_join i h.0 s e j white label.0 text.0 rest.0, white_part i h.0 h.1, label.1, text.1, rest.1))

    more_part : (kind : Container) (i j : ℕ) (c : Children) → SpellsMore line kind i j c → children_have_long_exponent line c ≡ false → (i ≤ j) × WritesMore kind (part i j) c
    more_part kind i j no_child h short = end_part kind i j h
    more_part kind i j (child name t more) h short =
        let s = (span t).start in
        let e = (span t).end in
        let parts = or_false (has_long_exponent line t) _ short in
        let comma = separator_part 0x2C i h.0 h.1 in
        let label = label_part kind h.0 s name h.2 in
        let text = tree_part t h.3 parts.0 in
        let rest = more_part kind e j more h.4 parts.1 in
        (omega (arith, comma.0, label.0, text.0, rest.0), (part i h.0, part h.0 s, part s e, part e j, four_join i h.0 s e j comma.0 label.0 text.0 rest.0, comma.1, label.1, text.1, rest.1))
