-- The text of a tree by a printer whose parts can be read spells that tree, where it stands, with each number as it is spelled.
use Rattle.std.proofs.Common.{◌≡◌, ℕ, ◌+◌, true, false, List, [], ◌∷◌, ◌++◌, length, flat_map, Option, Some, None, refl, ap, ◌∙◌, ℤ, arith}
use Rattle.std.specs.Char.{IsScalar}
use Rattle.std.specs.Str.{all_scalars}
use Rattle.std.proofs.lemmas.Bool.{cond-false, and_parts, and_left}
use Rattle.std.proofs.lemmas.Bool.Decides.{nat_tests}
use Rattle.std.proofs.lemmas.List.{length-append}
use Rattle.jp_model.specs.Characters.{is_high_surrogate}
use Rattle.jp_model.specs.Json.Numbers.{IsNumeral, numeral_bytes, mantissa, scale}
use Rattle.jp_model.specs.Json.Spelling.{Spells, SpellsValue, SpellsFirst, SpellsMore, SpellsLabel, SpellsName, SpellsString, Separator, opening, closing, word_of, null_word}
use Rattle.jp_model.specs.Json.Strings.{SpellsCharacter, SpellsCharacters, SpellsBody, paired}
use Rattle.jp_model.specs.Json.Tree.{Tree, node, Value, null, boolean, number, string, container, Container, array, object, Children, no_child, child, Name}
use Rattle.jp_laws.specs.JsonTexts.{Printer, string_text, label_text, tree_text, value_text, first_text, more_text, CanBeLabel, CanBeSaid, CanBeValue, CanBeChildren}
use Rattle.jp_laws.proofs.TextsFrom.{IsTextFrom, reads_front, go_on, step_on, regroup, has_front, white_none}

-- each scalar that it writes is read as that scalar, and its numerals are numbers
pub record IsReadable (printer : Printer) : Type 0 where
  pub character : (line : List ℕ) (i c : ℕ) (rest : List ℕ) → IsScalar c → IsTextFrom line i (printer.character c ++ rest) → SpellsCharacter line i (i + length (printer.character c)) c
  pub numeral : (m e : ℤ) → IsNumeral (printer.numeral m e)

-- ---- where the parts of a text stand

abbrev pub placed_name : Printer → ℕ → Option Name → Option Name
placed_name printer i None = None
placed_name printer i (Some name) = Some (record { body = record { start = i + 1; end = i + 1 + length (flat_map printer.character name.points) }; points = name.points })

abbrev mutual
  -- the tree whose text stands from a position on
  pub placed : Printer → ℕ → Tree → Tree
  placed printer i (node s v) = node (record { start = i; end = i + length (value_text printer v) }) (placed_value printer i v)

  pub placed_value : Printer → ℕ → Value → Value
  placed_value printer i null = null
  placed_value printer i (boolean b) = boolean b
  placed_value printer i (number m e) = number (mantissa (printer.numeral m e)) (scale (printer.numeral m e))
  placed_value printer i (string x) = string x
  placed_value printer i (container kind cs) = container kind (placed_first printer (i + 1) cs)

  pub placed_first : Printer → ℕ → Children → Children
  placed_first printer i no_child = no_child
  placed_first printer i (child name t more) = child (placed_name printer i name) (placed printer (i + length (label_text printer name)) t) (placed_more printer (i + length (label_text printer name) + length (tree_text printer t)) more)

  pub placed_more : Printer → ℕ → Children → Children
  placed_more printer i no_child = no_child
  placed_more printer i (child name t more) = child (placed_name printer (i + 1) name) (placed printer (i + 1 + length (label_text printer name)) t) (placed_more printer (i + 1 + length (label_text printer name) + length (tree_text printer t)) more)

module _ (printer : Printer) (readable : IsReadable printer) (line : List ℕ) where
  -- ---- strings

  characters_spelled : (points : List ℕ) (i j : ℕ) (rest : List ℕ) → all_scalars points ≡ true → j ≡ i + length (flat_map printer.character points) → IsTextFrom line i (flat_map printer.character points ++ rest) → SpellsCharacters line i j points
  characters_spelled [] i j rest sound e s = let h : i ≡ j = omega arith in h
  characters_spelled (c ∷ points) i j rest sound e s =
      let p = and_parts _ (all_scalars points) sound in
      let more : List ℕ = flat_map printer.character points in
      let g = regroup line i (printer.character c) more rest s in
      let l = length-append (printer.character c) more in
      (i + length (printer.character c), readable.character line i c (more ++ rest) p.0 g, characters_spelled points (i + length (printer.character c)) j rest p.1 (omega (arith, e, l)) (go_on line i (printer.character c) (more ++ rest) g))

  not_high : (u : ℕ) → IsScalar u → is_high_surrogate u ≡ false
  not_high u h = grind (arith, nat_tests, h)

  paired_itself : (points : List ℕ) → all_scalars points ≡ true → paired points ≡ points
  paired_itself [] h = refl
  paired_itself (u ∷ []) h = refl
  paired_itself (u ∷ v ∷ us) h =
      let p = and_parts _ (all_scalars (v ∷ us)) h in
      cond-false _ _ _ (and_left (is_high_surrogate u) _ (not_high u p.0)) ∙ ap (λ l. u ∷ l) (paired_itself (v ∷ us) p.1)

  body_spelled : (points : List ℕ) (i j : ℕ) (rest : List ℕ) → all_scalars points ≡ true → j ≡ i + length (flat_map printer.character points) → IsTextFrom line i (flat_map printer.character points ++ rest) → SpellsBody line i j points
  body_spelled points i j rest sound e s = record { order = omega arith; units = points; characters = characters_spelled points i j rest sound e s; are = paired_itself points sound }

  string_spelled : (points : List ℕ) (i : ℕ) (rest : List ℕ) → all_scalars points ≡ true → IsTextFrom line i (string_text printer points ++ rest) → SpellsString line i (i + length (string_text printer points)) points
  string_spelled points i rest sound s =
      let body : List ℕ = flat_map printer.character points in
      let inside = regroup line (i + 1) body (0x22 ∷ []) rest (step_on line i 0x22 _ s) in
      let l = length-append body (0x22 ∷ []) in
      record {
        last = i + 1 + length body;
        opens = has_front line i 0x22 _ s;
        body = body_spelled points (i + 1) (i + 1 + length body) (0x22 ∷ rest) sound refl inside;
        closes = has_front line (i + 1 + length body) 0x22 rest (go_on line (i + 1) body (0x22 ∷ rest) inside);
        end = omega (arith, l);
      }

  -- ---- labels

  name_spelled : (name : Name) (i j : ℕ) (rest : List ℕ) → all_scalars name.points ≡ true → j ≡ i + length (label_text printer (Some name)) → IsTextFrom line i (label_text printer (Some name) ++ rest)
      → SpellsName line i j (record { body = record { start = i + 1; end = i + 1 + length (flat_map printer.character name.points) }; points = name.points })
  name_spelled name i j rest sound e s =
      let body : List ℕ = flat_map printer.character name.points in
      let all = regroup line i (string_text printer name.points) (0x3A ∷ []) rest s in
      let inside = regroup line (i + 1) body (0x22 ∷ []) (0x3A ∷ rest) (step_on line i 0x22 _ all) in
      let quote = go_on line (i + 1) body (0x22 ∷ 0x3A ∷ rest) inside in
      let colon = step_on line (i + 1 + length body) 0x22 (0x3A ∷ rest) quote in
      let value = step_on line (i + 1 + length body + 1) 0x3A rest colon in
      let l = length-append body (0x22 ∷ []) in
      let m = length-append (string_text printer name.points) (0x3A ∷ []) in
      record {
        opens = has_front line i 0x22 _ all;
        body = body_spelled name.points (i + 1) (i + 1 + length body) (0x22 ∷ 0x3A ∷ rest) sound refl inside;
        closes = has_front line (i + 1 + length body) 0x22 _ quote;
        behind_quote = refl;
        colon = record {
          place = i + 1 + length body + 1;
          before = white_none line _ _ refl colon.place;
          is = has_front line (i + 1 + length body + 1) 0x3A rest colon;
          after = white_none line (i + 1 + length body + 1 + 1) j (omega (arith, e, l, m)) value.place;
        };
      }

  label_spelled : (kind : Container) (name : Option Name) (i : ℕ) (rest : List ℕ) → CanBeLabel kind name → IsTextFrom line i (label_text printer name ++ rest) → SpellsLabel line kind i (i + length (label_text printer name)) (placed_name printer i name)
  label_spelled array None i rest h s = let e : i ≡ i + 0 = omega arith in e
  label_spelled array (Some name) i rest h s = absurd h
  label_spelled object None i rest h s = absurd h
  label_spelled object (Some name) i rest h s = name_spelled name i _ rest h refl s

  -- ---- trees

  mutual
    pub tree_spelled : (t : Tree) → CanBeSaid t → (i : ℕ) (rest : List ℕ) → IsTextFrom line i (tree_text printer t ++ rest) → Spells line (placed printer i t)
    tree_spelled (node s v) h i rest at = value_spelled v h i rest at

    value_spelled : (v : Value) → CanBeValue v → (i : ℕ) (rest : List ℕ) → IsTextFrom line i (value_text printer v ++ rest) → SpellsValue line (record { start = i; end = i + length (value_text printer v) }) (placed_value printer i v)
    value_spelled null h i rest at = reads_front line i null_word rest at
    value_spelled (boolean b) h i rest at = reads_front line i (word_of b) rest at
    value_spelled (number m e) h i rest at =
        let parts = printer.numeral m e in
        record { numeral = parts; correct = readable.numeral m e; bytes = reads_front line i (numeral_bytes parts) rest at; is_mantissa = refl; is_scale = refl }
    value_spelled (string x) h i rest at = string_spelled x i rest h at
    value_spelled (container kind cs) h i rest at =
        let l = length-append (first_text printer cs) (closing kind ∷ []) in
        (has_front line i (opening kind) _ at, first_spelled kind cs h (i + 1) _ rest (omega (arith, l)) (regroup line (i + 1) (first_text printer cs) (closing kind ∷ []) rest (step_on line i (opening kind) _ at)))

    first_spelled : (kind : Container) (cs : Children) → CanBeChildren kind cs → (i j : ℕ) (rest : List ℕ) → j ≡ i + length (first_text printer cs) + 1 → IsTextFrom line i (first_text printer cs ++ closing kind ∷ rest) → SpellsFirst line kind i j (placed_first printer i cs)
    first_spelled kind no_child h i j rest e at = record { place = i; white = white_none line i i refl at.place; bracket = has_front line i (closing kind) rest at; end = omega arith }
    first_spelled kind (child name (node s v) more) h i j rest e at =
        let a = regroup line i (label_text printer name) (value_text printer v ++ more_text printer more) (closing kind ∷ rest) at in
        let b = go_on line i (label_text printer name) _ a in
        let k : ℕ = i + length (label_text printer name) in
        let c = regroup line k (value_text printer v) (more_text printer more) (closing kind ∷ rest) b in
        let l = length-append (label_text printer name) (value_text printer v ++ more_text printer more) in
        let m = length-append (value_text printer v) (more_text printer more) in
        (i, white_none line i i refl at.place, label_spelled kind name i _ h.0 a, tree_spelled (node s v) h.1 k _ c, more_spelled kind more h.2 (k + length (value_text printer v)) j rest (omega (arith, e, l, m)) (go_on line k (value_text printer v) _ c))

    more_spelled : (kind : Container) (cs : Children) → CanBeChildren kind cs → (i j : ℕ) (rest : List ℕ) → j ≡ i + length (more_text printer cs) + 1 → IsTextFrom line i (more_text printer cs ++ closing kind ∷ rest) → SpellsMore line kind i j (placed_more printer i cs)
    more_spelled kind no_child h i j rest e at = record { place = i; white = white_none line i i refl at.place; bracket = has_front line i (closing kind) rest at; end = omega arith }
    more_spelled kind (child name (node s v) more) h i j rest e at =
        let z = step_on line i 0x2C _ at in
        let a = regroup line (i + 1) (label_text printer name) (value_text printer v ++ more_text printer more) (closing kind ∷ rest) z in
        let b = go_on line (i + 1) (label_text printer name) _ a in
        let k : ℕ = i + 1 + length (label_text printer name) in
        let c = regroup line k (value_text printer v) (more_text printer more) (closing kind ∷ rest) b in
        let l = length-append (label_text printer name) (value_text printer v ++ more_text printer more) in
        let m = length-append (value_text printer v) (more_text printer more) in
        let comma : Separator line 0x2C i (i + 1) = record { place = i; before = white_none line i i refl at.place; is = has_front line i 0x2C _ at; after = white_none line (i + 1) (i + 1) refl z.place } in
        (i + 1, comma, label_spelled kind name (i + 1) _ h.0 a, tree_spelled (node s v) h.1 k _ c, more_spelled kind more h.2 (k + length (value_text printer v)) j rest (omega (arith, e, l, m)) (go_on line k (value_text printer v) _ c))
