-- The text of a tree has no fault that the tree has not.
use Rattle.std.proofs.Common.{◌≡◌, ℕ, suc, ◌+◌, ◌≤◌, max, Bool, true, false, not, ◌||◌, List, [], ◌∷◌, ◌++◌, length, Option, Some, None, refl, sym, ap, ap₂, subst, ◌∙◌, ℤ, arith, append-nil}
use Rattle.std.specs.Char.{IsScalar}
use Rattle.std.specs.List.{list_any}
use Rattle.std.specs.Str.{all_scalars}
use Rattle.std.proofs.lemmas.Bool.{and_parts, and_right, or_from, le-ltb}
use Rattle.std.proofs.lemmas.Bool.Decides.{nat_tests}
use Rattle.std.proofs.lemmas.List.{length-append, drop_at, get_or_at}
use Rattle.jp_model.proofs.Reader.Numbers.{parts_read}
use Rattle.jp_model.specs.declared.Framing.{Framing}
use Rattle.jp_model.specs.declared.Framing.TheVariants.{Lines as in_lines, Sequence as in_sequence}
use Rattle.jp_model.specs.Characters.{is_white, is_surrogate}
use Rattle.jp_model.specs.Json.Faults.{depth, value_depth, greatest_depth, has_surrogate, value_has_surrogate, children_have_surrogate, name_has_lone_surrogate, has_long_exponent, value_has_long_exponent, children_have_long_exponent, names, name_points, has_repeated, has_duplicate, value_has_duplicate, children_have_duplicate, has_open_end, is_truncated}
use Rattle.jp_model.specs.Json.Numbers.{numeral_bytes, numeral_of, is_long_exponent}
use Rattle.jp_model.specs.Json.Places.{White, bytes_between}
use Rattle.jp_model.specs.Json.Spelling.{Text, closing}
use Rattle.jp_model.specs.Json.Status.{parsed, HasStatus, fault_of_tree}
use Rattle.jp_model.specs.Json.Strings.{has_lone_surrogate}
use Rattle.jp_model.specs.Json.Tree.{Tree, node, Value, null, boolean, number, string, container, Container, array, object, Children, no_child, child, Name}
use Rattle.jp_laws.specs.JsonTexts.{Printer, label_text, tree_text, value_text, first_text, more_text, CanBeLabel, CanBeSaid, CanBeValue, CanBeChildren, HasNumbers, IsOfNumbers, HaveNumbers}
use Rattle.jp_laws.proofs.JsonTexts.{IsReadable, placed, placed_name, placed_value, placed_first, placed_more, tree_spelled}
use Rattle.jp_laws.proofs.TextsFrom.{IsTextFrom, reads_front, white_none, go_on, step_on, regroup}
use Rattle.jp_laws.proofs.Utf8Lines.{text_utf8}

-- ---- its faults are the tree's

module _ (printer : Printer) where
  mutual
    tree_depth : (t : Tree) (i : ℕ) → depth (placed printer i t) ≡ depth t
    tree_depth (node s v) i = depth_of v i

    depth_of : (v : Value) (i : ℕ) → value_depth (placed_value printer i v) ≡ value_depth v
    depth_of null i = refl
    depth_of (boolean b) i = refl
    depth_of (number m e) i = refl
    depth_of (string x) i = refl
    depth_of (container kind cs) i = ap suc (first_depth cs (i + 1))

    first_depth : (cs : Children) (i : ℕ) → greatest_depth (placed_first printer i cs) ≡ greatest_depth cs
    first_depth no_child i = refl
    first_depth (child name t more) i = ap₂ max (tree_depth t (i + length (label_text printer name))) (more_depth more (i + length (label_text printer name) + length (tree_text printer t)))

    more_depth : (cs : Children) (i : ℕ) → greatest_depth (placed_more printer i cs) ≡ greatest_depth cs
    more_depth no_child i = refl
    more_depth (child name t more) i = ap₂ max (tree_depth t (i + 1 + length (label_text printer name))) (more_depth more (i + 1 + length (label_text printer name) + length (tree_text printer t)))

  named : (i : ℕ) (name : Option Name) (x y : List (List ℕ)) → x ≡ y → name_points (placed_name printer i name) x ≡ name_points name y
  named i None x y e = e
  named i (Some name) x y e = ap (λ (l : List (List ℕ)). name.points ∷ l) e

  more_names : (cs : Children) (i : ℕ) → names (placed_more printer i cs) ≡ names cs
  more_names no_child i = refl
  more_names (child name t more) i = named (i + 1) name _ _ (more_names more (i + 1 + length (label_text printer name) + length (tree_text printer t)))

  pub first_names : (cs : Children) (i : ℕ) → names (placed_first printer i cs) ≡ names cs
  first_names no_child i = refl
  first_names (child name t more) i = named i name _ _ (more_names more (i + length (label_text printer name) + length (tree_text printer t)))

  mutual
    tree_duplicate : (t : Tree) (i : ℕ) → has_duplicate (placed printer i t) ≡ has_duplicate t
    tree_duplicate (node s v) i = value_duplicate v i

    pub value_duplicate : (v : Value) (i : ℕ) → value_has_duplicate (placed_value printer i v) ≡ value_has_duplicate v
    value_duplicate null i = refl
    value_duplicate (boolean b) i = refl
    value_duplicate (number m e) i = refl
    value_duplicate (string x) i = refl
    value_duplicate (container kind cs) i = ap₂ (λ (a b : Bool). a || b) (ap has_repeated (first_names cs (i + 1))) (first_duplicate cs (i + 1))

    first_duplicate : (cs : Children) (i : ℕ) → children_have_duplicate (placed_first printer i cs) ≡ children_have_duplicate cs
    first_duplicate no_child i = refl
    first_duplicate (child name t more) i = ap₂ (λ (a b : Bool). a || b) (tree_duplicate t (i + length (label_text printer name))) (more_duplicate more (i + length (label_text printer name) + length (tree_text printer t)))

    more_duplicate : (cs : Children) (i : ℕ) → children_have_duplicate (placed_more printer i cs) ≡ children_have_duplicate cs
    more_duplicate no_child i = refl
    more_duplicate (child name t more) i = ap₂ (λ (a b : Bool). a || b) (tree_duplicate t (i + 1 + length (label_text printer name))) (more_duplicate more (i + 1 + length (label_text printer name) + length (tree_text printer t)))

-- ---- strings are whole

no_surrogate : (c : ℕ) → IsScalar c → is_surrogate c ≡ false
no_surrogate c h = grind (arith, nat_tests, h)

none_alone : (points : List ℕ) → all_scalars points ≡ true → has_lone_surrogate points ≡ false
none_alone [] h = refl
none_alone (c ∷ points) h = let p = and_parts _ (all_scalars points) h in or_from _ _ (no_surrogate c p.0) (none_alone points p.1)

module _ (printer : Printer) where
  label_whole : (kind : Container) (name : Option Name) (i : ℕ) → CanBeLabel kind name → name_has_lone_surrogate (placed_name printer i name) ≡ false
  label_whole kind None i h = refl
  label_whole array (Some name) i h = absurd h
  label_whole object (Some name) i h = none_alone name.points h

  mutual
    tree_whole : (t : Tree) (i : ℕ) → CanBeSaid t → has_surrogate (placed printer i t) ≡ false
    tree_whole (node s v) i h = value_whole v i h

    value_whole : (v : Value) (i : ℕ) → CanBeValue v → value_has_surrogate (placed_value printer i v) ≡ false
    value_whole null i h = refl
    value_whole (boolean b) i h = refl
    value_whole (number m e) i h = refl
    value_whole (string x) i h = none_alone x h
    value_whole (container kind cs) i h = first_whole kind cs (i + 1) h

    first_whole : (kind : Container) (cs : Children) (i : ℕ) → CanBeChildren kind cs → children_have_surrogate (placed_first printer i cs) ≡ false
    first_whole kind no_child i h = refl
    first_whole kind (child name t more) i h =
        or_from _ _ (or_from _ _ (label_whole kind name i h.0) (tree_whole t (i + length (label_text printer name)) h.1)) (more_whole kind more (i + length (label_text printer name) + length (tree_text printer t)) h.2)

    more_whole : (kind : Container) (cs : Children) (i : ℕ) → CanBeChildren kind cs → children_have_surrogate (placed_more printer i cs) ≡ false
    more_whole kind no_child i h = refl
    more_whole kind (child name t more) i h =
        or_from _ _ (or_from _ _ (label_whole kind name (i + 1) h.0) (tree_whole t (i + 1 + length (label_text printer name)) h.1)) (more_whole kind more (i + 1 + length (label_text printer name) + length (tree_text printer t)) h.2)

-- ---- exponents are short

module _ (printer : Printer) (readable : IsReadable printer) (IsSuch : ℤ → ℤ → Type 0) (short : (m e : ℤ) → IsSuch m e → is_long_exponent (printer.numeral m e) ≡ false) (line : List ℕ) where
  number_short : (m e : ℤ) (i : ℕ) (rest : List ℕ) → IsSuch m e → IsTextFrom line i (numeral_bytes (printer.numeral m e) ++ rest) → is_long_exponent (numeral_of (bytes_between line i (i + length (numeral_bytes (printer.numeral m e))))) ≡ false
  number_short m e i rest h at =
      let parts = printer.numeral m e in
      ap is_long_exponent (ap numeral_of (reads_front line i (numeral_bytes parts) rest at).are ∙ parts_read parts (readable.numeral m e)) ∙ short m e h

  mutual
    tree_short : (t : Tree) → HasNumbers IsSuch t → (i : ℕ) (rest : List ℕ) → IsTextFrom line i (tree_text printer t ++ rest) → has_long_exponent line (placed printer i t) ≡ false
    tree_short (node s v) h i rest at = value_short v h i rest at

    value_short : (v : Value) → IsOfNumbers IsSuch v → (i : ℕ) (rest : List ℕ) → IsTextFrom line i (value_text printer v ++ rest) → value_has_long_exponent line (record { start = i; end = i + length (value_text printer v) }) (placed_value printer i v) ≡ false
    value_short null h i rest at = refl
    value_short (boolean b) h i rest at = refl
    value_short (number m e) h i rest at = number_short m e i rest h at
    value_short (string x) h i rest at = refl
    value_short (container kind cs) h i rest at = first_short cs h (i + 1) (closing kind ∷ rest) (regroup line (i + 1) (first_text printer cs) (closing kind ∷ []) rest (step_on line i _ _ at))

    first_short : (cs : Children) → HaveNumbers IsSuch cs → (i : ℕ) (rest : List ℕ) → IsTextFrom line i (first_text printer cs ++ rest) → children_have_long_exponent line (placed_first printer i cs) ≡ false
    first_short no_child h i rest at = refl
    first_short (child name t more) h i rest at =
        let k : ℕ = i + length (label_text printer name) in
        let b = go_on line i (label_text printer name) _ (regroup line i (label_text printer name) (tree_text printer t ++ more_text printer more) rest at) in
        let c = regroup line k (tree_text printer t) (more_text printer more) rest b in
        or_from _ _ (tree_short t h.0 k _ c) (more_short more h.1 (k + length (tree_text printer t)) rest (go_on line k (tree_text printer t) _ c))

    more_short : (cs : Children) → HaveNumbers IsSuch cs → (i : ℕ) (rest : List ℕ) → IsTextFrom line i (more_text printer cs ++ rest) → children_have_long_exponent line (placed_more printer i cs) ≡ false
    more_short no_child h i rest at = refl
    more_short (child name t more) h i rest at =
        let k : ℕ = i + 1 + length (label_text printer name) in
        let b = go_on line (i + 1) (label_text printer name) _ (regroup line (i + 1) (label_text printer name) (tree_text printer t ++ more_text printer more) rest (step_on line i _ _ at)) in
        let c = regroup line k (tree_text printer t) (more_text printer more) rest b in
        or_from _ _ (tree_short t h.0 k _ c) (more_short more h.1 (k + length (tree_text printer t)) rest (go_on line k (tree_text printer t) _ c))

-- ---- the status

no_fault_by : (f : Framing) (line : List ℕ) (t : Tree) → is_truncated f line t ≡ false → depth t ≤ 512 → has_surrogate t ≡ false → has_long_exponent line t ≡ false → has_duplicate t ≡ false → fault_of_tree f line t ≡ None
no_fault_by f line t a b c d e = rw (a, le-ltb 512 (depth t) b, c, d, e) refl

module _ (printer : Printer) (readable : IsReadable printer) where
  text_said : (t : Tree) (tail : List ℕ) → CanBeSaid t → White (tree_text printer t ++ tail) (length (tree_text printer t)) (length (tree_text printer t ++ tail)) → Text (tree_text printer t ++ tail) (placed printer 0 t)
  text_said (node s v) tail said white =
      let line : List ℕ = value_text printer v ++ tail in
      record {
        before = white_none line 0 0 refl (omega arith);
        value = tree_spelled printer readable line (node s v) said 0 tail (record { place = omega arith; is = refl });
        after = subst (λ i. White line i (length line)) (let e : length (value_text printer v) ≡ 0 + length (value_text printer v) = omega arith in e) white;
      }

  pub text_alone : (t : Tree) → CanBeSaid t → Text (tree_text printer t) (placed printer 0 t)
  text_alone t said =
      subst (λ line. Text line (placed printer 0 t)) (append-nil (tree_text printer t))
      (text_said t [] said (white_none (tree_text printer t ++ []) _ _ (ap length (sym (append-nil (tree_text printer t)))) (let l = length-append (tree_text printer t) [] in omega (arith, l))))

  tree_ended : (t : Tree) → is_truncated in_sequence (tree_text printer t ++ 0x0A ∷ []) (placed printer 0 t) ≡ false
  tree_ended (node s v) = and_right (has_open_end (placed_value printer 0 v)) _ (ap (λ l. not (list_any is_white l)) (drop_at (value_text printer v) (0x0A ∷ []) (0 + length (value_text printer v)) (omega arith)))

module _ (printer : Printer) (readable : IsReadable printer) (IsSuch : ℤ → ℤ → Type 0) (short : (m e : ℤ) → IsSuch m e → is_long_exponent (printer.numeral m e) ≡ false) (t : Tree) (said : CanBeSaid t) (such : HasNumbers IsSuch t) (shallow : depth t ≤ 512)
    (distinct : has_duplicate t ≡ false) where
  has_status : (f : Framing) (tail : List ℕ) → White (tree_text printer t ++ tail) (length (tree_text printer t)) (length (tree_text printer t ++ tail)) → is_truncated f (tree_text printer t ++ tail) (placed printer 0 t) ≡ false → HasStatus f (tree_text printer t ++ tail) (parsed (placed printer 0 t))
  has_status f tail white whole =
      let line : List ℕ = tree_text printer t ++ tail in
      let text : Text line (placed printer 0 t) = text_said printer readable t tail said white in (
        text_utf8 line (placed printer 0 t) text,
        text,
        no_fault_by f line (placed printer 0 t) whole (subst (λ n. n ≤ 512) (sym (tree_depth printer t 0)) shallow) (tree_whole printer t 0 said) (tree_short printer readable IsSuch short line t such 0 tail (record { place = omega arith; is = refl })) (tree_duplicate printer t 0 ∙ distinct),
      )

  pub line_status : HasStatus in_lines (tree_text printer t) (parsed (placed printer 0 t))
  line_status =
      subst (λ line. HasStatus in_lines line (parsed (placed printer 0 t))) (append-nil (tree_text printer t))
      (has_status in_lines [] (white_none (tree_text printer t ++ []) _ _ (ap length (sym (append-nil (tree_text printer t)))) (let l = length-append (tree_text printer t) [] in omega (arith, l))) refl)

  one_white : White (tree_text printer t ++ 0x0A ∷ []) (length (tree_text printer t)) (length (tree_text printer t ++ 0x0A ∷ []))
  one_white =
      let l = length-append (tree_text printer t) (0x0A ∷ []) in
      record { order = omega (arith, l); within = omega arith; white = λ k a b. ap is_white (get_or_at (tree_text printer t) 0x0A [] 0 k (omega (arith, l))) }

  pub sequence_status : HasStatus in_sequence (tree_text printer t ++ 0x0A ∷ []) (parsed (placed printer 0 t))
  sequence_status = has_status in_sequence (0x0A ∷ []) one_white (tree_ended printer readable t)
