-- What is written for a tree spells it, wherever it stands in a line.
use Rattle.std.proofs.Common.{◌≡◌, ℕ, ◌+◌, inl, inr, false, List, [], ◌∷◌, ◌++◌, length, Option, Some, None, refl, sym, ap, subst, ◌∙◌, arith}
use Rattle.std.proofs.lemmas.Bool.{or_from}
use Rattle.std.proofs.lemmas.List.{length-append}
use Rattle.jp_model.specs.Characters.{four_digits}
use Rattle.jp_model.specs.Json.Faults.{has_long_exponent, value_has_long_exponent, children_have_long_exponent}
use Rattle.jp_model.specs.Json.Numbers.{numeral_of, is_long_exponent}
use Rattle.jp_model.specs.Json.Places.{White, Reads}
use Rattle.jp_model.specs.Json.Spelling.{Spells, SpellsValue, SpellsFirst, SpellsMore, SpellsLabel, SpellsString, Separator, Closes, opening, closing}
use Rattle.jp_model.specs.Json.Strings.{SpellsCharacter, SpellsCharacters}
use Rattle.jp_model.specs.Json.Tree.{Tree, node, Value, null, boolean, number, string, container, Container, array, object, Children, no_child, child, Name, span}
use Rattle.jp_model.proofs.Reader.Numbers.{parts_read}
use Rattle.jp_laws.specs.JsonTexts.{unplaced, unplaced_value, unplaced_children, unplaced_name}
use Rattle.jp_laws.proofs.TextsFrom.{IsTextFrom, go_on, has_front, nth, reads_front, step_on}
use Rattle.jp_cut_laws.proofs.From.{parted, white_front}
use Rattle.jp_cut_laws.proofs.Written.{IsSeparator, IsEnd, IsCharacter, AreCharacters, IsString, IsLabel, Writes, WritesValue, WritesFirst, WritesMore}

same_child : (a b : Option Name) (t u : Tree) (c d : Children) → a ≡ b → t ≡ u → c ≡ d → child a t c ≡ child b u d
same_child a b t u c d e f g = cc

module _ (line : List ℕ) where
  -- a name like another, and the label that spells it
  record LabelAt (kind : Container) (i j : ℕ) (name : Option Name) : Type 0 where
    label : Option Name
    spells : SpellsLabel line kind i j label
    same : unplaced_name label ≡ unplaced_name name

  -- a value like another, at a span
  record ValueAt (i j : ℕ) (v : Value) : Type 0 where
    here : Value
    spells : SpellsValue line (record { start = i; end = j }) here
    same : unplaced_value here ≡ unplaced_value v
    short : value_has_long_exponent line (record { start = i; end = j }) here ≡ false

  -- a tree like another, at a span
  pub record TreeAt (i j : ℕ) (t : Tree) : Type 0 where
    pub here : Tree
    pub start : (span here).start ≡ i
    pub end : (span here).end ≡ j
    pub spells : Spells line here
    pub same : unplaced here ≡ unplaced t
    pub short : has_long_exponent line here ≡ false

  -- children like others, after the opening bracket
  record FirstAt (kind : Container) (i j : ℕ) (c : Children) : Type 0 where
    here : Children
    spells : SpellsFirst line kind i j here
    same : unplaced_children here ≡ unplaced_children c
    short : children_have_long_exponent line here ≡ false

  -- and after a child
  record MoreAt (kind : Container) (i j : ℕ) (c : Children) : Type 0 where
    here : Children
    spells : SpellsMore line kind i j here
    same : unplaced_children here ≡ unplaced_children c
    short : children_have_long_exponent line here ≡ false

  separator_at : (b i j : ℕ) (bytes rest : List ℕ) → IsSeparator b bytes → j ≡ i + length bytes → IsTextFrom line i (bytes ++ rest) → Separator line b i j
  separator_at b i j bytes rest h e s =
      let l = ap length h.joined ∙ length-append h.before (b ∷ h.after) in
      let first = parted line i bytes h.before (b ∷ h.after) rest h.joined s in
      let middle = go_on line i h.before (b ∷ (h.after ++ rest)) first in
      record {
        place = i + length h.before;
        before = white_front line i h.before (b ∷ (h.after ++ rest)) h.white_before first;
        is = has_front line (i + length h.before) b (h.after ++ rest) middle;
        after = subst (White line (i + length h.before + 1)) (let f : i + length h.before + 1 + length h.after ≡ j = omega (arith, e, l) in f)
            (white_front line (i + length h.before + 1) h.after rest h.white_after (step_on line (i + length h.before) b (h.after ++ rest) middle));
      }

  end_at : (kind : Container) (i j : ℕ) (bytes rest : List ℕ) → IsEnd kind bytes → j ≡ i + length bytes → IsTextFrom line i (bytes ++ rest) → Closes line kind i j
  end_at kind i j bytes rest h e s =
      let l = ap length h.joined ∙ length-append h.before (closing kind ∷ []) in
      let first = parted line i bytes h.before (closing kind ∷ []) rest h.joined s in
      record {
        place = i + length h.before;
        white = white_front line i h.before (closing kind ∷ rest) h.white first;
        bracket = has_front line (i + length h.before) (closing kind) rest (go_on line i h.before (closing kind ∷ rest) first);
        end = omega (arith, e, l);
      }

  -- ---- strings

  -- these bytes, and the rest
  these : (i : ℕ) (bytes others rest : List ℕ) → bytes ≡ others → IsTextFrom line i (bytes ++ rest) → IsTextFrom line i (others ++ rest)
  these i bytes others rest e s = subst (λ xs. IsTextFrom line i (xs ++ rest)) e s

  four : {p q r s w x y z u : ℕ} → p ≡ w → q ≡ x → r ≡ y → s ≡ z → four_digits w x y z ≡ Some u → four_digits p q r s ≡ Some u
  four c d g o t = rw (c, d, g, o) t

  character_at : (i u : ℕ) (bytes rest : List ℕ) → IsCharacter bytes u → IsTextFrom line i (bytes ++ rest) → SpellsCharacter line i (i + length bytes) u
  character_at i u bytes rest (inl h) s =
      let r = reads_front line i bytes rest s in
      inl (record { scalar = h.scalar; no_control = h.no_control; no_quote = h.no_quote; no_backslash = h.no_backslash; bytes = record { order = r.order; within = r.within; are = r.are ∙ h.joined } })
  character_at i u bytes rest (inr (inl h)) s =
      let at = these i bytes (0x5C ∷ h.letter ∷ []) rest h.joined s in
      inr (inl (record {
        letter = h.letter;
        backslash = has_front line i 0x5C (h.letter ∷ rest) at;
        has_letter = has_front line (i + 1) h.letter rest (step_on line i 0x5C (h.letter ∷ rest) at);
        spells = h.spells;
        end = ap (λ xs. i + length xs) h.joined;
      }))
  character_at i u bytes rest (inr (inr h)) s =
      let all : List ℕ = 0x5C ∷ 0x75 ∷ h.a ∷ h.b ∷ h.c ∷ h.d ∷ [] in
      let at = these i bytes all rest h.joined s in
      inr (inr (record {
        backslash = has_front line i 0x5C _ at;
        letter = has_front line (i + 1) 0x75 _ (step_on line i 0x5C _ at);
        spells = four (nth line i 2 (all ++ rest) at) (nth line i 3 (all ++ rest) at) (nth line i 4 (all ++ rest) at) (nth line i 5 (all ++ rest) at) h.spells;
        end = ap (λ xs. i + length xs) h.joined;
      }))

  characters_at : (us : List ℕ) (i j : ℕ) (bytes rest : List ℕ) → AreCharacters bytes us → j ≡ i + length bytes → IsTextFrom line i (bytes ++ rest) → SpellsCharacters line i j us
  characters_at [] i j bytes rest h e s = let l : length bytes ≡ 0 = ap length h in let f : i ≡ j = omega (arith, e, l) in f
  characters_at (u ∷ us) i j bytes rest h e s =
      let l = ap length h.2 ∙ length-append h.0 h.1 in
      let first = parted line i bytes h.0 h.1 rest h.2 s in
      (i + length h.0, character_at i u h.0 (h.1 ++ rest) h.3 first, characters_at us (i + length h.0) j h.1 rest h.4 (omega (arith, e, l)) (go_on line i h.0 (h.1 ++ rest) first))

  string_at : (i j : ℕ) (bytes points rest : List ℕ) → IsString bytes points → j ≡ i + length bytes → IsTextFrom line i (bytes ++ rest) → SpellsString line i j points
  string_at i j bytes points rest h e s =
      let l = ap length h.joined in
      let m = length-append h.body (0x22 ∷ []) in
      let at = these i bytes (0x22 ∷ (h.body ++ 0x22 ∷ [])) rest h.joined s in
      let inside = parted line (i + 1) (h.body ++ 0x22 ∷ []) h.body (0x22 ∷ []) rest refl (step_on line i 0x22 ((h.body ++ 0x22 ∷ []) ++ rest) at) in
      record {
        last = i + 1 + length h.body;
        opens = has_front line i 0x22 _ at;
        body = record { order = omega arith; units = h.units; characters = characters_at h.units (i + 1) (i + 1 + length h.body) h.body (0x22 ∷ rest) h.characters refl inside; are = h.are };
        closes = has_front line (i + 1 + length h.body) 0x22 rest (go_on line (i + 1) h.body (0x22 ∷ rest) inside);
        end = omega (arith, e, l, m);
      }

  label_at : (kind : Container) (i j : ℕ) (bytes rest : List ℕ) (name : Option Name) → IsLabel kind bytes name → j ≡ i + length bytes → IsTextFrom line i (bytes ++ rest) → LabelAt kind i j name
  label_at array i j bytes rest None h e s = record { label = None; spells = let l : length bytes ≡ 0 = ap length h in let f : i ≡ j = omega (arith, e, l) in f; same = refl }
  label_at array i j bytes rest (Some name) h e s = absurd h
  label_at object i j bytes rest None h e s = absurd h
  label_at object i j bytes rest (Some name) h e s =
      let l = ap length h.joined ∙ length-append h.name h.colon in
      let first = parted line i bytes h.name h.colon rest h.joined s in
      let k : ℕ = i + length h.name in
      let quoted = string_at i k h.name name.points (h.colon ++ rest) h.quoted refl first in
      let colon = separator_at 0x3A k j h.colon rest h.separator (omega (arith, e, l)) (go_on line i h.name (h.colon ++ rest) first) in
      record {
        label = Some (record { body = record { start = i + 1; end = quoted.last }; points = name.points });
        spells = record { opens = quoted.opens; body = quoted.body; closes = quoted.closes; behind_quote = refl; colon = subst (λ n. Separator line 0x3A n j) quoted.end colon };
        same = refl;
      }

  -- ---- values

  mutual
    pub tree_at : (t : Tree) (bytes : List ℕ) → Writes bytes t → (i j : ℕ) (rest : List ℕ) → j ≡ i + length bytes → IsTextFrom line i (bytes ++ rest) → TreeAt i j t
    tree_at (node s v) bytes h i j rest e at =
        let found = value_at v bytes h i j rest e at in
        record { here = node (record { start = i; end = j }) found.here; start = refl; end = refl; spells = found.spells; same = ap (node (record { start = 0; end = 0 })) found.same; short = found.short }

    value_at : (v : Value) (bytes : List ℕ) → WritesValue bytes v → (i j : ℕ) (rest : List ℕ) → j ≡ i + length bytes → IsTextFrom line i (bytes ++ rest) → ValueAt i j v
    value_at null bytes h i j rest e at = let r = subst (λ n. Reads line i n bytes) (sym e) (reads_front line i bytes rest at) in record { here = null; spells = record { order = r.order; within = r.within; are = r.are ∙ h }; same = refl; short = refl }
    value_at (boolean b) bytes h i j rest e at = let r = subst (λ n. Reads line i n bytes) (sym e) (reads_front line i bytes rest at) in record { here = boolean b; spells = record { order = r.order; within = r.within; are = r.are ∙ h }; same = refl; short = refl }
    value_at (number m x) bytes h i j rest e at =
        let r = subst (λ n. Reads line i n bytes) (sym e) (reads_front line i bytes rest at) in
        record {
          here = number m x;
          spells = record { numeral = h.numeral; correct = h.correct; bytes = record { order = r.order; within = r.within; are = r.are ∙ sym h.joined }; is_mantissa = h.is_mantissa; is_scale = h.is_scale };
          same = refl;
          short = ap is_long_exponent (ap numeral_of (r.are ∙ sym h.joined) ∙ parts_read h.numeral h.correct) ∙ h.short;
        }
    value_at (string points) bytes h i j rest e at = record { here = string points; spells = string_at i j bytes points rest h e at; same = refl; short = refl }
    value_at (container kind children) bytes h i j rest e at =
        let l = ap length h.1 in
        let all = these i bytes (opening kind ∷ h.0) rest h.1 at in
        let inside = first_at children kind h.0 h.2 (i + 1) j rest (omega (arith, e, l)) (step_on line i (opening kind) (h.0 ++ rest) all) in
        record { here = container kind inside.here; spells = (has_front line i (opening kind) (h.0 ++ rest) all, inside.spells); same = ap (container kind) inside.same; short = inside.short }

    first_at : (c : Children) (kind : Container) (bytes : List ℕ) → WritesFirst kind bytes c → (i j : ℕ) (rest : List ℕ) → j ≡ i + length bytes → IsTextFrom line i (bytes ++ rest) → FirstAt kind i j c
    first_at no_child kind bytes h i j rest e at = record { here = no_child; spells = end_at kind i j bytes rest h e at; same = refl; short = refl }
    first_at (child name t more) kind bytes h i j rest e at =
        let l = ap length h.4 ∙ length-append h.0 (h.1 ++ (h.2 ++ h.3)) in
        let m = length-append h.1 (h.2 ++ h.3) in
        let n = length-append h.2 h.3 in
        let a : ℕ = i + length h.0 in
        let b : ℕ = a + length h.1 in
        let c : ℕ = b + length h.2 in
        let at_white = parted line i bytes h.0 (h.1 ++ (h.2 ++ h.3)) rest h.4 at in
        let at_label = parted line a (h.1 ++ (h.2 ++ h.3)) h.1 (h.2 ++ h.3) rest refl (go_on line i h.0 _ at_white) in
        let at_tree = parted line b (h.2 ++ h.3) h.2 h.3 rest refl (go_on line a h.1 _ at_label) in
        let label = label_at kind a b h.1 ((h.2 ++ h.3) ++ rest) name h.6 refl at_label in
        let this = tree_at t h.2 h.7 b c (h.3 ++ rest) refl at_tree in
        let others = more_at more kind h.3 h.8 c j rest (omega (arith, e, l, m, n)) (go_on line b h.2 _ at_tree) in
        record {
          here = child label.label this.here others.here;
          spells = (a, white_front line i h.0 _ h.5 at_white, subst (λ k. SpellsLabel line kind a k label.label) (sym this.start) label.spells, this.spells, subst (λ k. SpellsMore line kind k j others.here) (sym this.end) others.spells);
          same = same_child _ _ _ _ _ _ label.same this.same others.same;
          short = or_from _ _ this.short others.short;
        }

    more_at : (c : Children) (kind : Container) (bytes : List ℕ) → WritesMore kind bytes c → (i j : ℕ) (rest : List ℕ) → j ≡ i + length bytes → IsTextFrom line i (bytes ++ rest) → MoreAt kind i j c
    more_at no_child kind bytes h i j rest e at = record { here = no_child; spells = end_at kind i j bytes rest h e at; same = refl; short = refl }
    more_at (child name t more) kind bytes h i j rest e at =
        let l = ap length h.4 ∙ length-append h.0 (h.1 ++ (h.2 ++ h.3)) in
        let m = length-append h.1 (h.2 ++ h.3) in
        let n = length-append h.2 h.3 in
        let a : ℕ = i + length h.0 in
        let b : ℕ = a + length h.1 in
        let c : ℕ = b + length h.2 in
        let at_comma = parted line i bytes h.0 (h.1 ++ (h.2 ++ h.3)) rest h.4 at in
        let at_label = parted line a (h.1 ++ (h.2 ++ h.3)) h.1 (h.2 ++ h.3) rest refl (go_on line i h.0 _ at_comma) in
        let at_tree = parted line b (h.2 ++ h.3) h.2 h.3 rest refl (go_on line a h.1 _ at_label) in
        let label = label_at kind a b h.1 ((h.2 ++ h.3) ++ rest) name h.6 refl at_label in
        let this = tree_at t h.2 h.7 b c (h.3 ++ rest) refl at_tree in
        let others = more_at more kind h.3 h.8 c j rest (omega (arith, e, l, m, n)) (go_on line b h.2 _ at_tree) in
        record {
          here = child label.label this.here others.here;
          spells = (a, separator_at 0x2C i a h.0 _ h.5 refl at_comma, subst (λ k. SpellsLabel line kind a k label.label) (sym this.start) label.spells, this.spells, subst (λ k. SpellsMore line kind k j others.here) (sym this.end) others.spells);
          same = same_child _ _ _ _ _ _ label.same this.same others.same;
          short = or_from _ _ this.short others.short;
        }
