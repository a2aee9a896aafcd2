-- What the steps to the nodes of a line are: names of scalars, and indexes below the length of the line.
use Rattle.std.proofs.Common.{◌≡◌, ℕ, ◌+◌, ◌*◌, ◌<◌, ◌≤◌, ◌⊎◌, inl, inr, ⊎_elim, pos, negsuc, List, [], ◌∷◌, ◌++◌, length, map, Bool, true, false, cond, ◌&&◌, ◌||◌, ◌==◌, Option, Some, None, refl, sym, subst, arith}
use Rattle.std.specs.Char as char
use Rattle.std.specs.Char.{IsScalar}
use Rattle.std.specs.List.{list_any}
use Rattle.std.proofs.lemmas.Bool.{or_parts, and_parts, both_ways, ltb-true, leb-true}
use Rattle.std.proofs.lemmas.Bool.Decides.{nat_tests}
use Rattle.jp_model.proofs.Reader.Lexical.{reads_end}
use Rattle.jp_model.proofs.Reader.Whole.{int_long, label_order}
use Rattle.jp_model.specs.declared.Span.{Span}
use Rattle.jp_model.specs.Characters.{four_digits, is_surrogate, is_high_surrogate, is_low_surrogate, pair_value}
use Rattle.jp_model.specs.Json.Faults.{has_surrogate, value_has_surrogate, children_have_surrogate, name_has_lone_surrogate}
use Rattle.jp_model.specs.Json.Numbers.{fraction_bytes, exponent_bytes}
use Rattle.jp_model.specs.Json.Places.{byte_at}
use Rattle.jp_model.specs.Json.Spelling.{Spells, SpellsValue, SpellsFirst, SpellsMore, SpellsLabel, Closes}
use Rattle.jp_model.specs.Json.Strings.{SpellsCharacter, SpellsCharacters, SpellsBody, short_escape, paired, has_lone_surrogate}
use Rattle.jp_model.specs.Json.Tree.{Tree, node, Value, null, boolean, number, string, container, Container, array, object, Children, no_child, child, Name, span, value_of}
use Rattle.jp_model.specs.Meaning.Nodes.{Node, root_node, child_of, children, step_to, steps_from, steps_in}
use Rattle.jp_model.specs.Steps.{Step, name_step, index_step}
use Rattle.jp_laws.specs.Nodes.{IsWithin, itself, child_of_one}
use Rattle.jp_laws.proofs.Reached.{Each, each_append}
use Rattle.jp_laws.proofs.Descendants.{each_among}
use Rattle.jp_laws.proofs.Utf8Lines.{letter_low, four_true}

-- a step that a normalized path can show
abbrev pub IsShown : Step → Type 0
IsShown (name_step x) = Each IsScalar x
IsShown (index_step (pos k)) = k ≤ 9007199254740991
IsShown (index_step (negsuc k)) = ⊥

abbrev mutual
  pub TreeShown : Tree → Type 0
  TreeShown (node s v) = ValueShown v

  pub ValueShown : Value → Type 0
  ValueShown null = Unit {0}
  ValueShown (boolean b) = Unit {0}
  ValueShown (number m e) = Unit {0}
  ValueShown (string x) = Unit {0}
  ValueShown (container kind cs) = ChildrenShown cs 0

  pub ChildrenShown : Children → ℕ → Type 0
  ChildrenShown no_child p = Unit {0}
  ChildrenShown (child name t more) p = IsShown (step_to p name) × TreeShown t × ChildrenShown more (p + 1)

-- ---- the code points of a name

abbrev IsPoint : ℕ → Type 0
IsPoint u = IsScalar u ⊎ (is_surrogate u ≡ true)

below_point : (u : ℕ) → u < 65536 → IsPoint u
below_point u h = pick (is_surrogate u) refl
  where
    pick : (b : Bool) → is_surrogate u ≡ b → IsPoint u
    pick true e = inr e
    pick false e = inl (grind (arith, nat_tests, e, h))

cond_is : (b : Bool) (x u : ℕ) → cond b (Some x) None ≡ Some u → (b ≡ true) × (x ≡ u)
cond_is true x u h = (refl, cc)
cond_is false x u h = absurd (cc)

cond_low : (b : Bool) (a u : ℕ) (rest : Option ℕ) → a < 128 → (rest ≡ Some u → u < 128) → cond b (Some a) rest ≡ Some u → u < 128
cond_low true a u rest l f h = let e : a ≡ u = cc in omega arith
cond_low false a u rest l f h = f h

none_low : (u : ℕ) → ◌≡◌ {A = Option ℕ} None (Some u) → u < 128
none_low u h = absurd (cc)

short_low : (letter u : ℕ) → short_escape letter ≡ Some u → u < 128
short_low letter u h =
    cond_low ((letter == 0x22) || (letter == 0x5C) || (letter == 0x2F)) letter u _ (letter_low letter u h)
    (cond_low (letter == 0x62) 0x08 u _ (omega arith) (cond_low (letter == 0x66) 0x0C u _ (omega arith) (cond_low (letter == 0x6E) 0x0A u _ (omega arith) (cond_low (letter == 0x72) 0x0D u _ (omega arith) (cond_low (letter == 0x74) 0x09 u None (omega arith) (none_low u)))))) h

sixteen : (a b c d : ℕ) → a < 16 → b < 16 → c < 16 → d < 16 → a * 4096 + b * 256 + c * 16 + d < 65536
sixteen a b c d h i j k = omega arith

hex_low : (a b c d u : ℕ) → four_digits a b c d ≡ Some u → u < 65536
hex_low a b c d u h =
    let t = four_true (char.is_digit a 16) (char.is_digit b 16) (char.is_digit c 16) (char.is_digit d 16) _ u h in
    let e = (cond_is _ _ u h).1 in
    subst (λ n. n < 65536) e (sixteen (char.digit_value a) (char.digit_value b) (char.digit_value c) (char.digit_value d) (ltb-true _ 16 t.0) (ltb-true _ 16 t.1) (ltb-true _ 16 t.2) (ltb-true _ 16 t.3))

unit_point : (line : List ℕ) (i j u : ℕ) → SpellsCharacter line i j u → IsPoint u
unit_point line i j u (inl h) = inl h.scalar
unit_point line i j u (inr (inl h)) = below_point u (let l = short_low h.letter u h.spells in omega arith)
unit_point line i j u (inr (inr h)) = below_point u (hex_low (byte_at line (i + 2)) (byte_at line (i + 3)) (byte_at line (i + 4)) (byte_at line (i + 5)) u h.spells)

units_points : (line : List ℕ) (us : List ℕ) (i j : ℕ) → SpellsCharacters line i j us → Each IsPoint us
units_points line [] i j h = tt
units_points line (u ∷ us) i j h = (unit_point line i h.0 u h.1, units_points line us h.0 j h.2)

pair_scalar : (u v : ℕ) → (is_high_surrogate u && is_low_surrogate v) ≡ true → IsScalar (pair_value u v)
pair_scalar u v h =
    let p = and_parts (is_high_surrogate u) (is_low_surrogate v) h in
    let a = and_parts _ _ p.0 in
    let b = and_parts _ _ p.1 in
    high_range u v (leb-true 0xD800 u a.0) (ltb-true u 0xDC00 a.1) (leb-true 0xDC00 v b.0) (ltb-true v 0xE000 b.1)
  where
    above : (c : ℕ) → 57344 ≤ c → c < 1114112 → IsScalar c
    above c h g = grind (arith, nat_tests, h, g)

    high_range : (u v : ℕ) → 0xD800 ≤ u → u < 0xDC00 → 0xDC00 ≤ v → v < 0xE000 → IsScalar (pair_value u v)
    high_range u v a b c d = above (pair_value u v) (omega arith) (omega arith)

paired_points : (us : List ℕ) → Each IsPoint us → Each IsPoint (paired us)
paired_points [] a = tt
paired_points (u ∷ []) a = a
paired_points (u ∷ v ∷ us) a = step (is_high_surrogate u && is_low_surrogate v) refl (paired_points us a.1.1) (paired_points (v ∷ us) a.1)
  where
    step : (b : Bool) → (is_high_surrogate u && is_low_surrogate v) ≡ b → Each IsPoint (paired us) → Each IsPoint (paired (v ∷ us)) → Each IsPoint (cond b (pair_value u v ∷ paired us) (u ∷ paired (v ∷ us)))
    step true e f g = (inl (pair_scalar u v e), f)
    step false e f g = (a.0, g)

whole_scalars : (points : List ℕ) → Each IsPoint points → has_lone_surrogate points ≡ false → Each IsScalar points
whole_scalars [] a h = tt
whole_scalars (u ∷ points) a h = let p = or_parts (is_surrogate u) (list_any is_surrogate points) h in (⊎_elim (λ s. s) (λ s. absurd (both_ways (is_surrogate u) p.0 s)) a.0, whole_scalars points a.1 p.1)

pub body_scalars : (line : List ℕ) (i j : ℕ) (points : List ℕ) → SpellsBody line i j points → has_lone_surrogate points ≡ false → Each IsScalar points
body_scalars line i j points h s = whole_scalars points (subst (Each IsPoint) h.are (paired_points h.units (units_points line h.units i j h.characters))) s

-- ---- where values stand

abbrev pub Sized : List ℕ → ℕ → ℕ → Type 0
Sized line i j = (i < j) × (j ≤ length line)

closes_sized : (line : List ℕ) (kind : Container) (i j : ℕ) → Closes line kind i j → Sized line i j
closes_sized line kind i j h = let a = h.white.order in let b = h.end in let c = h.bracket.inside in (omega arith, omega arith)

mutual
  pub tree_sized : (line : List ℕ) (t : Tree) → Spells line t → Sized line (span t).start (span t).end
  tree_sized line (node s v) h = value_sized line s v h

  value_sized : (line : List ℕ) (s : Span) (v : Value) → SpellsValue line s v → Sized line s.start s.end
  value_sized line s null h = let e = reads_end line s.start s.end _ h in (omega arith, h.within)
  value_sized line s (boolean true) h = let e = reads_end line s.start s.end _ h in (omega arith, h.within)
  value_sized line s (boolean false) h = let e = reads_end line s.start s.end _ h in (omega arith, h.within)
  value_sized line s (number m x) h =
      let e = reads_end line s.start s.end _ h.bytes in
      let l = int_long h.numeral.negative h.numeral.int (fraction_bytes h.numeral.fraction ++ exponent_bytes h.numeral.exponent) h.correct.int in
      (omega (arith, e, l), h.bytes.within)
  value_sized line s (string x) h = let e = h.end in let o = h.body.order in let c = h.closes.inside in (omega arith, omega arith)
  value_sized line s (container kind cs) h = let o = first_sized line kind (s.start + 1) s.end cs h.1 in let a = o.0 in (omega arith, o.1)

  pub first_sized : (line : List ℕ) (kind : Container) (i j : ℕ) (cs : Children) → SpellsFirst line kind i j cs → Sized line i j
  first_sized line kind i j no_child h = closes_sized line kind i j h
  first_sized line kind i j (child name t more) h =
      let a = h.1.order in
      let b = label_order line kind h.0 (span t).start name h.2 in
      let c = (tree_sized line t h.3).0 in
      let d = more_sized line kind (span t).end j more h.4 in
      let e = d.0 in
      (omega arith, d.1)

  pub more_sized : (line : List ℕ) (kind : Container) (i j : ℕ) (cs : Children) → SpellsMore line kind i j cs → Sized line i j
  more_sized line kind i j no_child h = closes_sized line kind i j h
  more_sized line kind i j (child name t more) h =
      let a = h.1.before.order in
      let z = h.1.after.order in
      let b = label_order line kind h.0 (span t).start name h.2 in
      let c = (tree_sized line t h.3).0 in
      let d = more_sized line kind (span t).end j more h.4 in
      let e = d.0 in
      (omega arith, d.1)

-- ---- the steps of a tree

three_false : (a b c : Bool) → (a || b || c) ≡ false → (a ≡ false) × (b ≡ false) × (c ≡ false)
three_false true b c h = absurd (cc)
three_false false true c h = absurd (cc)
three_false false false true h = absurd (cc)
three_false false false false h = (refl, refl, refl)

label_shown : (line : List ℕ) (kind : Container) (p i j : ℕ) (name : Option Name) → SpellsLabel line kind i j name → name_has_lone_surrogate name ≡ false → p ≤ 9007199254740991 → IsShown (step_to p name)
label_shown line kind p i j None h s l = l
label_shown line array p i j (Some name) h s l = absurd h
label_shown line object p i j (Some name) h s l = body_scalars line name.body.start name.body.end name.points h.body s

module _ (line : List ℕ) (short : length line ≤ 9007199254740991) where
  mutual
    tree_shown : (t : Tree) → Spells line t → has_surrogate t ≡ false → TreeShown t
    tree_shown (node s v) h g = value_shown s v h g

    value_shown : (s : Span) (v : Value) → SpellsValue line s v → value_has_surrogate v ≡ false → ValueShown v
    value_shown s null h g = tt
    value_shown s (boolean b) h g = tt
    value_shown s (number m e) h g = tt
    value_shown s (string x) h g = tt
    value_shown s (container kind cs) h g = first_shown kind 0 (s.start + 1) s.end cs h.1 g (omega arith)

    first_shown : (kind : Container) (p i j : ℕ) (cs : Children) → SpellsFirst line kind i j cs → children_have_surrogate cs ≡ false → p ≤ i → ChildrenShown cs p
    first_shown kind p i j no_child h g l = tt
    first_shown kind p i j (child name t more) h g l =
        let q = three_false (name_has_lone_surrogate name) (has_surrogate t) (children_have_surrogate more) g in
        let a = h.1.order in
        let b = label_order line kind h.0 (span t).start name h.2 in
        let c = tree_sized line t h.3 in
        let d = c.0 in
        let e = c.1 in
        (label_shown line kind p h.0 (span t).start name h.2 q.0 (omega arith), tree_shown t h.3 q.1, more_shown kind (p + 1) (span t).end j more h.4 q.2 (omega arith))

    more_shown : (kind : Container) (p i j : ℕ) (cs : Children) → SpellsMore line kind i j cs → children_have_surrogate cs ≡ false → p ≤ i → ChildrenShown cs p
    more_shown kind p i j no_child h g l = tt
    more_shown kind p i j (child name t more) h g l =
        let q = three_false (name_has_lone_surrogate name) (has_surrogate t) (children_have_surrogate more) g in
        let a = h.1.before.order in
        let z = h.1.after.order in
        let b = label_order line kind h.0 (span t).start name h.2 in
        let c = tree_sized line t h.3 in
        let d = c.0 in
        let e = c.1 in
        (label_shown line kind p h.0 (span t).start name h.2 q.0 (omega arith), tree_shown t h.3 q.1, more_shown kind (p + 1) (span t).end j more h.4 q.2 (omega arith))

  pub line_shown : (t : Tree) → Spells line t → has_surrogate t ≡ false → TreeShown t
  line_shown t h g = tree_shown t h g

-- ---- the steps to a node

abbrev ChildShown : Node → Node → Type 0
ChildShown n c = (s : Step) × (c.location ≡ n.location ++ s ∷ []) × IsShown s × TreeShown c.tree

kids_shown : (n : Node) (p : ℕ) (cs : Children) → ChildrenShown cs p → Each (ChildShown n) (map (child_of n) (steps_from p cs))
kids_shown n p no_child h = tt
kids_shown n p (child name t more) h = ((step_to p name, refl, h.0, h.1), kids_shown n (p + 1) more h.2)

steps_shown : (n : Node) (v : Value) → ValueShown v → Each (ChildShown n) (map (child_of n) (steps_in v))
steps_shown n null h = tt
steps_shown n (boolean b) h = tt
steps_shown n (number m e) h = tt
steps_shown n (string x) h = tt
steps_shown n (container kind cs) h = kids_shown n 0 cs h

tree_steps : (n : Node) (t : Tree) → TreeShown t → Each (ChildShown n) (map (child_of n) (steps_in (value_of t)))
tree_steps n (node s v) h = steps_shown n v h

node_shown : (r n : Node) → Each IsShown r.location → TreeShown r.tree → IsWithin r n → Each IsShown n.location × TreeShown n.tree
node_shown r n l h itself = (l, h)
node_shown r n l h (child_of_one {m = m} w a) =
    let again = node_shown r m l h w in
    let c = each_among (ChildShown m) n (children m) (tree_steps m m.tree again.1) a in
    (subst (Each IsShown) (sym c.1) (each_append IsShown m.location (c.0 ∷ []) again.0 (c.2, tt)), c.3)

pub location_shown : (t : Tree) (n : Node) → TreeShown t → IsWithin (root_node t) n → Each IsShown n.location
location_shown t n h w = (node_shown (root_node t) n tt h w).0
