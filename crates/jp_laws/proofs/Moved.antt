-- A part of a line spells what it spells there.
use Rattle.std.proofs.Common.{min, ◌≡◌, ℕ, ◌+◌, ◌-◌, ◌<◌, ◌≤◌, inl, inr, List, [], ◌∷◌, length, take, drop, map, Option, Some, None, encode_utf8, refl, sym, ap, subst, ◌∙◌, arith, take-take, drop-drop, get_or-take, get_or-drop, length-take, length-drop}
use Rattle.std.proofs.lemmas.List.{drop-take}
use Rattle.jp_model.proofs.Reader.Bodies.{character_longer, characters_longer}
use Rattle.jp_model.proofs.Reader.Whole.{label_order}
use Rattle.jp_model.specs.declared.Span.{Span}
use Rattle.jp_model.specs.Characters.{is_white, four_digits}
use Rattle.jp_model.specs.Json.Numbers.{numeral_bytes}
use Rattle.jp_model.specs.Json.Places.{byte_at, White, Has, Reads, bytes_between}
use Rattle.jp_model.specs.Json.Spelling.{Spells, SpellsValue, SpellsFirst, SpellsMore, SpellsLabel, SpellsString, Separator, Closes, opening, closing, word_of, null_word, Text}
use Rattle.jp_model.specs.Json.Strings.{SpellsCharacter, SpellsCharacters, SpellsBody}
use Rattle.jp_model.specs.Json.Tree.{Tree, node, Value, null, boolean, number, string, container, Container, array, object, Children, no_child, child, Name, span, value_of}
use Rattle.jp_model.specs.Meaning.Nodes.{Node, root_node, child_of, children, steps_from, steps_in}
use Rattle.jp_model.specs.Rows.{source}
use Rattle.jp_laws.specs.Nodes.{IsWithin, itself, child_of_one}
use Rattle.jp_laws.specs.Spans.{earlier_span, earlier_name, earlier, earlier_value, earlier_children, StandInOrder}
use Rattle.jp_laws.proofs.Descendants.{each_among}
use Rattle.jp_laws.proofs.Locations.{tree_sized, first_sized, more_sized}
use Rattle.jp_laws.proofs.Reached.{Each}

module _ (line : List ℕ) (a b : ℕ) (order : a ≤ b) (within : b ≤ length line) where
  abbrev part : List ℕ
  part = bytes_between line a b

  part_length : length part ≡ b - a
  part_length = length-take (b - a) (drop a line) ∙ (ap (min (b - a)) (length-drop a line) ∙ (let h : min (b - a) (length line - a) ≡ b - a = omega arith in h))

  part_byte : (k : ℕ) → a + k < b → byte_at part k ≡ byte_at line (a + k)
  part_byte k l = get_or-take (b - a) (drop a line) k 0 (omega arith) ∙ get_or-drop a line k 0

  byte_there : (i k : ℕ) → i ≡ a + k → i < b → byte_at part k ≡ byte_at line i
  byte_there i k e l = part_byte k (omega arith) ∙ ap (byte_at line) (sym e)

  has_there : (i k byte : ℕ) → i ≡ a + k → i < b → Has line i byte → Has part k byte
  has_there i k byte e l h = record { inside = subst (λ n. k < n) (sym part_length) (let r : k < b - a = omega arith in r); is = byte_there i k e l ∙ h.is }

  white_there : (i j k m : ℕ) → i ≡ a + k → j ≡ a + m → j ≤ b → White line i j → White part k m
  white_there i j k m e f l w = record {
    order = let o = w.order in omega arith;
    within = subst (λ n. m ≤ n) (sym part_length) (let r : m ≤ b - a = omega arith in r);
    white = λ n p q. ap is_white (byte_there (a + n) n refl (omega arith)) ∙ w.white (a + n) (omega arith) (omega arith);
  }

  reads_there : (i j k m : ℕ) (bytes : List ℕ) → i ≡ a + k → j ≡ a + m → j ≤ b → Reads line i j bytes → Reads part k m bytes
  reads_there i j k m bytes e f l r = record {
    order = let o = r.order in omega arith;
    within = subst (λ n. m ≤ n) (sym part_length) (let q : m ≤ b - a = omega arith in q);
    are = shorter ∙ r.are;
  }
    where
      o : i ≤ j
      o = r.order

      split : b - a ≡ k + (b - i)
      split = omega arith

      dropped : drop k part ≡ take (b - i) (drop i line)
      dropped = ap (λ n. drop k (take n (drop a line))) split ∙ (drop-take k (b - i) (drop a line) ∙ (ap (take (b - i)) (drop-drop k a line) ∙ ap (λ n. take (b - i) (drop n line)) (sym e)))

      shorter : take (m - k) (drop k part) ≡ take (j - i) (drop i line)
      shorter = ap (take (m - k)) dropped ∙ (take-take (m - k) (b - i) (drop i line) (omega arith) ∙ ap (λ n. take n (drop i line)) (let q : m - k ≡ j - i = omega arith in q))

  -- ---- strings

  character_there : (i j k m u : ℕ) → i ≡ a + k → j ≡ a + m → j ≤ b → SpellsCharacter line i j u → SpellsCharacter part k m u
  character_there i j k m u e f l (inl h) = inl (record { scalar = h.scalar; no_control = h.no_control; no_quote = h.no_quote; no_backslash = h.no_backslash; bytes = reads_there i j k m (encode_utf8 u) e f l h.bytes })
  character_there i j k m u e f l (inr (inl h)) =
      let g = h.end in
      inr (inl (record { letter = h.letter; backslash = has_there i k 0x5C e (omega arith) h.backslash; has_letter = has_there (i + 1) (k + 1) h.letter (omega arith) (omega arith) h.has_letter; spells = h.spells; end = omega arith }))
  character_there i j k m u e f l (inr (inr h)) =
      let g = h.end in
      inr (inr (record {
        backslash = has_there i k 0x5C e (omega arith) h.backslash;
        letter = has_there (i + 1) (k + 1) 0x75 (omega arith) (omega arith) h.letter;
        spells = four (byte_there (i + 2) (k + 2) (omega arith) (omega arith)) (byte_there (i + 3) (k + 3) (omega arith) (omega arith)) (byte_there (i + 4) (k + 4) (omega arith) (omega arith)) (byte_there (i + 5) (k + 5) (omega arith) (omega arith)) h.spells;
        end = omega arith;
      }))
    where
      four : {p q r s w x y z : ℕ} → p ≡ w → q ≡ x → r ≡ y → s ≡ z → four_digits w x y z ≡ Some u → four_digits p q r s ≡ Some u
      four c d g o t = rw (c, d, g, o) t

  characters_there : (us : List ℕ) (i j k m : ℕ) → i ≡ a + k → j ≡ a + m → j ≤ b → SpellsCharacters line i j us → SpellsCharacters part k m us
  characters_there [] i j k m e f l h = let g : i ≡ j = h in let r : k ≡ m = omega arith in r
  characters_there (u ∷ us) i j k m e f l h =
      let first = character_longer line i h.0 u h.1 in
      let rest = characters_longer line h.0 j us h.2 in
      (h.0 - a, character_there i h.0 k (h.0 - a) u e (omega arith) (omega arith) h.1, characters_there us h.0 j (h.0 - a) m (omega arith) f l h.2)

  body_there : (i j k m : ℕ) (points : List ℕ) → i ≡ a + k → j ≡ a + m → j ≤ b → SpellsBody line i j points → SpellsBody part k m points
  body_there i j k m points e f l h = record { order = let o = h.order in omega arith; units = h.units; characters = characters_there h.units i j k m e f l h.characters; are = h.are }

  string_there : (i j k m : ℕ) (points : List ℕ) → i ≡ a + k → j ≡ a + m → j ≤ b → SpellsString line i j points → SpellsString part k m points
  string_there i j k m points e f l h =
      let o = h.body.order in
      let g = h.end in
      record {
        last = h.last - a;
        opens = has_there i k 0x22 e (omega arith) h.opens;
        body = body_there (i + 1) h.last (k + 1) (h.last - a) points (omega arith) (omega arith) (omega arith) h.body;
        closes = has_there h.last (h.last - a) 0x22 (omega arith) (omega arith) h.closes;
        end = omega arith;
      }

  -- ---- labels and brackets

  separator_there : (byte i j k m : ℕ) → i ≡ a + k → j ≡ a + m → j ≤ b → Separator line byte i j → Separator part byte k m
  separator_there byte i j k m e f l h =
      let o = h.before.order in
      let p = h.after.order in
      record {
        place = h.place - a;
        before = white_there i h.place k (h.place - a) e (omega arith) (omega arith) h.before;
        is = has_there h.place (h.place - a) byte (omega arith) (omega arith) h.is;
        after = white_there (h.place + 1) j (h.place - a + 1) m (omega arith) f l h.after;
      }

  label_there : (kind : Container) (i j k m : ℕ) (name : Option Name) → i ≡ a + k → j ≡ a + m → j ≤ b → SpellsLabel line kind i j name → SpellsLabel part kind k m (earlier_name a name)
  label_there array i j k m None e f l h = let g : i ≡ j = h in let r : k ≡ m = omega arith in r
  label_there array i j k m (Some name) e f l h = absurd h
  label_there object i j k m None e f l h = absurd h
  label_there object i j k m (Some name) e f l h =
      let q = h.behind_quote in
      let o = h.body.order in
      let c = h.colon.before.order in
      let d = h.colon.after.order in
      record {
        opens = has_there i k 0x22 e (omega arith) h.opens;
        body = body_there name.body.start name.body.end (name.body.start - a) (name.body.end - a) name.points (omega arith) (omega arith) (omega arith) h.body;
        closes = has_there name.body.end (name.body.end - a) 0x22 (omega arith) (omega arith) h.closes;
        behind_quote = omega arith;
        colon = separator_there 0x3A (name.body.end + 1) j (name.body.end - a + 1) m (omega arith) f l h.colon;
      }

  closes_there : (kind : Container) (i j k m : ℕ) → i ≡ a + k → j ≡ a + m → j ≤ b → Closes line kind i j → Closes part kind k m
  closes_there kind i j k m e f l h =
      let o = h.white.order in
      let g = h.end in
      record { place = h.place - a; white = white_there i h.place k (h.place - a) e (omega arith) (omega arith) h.white; bracket = has_there h.place (h.place - a) (closing kind) (omega arith) (omega arith) h.bracket; end = omega arith }

  -- ---- trees

  mutual
    tree_there : (t : Tree) → a ≤ (span t).start → (span t).end ≤ b → Spells line t → Spells part (earlier a t)
    tree_there (node s v) p q h = value_there s v p q h

    value_there : (s : Span) (v : Value) → a ≤ s.start → s.end ≤ b → SpellsValue line s v → SpellsValue part (earlier_span a s) (earlier_value a v)
    value_there s null p q h = let o = h.order in reads_there s.start s.end (s.start - a) (s.end - a) null_word (omega arith) (omega arith) q h
    value_there s (boolean c) p q h = let o = h.order in reads_there s.start s.end (s.start - a) (s.end - a) (word_of c) (omega arith) (omega arith) q h
    value_there s (number m x) p q h =
        let o = h.bytes.order in
        record { numeral = h.numeral; correct = h.correct; bytes = reads_there s.start s.end (s.start - a) (s.end - a) (numeral_bytes h.numeral) (omega arith) (omega arith) q h.bytes; is_mantissa = h.is_mantissa; is_scale = h.is_scale }
    value_there s (string x) p q h = let o = h.body.order in let g = h.end in string_there s.start s.end (s.start - a) (s.end - a) x (omega arith) (omega arith) q h
    value_there s (container kind cs) p q h =
        let z = (first_sized line kind (s.start + 1) s.end cs h.1).0 in
        (has_there s.start (s.start - a) (opening kind) (omega arith) (omega arith) h.0, first_there kind (s.start + 1) s.end (s.start - a + 1) (s.end - a) cs (omega arith) (omega arith) q h.1)

    first_there : (kind : Container) (i j k m : ℕ) (cs : Children) → i ≡ a + k → j ≡ a + m → j ≤ b → SpellsFirst line kind i j cs → SpellsFirst part kind k m (earlier_children a cs)
    first_there kind i j k m no_child e f l h = closes_there kind i j k m e f l h
    first_there kind i j k m (child name (node s v) more) e f l h =
        let o = h.1.order in
        let p = label_order line kind h.0 s.start name h.2 in
        let z = (tree_sized line (node s v) h.3).0 in
        let r = (more_sized line kind s.end j more h.4).0 in (
          h.0 - a,
          white_there i h.0 k (h.0 - a) e (omega arith) (omega arith) h.1,
          label_there kind h.0 s.start (h.0 - a) (s.start - a) name (omega arith) (omega arith) (omega arith) h.2,
          value_there s v (omega arith) (omega arith) h.3,
          more_there kind s.end j (s.end - a) m more (omega arith) f l h.4,
        )

    more_there : (kind : Container) (i j k m : ℕ) (cs : Children) → i ≡ a + k → j ≡ a + m → j ≤ b → SpellsMore line kind i j cs → SpellsMore part kind k m (earlier_children a cs)
    more_there kind i j k m no_child e f l h = closes_there kind i j k m e f l h
    more_there kind i j k m (child name (node s v) more) e f l h =
        let o = h.1.before.order in
        let c = h.1.after.order in
        let p = label_order line kind h.0 s.start name h.2 in
        let z = (tree_sized line (node s v) h.3).0 in
        let r = (more_sized line kind s.end j more h.4).0 in (
          h.0 - a,
          separator_there 0x2C i h.0 k (h.0 - a) e (omega arith) (omega arith) h.1,
          label_there kind h.0 s.start (h.0 - a) (s.start - a) name (omega arith) (omega arith) (omega arith) h.2,
          value_there s v (omega arith) (omega arith) h.3,
          more_there kind s.end j (s.end - a) m more (omega arith) f l h.4,
        )

-- ---- the bytes of a tree

nothing_white : (bytes : List ℕ) (i j : ℕ) → i ≡ j → j ≤ length bytes → White bytes i j
nothing_white bytes i j e l = record { order = omega arith; within = l; white = λ k p q. absurd (omega (arith, p, q)) }

tree_text : (line : List ℕ) (t : Tree) → Spells line t → Text (source line t) (earlier (span t).start t)
tree_text line (node s v) h =
    let z = tree_sized line (node s v) h in
    let o = z.0 in
    let w = z.1 in
    let len : length (source line (node s v)) ≡ s.end - s.start = part_length line s.start s.end (omega arith) w in
    record {
      before = nothing_white (source line (node s v)) 0 (s.start - s.start) (omega arith) (omega arith);
      value = tree_there line s.start s.end (omega arith) w (node s v) (omega arith) (omega arith) h;
      after = nothing_white (source line (node s v)) (s.end - s.start) (length (source line (node s v))) (sym len) (omega arith);
    }

-- ---- the trees of nodes

module _ (line : List ℕ) where
  abbrev IsSpelled : Node → Type 0
  IsSpelled n = Spells line n.tree

  more_spelled : (n : Node) (p : ℕ) (kind : Container) (i j : ℕ) (cs : Children) → SpellsMore line kind i j cs → Each IsSpelled (map (child_of n) (steps_from p cs))
  more_spelled n p kind i j no_child h = tt
  more_spelled n p kind i j (child name t more) h = (h.3, more_spelled n (p + 1) kind (span t).end j more h.4)

  first_spelled : (n : Node) (p : ℕ) (kind : Container) (i j : ℕ) (cs : Children) → SpellsFirst line kind i j cs → Each IsSpelled (map (child_of n) (steps_from p cs))
  first_spelled n p kind i j no_child h = tt
  first_spelled n p kind i j (child name t more) h = (h.3, more_spelled n (p + 1) kind (span t).end j more h.4)

  value_spelled : (n : Node) (s : Span) (v : Value) → SpellsValue line s v → Each IsSpelled (map (child_of n) (steps_in v))
  value_spelled n s null h = tt
  value_spelled n s (boolean b) h = tt
  value_spelled n s (number m e) h = tt
  value_spelled n s (string x) h = tt
  value_spelled n s (container kind cs) h = first_spelled n 0 kind (s.start + 1) s.end cs h.1

  tree_spelled : (n : Node) (t : Tree) → Spells line t → Each IsSpelled (map (child_of n) (steps_in (value_of t)))
  tree_spelled n (node s v) h = value_spelled n s v h

  pub node_spelled : (r n : Node) → Spells line r.tree → IsWithin r n → Spells line n.tree
  node_spelled r n h itself = h
  node_spelled r n h (child_of_one {m = m} w a) = each_among IsSpelled n (children m) (tree_spelled m m.tree (node_spelled r m h w)) a

pub row_text : (line : List ℕ) (t : Tree) (n : Node) → Text line t → IsWithin (root_node t) n → Text (source line n.tree) (earlier (span n.tree).start n.tree)
row_text line t n h w = tree_text line n.tree (node_spelled line (root_node t) n h.value w)

-- ---- children in order

more_in_order : (line : List ℕ) (kind : Container) (i j : ℕ) (cs : Children) → SpellsMore line kind i j cs → StandInOrder i (j - 1) cs
more_in_order line kind i j no_child h = let o = h.white.order in let e = h.end in omega arith
more_in_order line kind i j (child name t more) h =
    let o = h.1.before.order in
    let c = h.1.after.order in
    let p = label_order line kind h.0 (span t).start name h.2 in
    (omega arith, (tree_sized line t h.3).0, more_in_order line kind (span t).end j more h.4)

first_in_order : (line : List ℕ) (kind : Container) (i j : ℕ) (cs : Children) → SpellsFirst line kind i j cs → StandInOrder i (j - 1) cs
first_in_order line kind i j no_child h = let o = h.white.order in let e = h.end in omega arith
first_in_order line kind i j (child name t more) h =
    let o = h.1.order in
    let p = label_order line kind h.0 (span t).start name h.2 in
    (omega arith, (tree_sized line t h.3).0, more_in_order line kind (span t).end j more h.4)

pub in_order : (line : List ℕ) (t : Tree) (n : Node) (s : Span) (kind : Container) (cs : Children) → Text line t → IsWithin (root_node t) n → n.tree ≡ node s (container kind cs) → StandInOrder (s.start + 1) (s.end - 1) cs
in_order line t n s kind cs h w e =
    let spelled : Spells line (node s (container kind cs)) = subst (Spells line) e (node_spelled line (root_node t) n h.value w) in
    first_in_order line kind (s.start + 1) s.end cs spelled.1
