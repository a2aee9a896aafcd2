-- What is packed comes back: in a line of fewer than 2 ^ 10 bytes each half of a word has 10 bits at most, and so one word
-- holds the six halves of a node; in one of fewer than 2 ^ 21 bytes each has 21 bits at most, and two words hold them.
use Rattle.std.proofs.Common.{◌≡◌, ◌⊎◌, inl, inr, ℕ, suc, ◌+◌, ◌*◌, ◌/◌, ◌%◌, ◌<◌, ◌≤◌, ◌^◌, List, [], ◌∷◌, ◌++◌, ◌-◌, length, take, drop, slice_range, get_or, sym, ◌∙◌, ap, subst, refl, arith, All, append_assoc, length-drop, length-append}
use Rattle.std.proofs.Math.Seq.{drop-cons, drop-append_seam}
use Rattle.std.proofs.lemmas.List.{take_all}
use Rattle.std.proofs.lemmas.Bool.{cases_lt}
use Rattle.std.proofs.lemmas.Bool.Decides.{nat_tests}
use Rattle.std.proofs.lemmas.List.Elements.{All-tail}
use Rattle.jp_model.specs.Json.Tree.{Tree, span, value_of}
use Rattle.jp_model.specs.Json.Spelling.{Text}
use Rattle.jp_nodes.specs.Words.{tape_words, head_word, kind_code, nodes_below, span_word, label_word}
use Rattle.jp_nodes.specs.Forms.{half_bits, half_in, word_of, compact_words, medium_words, words_in, compact_node, three_halves, in_one, in_two, nodes_by, node_size, packed, tape_end, IsAmong}
use Rattle.jp_nodes.specs.Tapes.{spelled, IsTapeOf}
use Rattle.jp_nodes.specs.Spots.{Spot, spots}
use Rattle.jp_nodes.proofs.Spots.{words_of, words-spots, length-tape}
use Rattle.jp_nodes.proofs.Trees.{spelled_text, count_short}
use Rattle.jp_nodes.proofs.Halves.{IsSmall, AreSmall, all_small}

-- ---- a node's words come back

module _ (a b c : ℕ) (x : IsSmall (2 ^ 10) a) (y : IsSmall (2 ^ 10) b) (z : IsSmall (2 ^ 10) c) where
  head_back : word_of 10 (compact_node a b c / 2 ^ 32) (compact_node a b c) 0 ≡ a
  unfolding half_in compact_node
  head_back = omega arith

  span_back : word_of 10 (compact_node a b c / 2 ^ 32) (compact_node a b c) 1 ≡ b
  unfolding half_in compact_node
  span_back = omega arith

  label_back : word_of 10 (compact_node a b c / 2 ^ 32) (compact_node a b c) 2 ≡ c
  unfolding half_in compact_node
  label_back = omega arith

  compact_back : (words : List ℕ) → compact_words (in_one a b c ++ words) ≡ a ∷ b ∷ c ∷ compact_words words
  compact_back words = λ t. head_back t ∷ span_back t ∷ label_back t ∷ compact_words words

module _ (a b c : ℕ) (x : a < 2 ^ 21) (y : b < 2 ^ 21) (z : c < 2 ^ 21) where
  first_back : half_in 21 0 (three_halves a b c) ≡ a
  unfolding half_in three_halves
  first_back = omega (arith, x, y, z)

  second_back : half_in 21 1 (three_halves a b c) ≡ b
  unfolding half_in three_halves
  second_back = omega (arith, x, y, z)

  third_back : half_in 21 2 (three_halves a b c) ≡ c
  unfolding half_in three_halves
  third_back = omega (arith, x, y, z)

module _ (a b c : ℕ) (x : IsSmall (2 ^ 21) a) (y : IsSmall (2 ^ 21) b) (z : IsSmall (2 ^ 21) c) where
  abbrev highs : ℕ
  highs = three_halves (a / 2 ^ 32) (b / 2 ^ 32) (c / 2 ^ 32)

  abbrev lows : ℕ
  lows = three_halves (a % 2 ^ 32) (b % 2 ^ 32) (c % 2 ^ 32)

  medium_head : word_of 21 highs lows 0 ≡ a
  medium_head =
      let high = first_back (a / 2 ^ 32) (b / 2 ^ 32) (c / 2 ^ 32) x.high y.high z.high in
      let low = first_back (a % 2 ^ 32) (b % 2 ^ 32) (c % 2 ^ 32) x.low y.low z.low in
      omega (arith, high, low)

  medium_span : word_of 21 highs lows 1 ≡ b
  medium_span =
      let high = second_back (a / 2 ^ 32) (b / 2 ^ 32) (c / 2 ^ 32) x.high y.high z.high in
      let low = second_back (a % 2 ^ 32) (b % 2 ^ 32) (c % 2 ^ 32) x.low y.low z.low in
      omega (arith, high, low)

  medium_label : word_of 21 highs lows 2 ≡ c
  medium_label =
      let high = third_back (a / 2 ^ 32) (b / 2 ^ 32) (c / 2 ^ 32) x.high y.high z.high in
      let low = third_back (a % 2 ^ 32) (b % 2 ^ 32) (c % 2 ^ 32) x.low y.low z.low in
      omega (arith, high, low)

  medium_back : (words : List ℕ) → medium_words (in_two a b c ++ words) ≡ a ∷ b ∷ c ∷ medium_words words
  medium_back words = λ t. medium_head t ∷ medium_span t ∷ medium_label t ∷ medium_words words

-- ---- and so do those of all nodes

module _ (bound : ℕ) (least : 2 ^ 10 ≤ bound) (most : bound ≤ 2 ^ 21) (node : ℕ → ℕ → ℕ → List ℕ) (unpacked : List ℕ → List ℕ) (none : unpacked [] ≡ [])
    (back : (a b c : ℕ) → IsSmall bound a → IsSmall bound b → IsSmall bound c → (words : List ℕ) → unpacked (node a b c ++ words) ≡ a ∷ b ∷ c ∷ unpacked words) where
  all_back : (xs : List Spot) → All (AreSmall bound) xs → unpacked (nodes_by node (words_of xs)) ≡ words_of xs
  all_back [] h = none
  all_back (x ∷ xs) h =
      let s : AreSmall bound x = h 0 x (omega arith) in
      let rest = all_back xs (All-tail (AreSmall bound) x xs h) in
      let head : ℕ = head_word (kind_code (value_of x.node.tree)) (nodes_below (value_of x.node.tree)) x.up in
      let own : ℕ = span_word (span x.node.tree) in
      let label : ℕ = label_word x.index x.name in
      back head own label s.head s.span s.label (nodes_by node (words_of xs)) ∙ ap (λ words. head ∷ own ∷ label ∷ words) rest

  tape_back : (line : List ℕ) (t : Tree) → Text line t → length line < bound → unpacked (nodes_by node (tape_words t)) ≡ tape_words t
  tape_back line t h l =
      ap (λ w. unpacked (nodes_by node w)) (words-spots t) ∙ (all_back (spots t) (all_small bound least most line t h l) ∙ sym (words-spots t))

-- how many bits a half has
pub bits_case : (size : ℕ) → ((half_bits size ≡ 10) × (size < 2 ^ 10)) ⊎ (((half_bits size ≡ 21) × (size < 2 ^ 21)) ⊎ (half_bits size ≡ 32))
unfolding half_bits
bits_case size =
    elim (cases_lt size (2 ^ 10)) [
      | inl short ↦ inl (grind (arith, nat_tests, short), short)
      | inr long ↦
          elim (cases_lt size (2 ^ 21)) [
            | inl short ↦ inr (inl (grind (arith, nat_tests, long, short), short))
            | inr longer ↦ inr (inr (grind (arith, nat_tests, long, longer)))
          ]
    ]

-- the words of a line's tape come back from what is kept of them
pub kept : (line : List ℕ) (t : Tree) → Text line t → words_in (half_bits (length line)) (packed (half_bits (length line)) (tape_words t)) ≡ tape_words t
kept line t h =
    let P : ℕ → Type 0 = λ bits. words_in bits (packed bits (tape_words t)) ≡ tape_words t in
    elim (bits_case (length line)) [
      | inl e ↦ subst P (sym e.0) (tape_back (2 ^ 10) (omega arith) (omega arith) in_one compact_words refl compact_back line t h e.1)
      | inr (inl e) ↦ subst P (sym e.0) (tape_back (2 ^ 21) (omega arith) (omega arith) in_two medium_words refl medium_back line t h e.1)
      | inr (inr e) ↦ subst P (sym e) refl
    ]

pub kept_words : (words line : List ℕ) → IsTapeOf words line → words_in (half_bits (length line)) (packed (half_bits (length line)) words) ≡ words
kept_words words line h =
    subst (λ w. words_in (half_bits (length line)) (packed (half_bits (length line)) w) ≡ w) (sym h.words_are) (kept line (spelled line) (spelled_text line h.spelled_line))

-- where they are kept alone
pub kept_alone : (words line tapes : List ℕ) (bits : ℕ) → IsTapeOf words line → bits ≡ half_bits (length line) → tapes ≡ packed bits words → words_in bits tapes ≡ words
kept_alone words line tapes bits h e is =
    ap (words_in bits) is ∙ subst (λ b. words_in b (packed b words) ≡ words) (sym e) (kept_words words line h)

-- ---- how they are written

-- the words of the node at a place, and those after them
three_at : (words : List ℕ) (place : ℕ) → 3 * place + 2 < length words
    → drop (3 * place) words ≡ get_or words (3 * place) 0 ∷ get_or words (3 * place + 1) 0 ∷ get_or words (3 * place + 2) 0 ∷ drop (3 * (place + 1)) words
three_at words place h =
    let i : ℕ = 3 * place in
    let behind : 3 * (place + 1) ≡ suc (i + 2) = omega arith in
    let one : suc i ≡ i + 1 = omega arith in
    let two : suc (i + 1) ≡ i + 2 = omega arith in
    drop-cons words i 0 (omega arith)
    ∙ ap (λ r. get_or words i 0 ∷ r)
    (ap (λ n. drop n words) one
    ∙ (drop-cons words (i + 1) 0 (omega arith)
    ∙ ap (λ r. get_or words (i + 1) 0 ∷ r)
    (ap (λ n. drop n words) two
    ∙ (drop-cons words (i + 2) 0 (omega arith)
    ∙ ap (λ n. get_or words (i + 2) 0 ∷ drop n words) (sym behind)))))

-- one more node
pub one_more : (node : ℕ → ℕ → ℕ → List ℕ) (words tapes : List ℕ) (place : ℕ) → 3 * place + 2 < length words
    → tapes ++ nodes_by node (drop (3 * place) words) ≡ (tapes ++ node (get_or words (3 * place) 0) (get_or words (3 * place + 1) 0) (get_or words (3 * place + 2) 0)) ++ nodes_by node (drop (3 * (place + 1)) words)
one_more node words tapes place h = ap (λ r. tapes ++ nodes_by node r) (three_at words place h) ∙ sym (append_assoc tapes _ _)

none_by : (node : ℕ → ℕ → ℕ → List ℕ) (words : List ℕ) → length words < 3 → nodes_by node words ≡ []
none_by node [] h = refl
none_by node (a ∷ []) h = refl
none_by node (a ∷ b ∷ []) h = refl
none_by node (a ∷ b ∷ c ∷ words) h = absurd (omega (arith, h))

-- no more
pub no_more : (node : ℕ → ℕ → ℕ → List ℕ) (words : List ℕ) (place : ℕ) → length words < 3 * place + 3 → nodes_by node (drop (3 * place) words) ≡ []
no_more node words place h = none_by node (drop (3 * place) words) (let l = length-drop (3 * place) words in omega (arith, l, h))

-- how many words they are
length-by : (node : ℕ → ℕ → ℕ → List ℕ) (size : ℕ) → ((a b c : ℕ) → length (node a b c) ≡ size) → (words : List ℕ) → length (nodes_by node words) ≡ length words / 3 * size
length-by node size each [] = omega arith
length-by node size each (a ∷ []) = omega arith
length-by node size each (a ∷ b ∷ []) = omega arith
length-by node size each (a ∷ b ∷ c ∷ words) =
    let here = each a b c in
    let more = length-by node size each words in
    let all = length-append (node a b c) (nodes_by node words) in
    let count : length (a ∷ b ∷ c ∷ words) / 3 ≡ suc (length words / 3) = omega arith in
    all ∙ (omega (arith, here, more) ∙ ap (λ n. n * size) (sym count))

pub length-packed : (size : ℕ) (words : List ℕ) → length words / 3 * 3 ≡ length words → length (packed (half_bits size) words) ≡ length words / 3 * node_size (half_bits size)
length-packed size words e =
    let P : ℕ → Type 0 = λ bits. length (packed bits words) ≡ length words / 3 * node_size bits in
    elim (bits_case size) [
      | inl is ↦ subst P (sym is.0) (length-by in_one 1 (λ a b c. refl) words)
      | inr (inl is) ↦ subst P (sym is.0) (length-by in_two 2 (λ a b c. refl) words)
      | inr (inr is) ↦ subst P (sym is) (sym e)
    ]

-- a tape has three words to a node
pub counted : (words line : List ℕ) → IsTapeOf words line → (length words / 3 * 3 ≡ length words) × (length words / 3 < 2 ^ 32)
counted words line h =
    let long = ap length h.words_are ∙ length-tape (spelled line) in
    let few = count_short line h.spelled_line in
    (omega (arith, long), omega (arith, long, few, h.short))

-- the words of a tape, which are packed after others, are that tape
pub packed_among : (words line tapes after : List ℕ) → IsTapeOf words line → after ≡ tapes ++ packed (half_bits (length line)) words → IsAmong after (length tapes) (length words / 3) line
packed_among words line tapes after h e =
    let bits : ℕ = half_bits (length line) in
    let own : List ℕ = packed bits words in
    let long = length-packed (length line) words (counted words line h).0 in
    let all = ap length e ∙ length-append tapes own in
    let end : ℕ = tape_end (length tapes) (length words / 3) (length line) in
    let here : slice_range after (length tapes) end ≡ own =
    ap (λ l. slice_range l (length tapes) end) e
    ∙ ap (take (end - length tapes)) (drop-append_seam tapes own)
    ∙ take_all (end - length tapes) own (omega (arith, long)) in
    record { within = omega (arith, long, all); tape = subst (λ w. IsTapeOf w line) (sym (ap (words_in bits) here ∙ kept_words words line h)) h }
