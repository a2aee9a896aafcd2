-- Where the words of a node are in what is kept of them.
use Rattle.std.proofs.Common.{◌≡◌, ℕ, zero, suc, ◌+◌, ◌*◌, ◌/◌, ◌<◌, ◌^◌, List, [], ◌∷◌, length, get_or, ◌∙◌, ap, subst, refl, arith}
use Rattle.jp_nodes.specs.Forms.{word_of, node_words, compact_words, medium_words, words_in}

-- the words of the node at a place have these halves
abbrev pub StandAt : (words : List ℕ) (place bits highs lows : ℕ) → Type 0
StandAt words place bits highs lows = (index : ℕ) → index < 3 → word_of bits highs lows index ≡ get_or words (3 * place + index) 0

-- those of the first
first_stands : (bits highs lows : ℕ) (words : List ℕ) → StandAt (node_words bits highs lows words) 0 bits highs lows
first_stands bits highs lows words zero h = refl
first_stands bits highs lows words (suc zero) h = refl
first_stands bits highs lows words (suc (suc zero)) h = refl
first_stands bits highs lows words (suc (suc (suc index))) h = absurd (omega (arith, h))

-- those of any other, after it
later_stands : (bits highs lows upper lower : ℕ) (words : List ℕ) (place : ℕ) → StandAt words place bits upper lower → StandAt (node_words bits highs lows words) (suc place) bits upper lower
later_stands bits highs lows upper lower words place h index w =
    let behind : suc (suc (suc (3 * place + index))) ≡ 3 * suc place + index = omega arith in
    h index w ∙ ap (λ n. get_or (node_words bits highs lows words) n 0) behind

pub length-compact : (nodes : List ℕ) → length (compact_words nodes) ≡ 3 * length nodes
length-compact [] = refl
length-compact (node ∷ nodes) = let e = length-compact nodes in omega (arith, e)

pub length-medium : (nodes : List ℕ) → length (medium_words nodes) ≡ 3 * (length nodes / 2)
length-medium [] = refl
length-medium (a ∷ []) = refl
length-medium (a ∷ b ∷ nodes) = let e = length-medium nodes in let n : length (a ∷ b ∷ nodes) / 2 ≡ suc (length nodes / 2) = omega arith in omega (arith, e, n)

pub compact_stands : (nodes : List ℕ) (place : ℕ) → place < length nodes → StandAt (compact_words nodes) place 10 (get_or nodes place 0 / 2 ^ 32) (get_or nodes place 0)
compact_stands [] place h = absurd (omega arith)
compact_stands (node ∷ nodes) zero h = first_stands 10 (node / 2 ^ 32) node (compact_words nodes)
compact_stands (node ∷ nodes) (suc place) h =
    later_stands 10 (node / 2 ^ 32) node (get_or nodes place 0 / 2 ^ 32) (get_or nodes place 0) (compact_words nodes) place (compact_stands nodes place (omega (arith, h)))

pub medium_stands : (nodes : List ℕ) (place : ℕ) → 2 * place + 1 < length nodes → StandAt (medium_words nodes) place 21 (get_or nodes (2 * place) 0) (get_or nodes (2 * place + 1) 0)
medium_stands [] place h = absurd (omega arith)
medium_stands (highs ∷ []) place h = absurd (omega (arith, h))
medium_stands (highs ∷ lows ∷ nodes) zero h = first_stands 21 highs lows (medium_words nodes)
medium_stands (highs ∷ lows ∷ nodes) (suc place) h =
    let before : suc (suc (2 * place)) ≡ 2 * suc place = omega arith in
    let behind : suc (suc (2 * place + 1)) ≡ 2 * suc place + 1 = omega arith in
    subst (λ n. StandAt (medium_words (highs ∷ lows ∷ nodes)) (suc place) 21 (get_or (highs ∷ lows ∷ nodes) n 0) (get_or (highs ∷ lows ∷ nodes) (2 * suc place + 1) 0)) before
    (subst (λ n. StandAt (medium_words (highs ∷ lows ∷ nodes)) (suc place) 21 (get_or nodes (2 * place) 0) (get_or (highs ∷ lows ∷ nodes) n 0)) behind
    (later_stands 21 highs lows (get_or nodes (2 * place) 0) (get_or nodes (2 * place + 1) 0) (medium_words nodes) place (medium_stands nodes place (omega (arith, h)))))

-- ---- by the bits of a half

pub compact_is : (bits : ℕ) (words : List ℕ) → bits ≡ 10 → words_in bits words ≡ compact_words words
compact_is bits words e = ap (λ b. words_in b words) e

pub medium_is : (bits : ℕ) (words : List ℕ) → bits ≡ 21 → words_in bits words ≡ medium_words words
medium_is bits words e = ap (λ b. words_in b words) e

pub compact_within : (bits place : ℕ) (words : List ℕ) → bits ≡ 10 → 3 * place + 2 < length (words_in bits words) → place < length words
compact_within bits place words is h =
    let e = ap length (compact_is bits words is) in
    let l = length-compact words in
    omega (arith, e, l, h)

pub medium_within : (bits place : ℕ) (words : List ℕ) → bits ≡ 21 → 3 * place + 2 < length (words_in bits words) → 2 * place + 1 < length words
medium_within bits place words is h =
    let e = ap length (medium_is bits words is) in
    let l = length-medium words in
    omega (arith, e, l, h)
