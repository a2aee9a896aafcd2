-- How a tape keeps its words in memory: the fewer bytes a line has, the fewer bits a half of a word needs, and the more halves
-- are kept in one word.
use Rattle.std.specs.Prelude.{ℕ, ◌+◌, ◌*◌, ◌/◌, ◌%◌, ◌^◌, ◌≤◌, ◌==◌, nat_lt, List, [], ◌∷◌, ◌++◌, length, slice_range, cond}
use Rattle.jp_nodes.specs.declared.word.Word.{Word}
use Rattle.jp_nodes.specs.Tapes.{IsTapeOf}

-- a word of two halves
abbrev pub joined : Word → ℕ
joined word = word.high * 2 ^ 32 + word.low

-- how many bits a half has in the tape of a line of `size` bytes: each half is less than `size`
unfoldable pub half_bits : ℕ → ℕ
half_bits size = cond (nat_lt size (2 ^ 10)) 10 (cond (nat_lt size (2 ^ 21)) 21 32)

-- how many words a node has, whose six halves have `bits` bits each
abbrev pub node_size : ℕ → ℕ
node_size bits = cond (bits == 10) 1 (cond (bits == 21) 2 3)

-- the half at an index, of `bits` bits, in a word that holds some of them, from the lowest bits up
unfoldable pub half_in : (bits index word : ℕ) → ℕ
half_in bits index word = word / 2 ^ (bits * index) % 2 ^ bits

-- the word whose halves are at an index in two words
abbrev pub word_of : (bits highs lows index : ℕ) → ℕ
word_of bits highs lows index = half_in bits index highs * 2 ^ 32 + half_in bits index lows

-- the three words of a node whose halves are in two, before others
abbrev pub node_words : (bits highs lows : ℕ) → List ℕ → List ℕ
node_words bits highs lows words = word_of bits highs lows 0 ∷ word_of bits highs lows 1 ∷ word_of bits highs lows 2 ∷ words

-- the words of nodes with all six halves in one word
abbrev pub compact_words : List ℕ → List ℕ
compact_words [] = []
compact_words (node ∷ nodes) = node_words 10 (node / 2 ^ 32) node (compact_words nodes)

-- the words of nodes with three halves in each of two words
abbrev pub medium_words : List ℕ → List ℕ
medium_words (highs ∷ lows ∷ nodes) = node_words 21 highs lows (medium_words nodes)
medium_words words = []

-- the words, three to a node, of nodes that are kept with `bits` bits to a half
abbrev pub words_in : ℕ → List ℕ → List ℕ
words_in bits words = cond (bits == 10) (compact_words words) (cond (bits == 21) (medium_words words) words)

-- the three words of a node in one
unfoldable pub compact_node : (head span label : ℕ) → ℕ
compact_node head span label = (head + span * 2 ^ 10 + label * 2 ^ 20) % 2 ^ 64

-- three halves in a word
unfoldable pub three_halves : (head span label : ℕ) → ℕ
three_halves head span label = (head + span * 2 ^ 21 + label * 2 ^ 42) % 2 ^ 64

-- a node in one word
abbrev pub in_one : (head span label : ℕ) → List ℕ
in_one head span label = compact_node head span label ∷ []

-- a node in two words, one of the upper halves and one of the lower
abbrev pub in_two : (head span label : ℕ) → List ℕ
in_two head span label = three_halves (head / 2 ^ 32) (span / 2 ^ 32) (label / 2 ^ 32) ∷ three_halves (head % 2 ^ 32) (span % 2 ^ 32) (label % 2 ^ 32) ∷ []

-- the nodes of these words, three to a node, each kept in this way
abbrev pub nodes_by : (ℕ → ℕ → ℕ → List ℕ) → List ℕ → List ℕ
nodes_by node (head ∷ span ∷ label ∷ words) = node head span label ++ nodes_by node words
nodes_by node _ = []

-- the nodes of these words, kept with `bits` bits to a half
abbrev pub packed : ℕ → List ℕ → List ℕ
packed bits words = cond (bits == 10) (nodes_by in_one words) (cond (bits == 21) (nodes_by in_two words) words)

-- these words in memory are the tape of the line
abbrev pub IsPackedTapeOf : (words line : List ℕ) → Type 0
IsPackedTapeOf words line = IsTapeOf (words_in (half_bits (length line)) words) line

-- where `nodes` nodes end that begin at the word `start` of a list and are the tape of a line of `size` bytes
abbrev pub tape_end : (start nodes size : ℕ) → ℕ
tape_end start nodes size = start + nodes * node_size (half_bits size)

-- `nodes` nodes, from the word at `start` on, are the tape of the line
pub record IsAmong (words : List ℕ) (start nodes : ℕ) (line : List ℕ) : Type 0 where
  pub within : tape_end start nodes (length line) ≤ length words
  pub tape : IsPackedTapeOf (slice_range words start (tape_end start nodes (length line))) line
