-- The length that all texts of a part have, if they have one.
use Rattle.std.specs.Prelude.{ℕ, zero, ◌+◌, ◌*◌, ◌^◌, ◌==◌, nat_le, Bool, true, if◌then◌else◌, List, [], ◌∷◌, Option, Some, None, option_and_then}
use Rattle.jp_iregexp.specs.declared.node.Node.{Node, Class as ClassNode, Sequence', Choice', Repeated', Row_of-Node, end_of-Node, more_of-Node}

-- a length, if it is not above 2^31
abbrev pub bounded : ℕ → Option ℕ
bounded n = if nat_le n (2 ^ 31) then Some n else None

-- a length is the one that was found before, if there is one
abbrev pub agrees : Option ℕ → ℕ → Bool
agrees None n = true
agrees (Some common) n = common == n

-- the length of this number of turns, if none may follow
abbrev pub length_of_turns : Option ℕ → (least : ℕ) (further : Option ℕ) → Option ℕ
length_of_turns length least (Some zero) = option_and_then (λ n. bounded (n * least)) length
length_of_turns length least further = None

-- the length of a part, by the one that is noted where it is repeated
abbrev mutual
  pub length_of : Node → Option ℕ
  length_of (ClassNode c) = Some 1
  length_of (Sequence' shape parts) = sum_after 0 parts
  length_of (Choice' shape parts) = common_after None parts
  length_of (Repeated' p body least further number length) = length_of_turns length least further

  -- the sum of a length and those of the parts
  pub sum_after : ℕ → {m : _} → Row_of-Node m → Option ℕ
  sum_after before end_of-Node = Some before
  sum_after before (more_of-Node part rest) = option_and_then (λ n. option_and_then (λ sum. sum_after sum rest) (bounded (before + n))) (length_of part)

  -- the length of each of the parts, which is the one that was found before, if there is one
  pub common_after : Option ℕ → {m : _} → Row_of-Node m → Option ℕ
  common_after common end_of-Node = common
  common_after common (more_of-Node part rest) = option_and_then (λ n. if agrees common n then common_after (Some n) rest else None) (length_of part)

-- the same sum of a list of parts
abbrev pub sum_list : ℕ → List Node → Option ℕ
sum_list before [] = Some before
sum_list before (part ∷ rest) = option_and_then (λ n. option_and_then (λ sum. sum_list sum rest) (bounded (before + n))) (length_of part)

-- the same of a choice
abbrev pub common_list : Option ℕ → List Node → Option ℕ
common_list common [] = common
common_list common (part ∷ rest) = option_and_then (λ n. if agrees common n then common_list (Some n) rest else None) (length_of part)
