-- The numbers and the lengths that are noted in a pattern's repeated parts.
use Rattle.std.specs.Prelude.{ℕ, suc, ◌==◌, Bool, if◌then◌else◌, List, [], ◌∷◌, Option, Some, None, option_and_then}
use Rattle.std.specs.Option.{option_eq}
use Rattle.jp_iregexp.specs.declared.group.Group.{Group}
use Rattle.jp_iregexp.specs.declared.node.Node.{Node, Class as ClassNode, Sequence', Choice', Repeated', Row_of-Node, end_of-Node, more_of-Node}
use Rattle.jp_iregexp.specs.Lengths.{length_of}

-- the next number after this one, if it is the one that is due
abbrev pub next_of : ℕ → ℕ → Option ℕ
next_of due number = if number == due then Some (suc due) else None

-- the length that is noted is this one
abbrev pub is_noted : (length noted : Option ℕ) → Bool
is_noted length noted = option_eq (λ a b. a == b) noted length

-- the next number after those of a part, if they ascend from this one, each after those within its own part, and each length that
-- is noted is that of its own part
abbrev mutual
  pub numbers_after : ℕ → Node → Option ℕ
  numbers_after first (ClassNode c) = Some first
  numbers_after first (Sequence' shape parts) = parts_after first parts
  numbers_after first (Choice' shape parts) = parts_after first parts
  numbers_after first (Repeated' p body least further number length) = if is_noted (length_of body) length then option_and_then (λ due. next_of due number) (numbers_after first body) else None

  pub parts_after : ℕ → {m : _} → Row_of-Node m → Option ℕ
  parts_after first end_of-Node = Some first
  parts_after first (more_of-Node part rest) = option_and_then (λ due. parts_after due rest) (numbers_after first part)

-- the next number after those of each in a list, one after another
abbrev pub each_after : {A : Type 0} → (ℕ → A → Option ℕ) → ℕ → List A → Option ℕ
each_after after first [] = Some first
each_after after first (part ∷ rest) = option_and_then (λ due. each_after after due rest) (after first part)

-- the same of a list of parts
abbrev pub list_after : ℕ → List Node → Option ℕ
list_after first parts = each_after numbers_after first parts

-- the same of an atom, if there is one
abbrev pub atom_after : ℕ → Option Node → Option ℕ
atom_after first None = Some first
atom_after first (Some atom) = numbers_after first atom

-- the same of an open group: its branches, its pieces, and the atom after them
abbrev pub group_after : ℕ → Group → Option ℕ
group_after first g = option_and_then (λ due. atom_after due g.atom) (option_and_then (λ due. list_after due g.pieces.items) (list_after first g.branches.items))

-- the same of the groups around, the outermost first, and of the innermost one
abbrev pub groups_after : ℕ → List Group → Group → Option ℕ
groups_after first around now = option_and_then (λ due. group_after due now) (each_after group_after first around)
