-- What the parser's groups stand for.
use Rattle.std.specs.Prelude.{List, [], ◌∷◌, Option, Some, None}
use Rattle.jp_iregexp.specs.declared.node.Node.{Node}
use Rattle.jp_iregexp.specs.declared.group.Group.{Group}
use Rattle.jp_iregexp.specs.declared.groups.Groups.{Groups}
use Rattle.jp_model.specs.Pattern.Tree.{Pattern}
use Rattle.jp_iregexp.specs.Nodes.{tree_of}
use Rattle.jp_model.specs.Pattern.Groups.{Group as Reading, Groups as ReadingGroups}

-- the patterns of parts, the latest first, in front of others
abbrev pub latest_onto : List Node → List Pattern → List Pattern
latest_onto [] done = done
latest_onto (part ∷ parts) done = latest_onto parts (tree_of part ∷ done)

-- the same, with nothing after them
abbrev pub latest_first : List Node → List Pattern
latest_first parts = latest_onto parts []

-- the pattern of the atom that was read last, if there is one
abbrev pub atom_of : Option Node → Option Pattern
atom_of None = None
atom_of (Some atom) = Some (tree_of atom)

-- what an open group holds: its branches, its pieces, and the atom after them
abbrev pub group_of : Group → Reading
group_of g = record { branches = latest_first g.branches.items; pieces = latest_first g.pieces.items; atom = atom_of g.atom }

-- what groups stand for, the latest first, in front of others
abbrev pub groups_onto : List Group → List Reading → List Reading
groups_onto [] done = done
groups_onto (g ∷ groups) done = groups_onto groups (group_of g ∷ done)

-- the same, with nothing after them
abbrev pub groups_latest : List Group → List Reading
groups_latest groups = groups_onto groups []

-- what is open: the innermost group, and those around it
abbrev pub groups_of : Groups → ReadingGroups
groups_of s = record { now = group_of s.now; around = groups_latest s.around.items }
