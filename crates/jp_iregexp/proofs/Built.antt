-- The parser's lists, oldest first, and the definition's, latest first.
use Rattle.std.proofs.Common.{◌≡◌, ◌≤◌, length, List, [], ◌∷◌, ◌++◌, refl, sym, ◌∙◌, ap, arith, Option, Some, None, Global, Vec}
use Rattle.jp_iregexp.specs.declared.node.Node.{Node, Sequence, Choice}
use Rattle.jp_model.specs.Pattern.Tree.{Pattern, empty, never}
use Rattle.jp_iregexp.specs.Nodes.{tree_of, sequence_list, choice_list}
use Rattle.jp_model.specs.Pattern.Groups.{Group, sequence_onto, choice_onto, at_end}
use Rattle.jp_iregexp.specs.declared.group.Group.{Group as OpenGroup}
use Rattle.jp_iregexp.specs.Groups.{atom_of, latest_onto, latest_first, group_of, groups_onto, groups_latest}
use Rattle.jp_iregexp.proofs.Parts.{tree_of_Sequence, tree_of_Choice}

latest_push : (parts : List Node) (part : Node) (done : List Pattern) → latest_onto (parts ++ part ∷ []) done ≡ tree_of part ∷ latest_onto parts done
latest_push [] part done = refl
latest_push (p ∷ parts) part done = latest_push parts part (tree_of p ∷ done)

pub first_push : (parts : List Node) (part : Node) → latest_first (parts ++ part ∷ []) ≡ tree_of part ∷ latest_first parts
first_push parts part = latest_push parts part []

onto_sequence : (parts : List Node) (done : List Pattern) → sequence_onto (latest_onto parts done) empty ≡ sequence_onto done (sequence_list parts)
onto_sequence [] done = refl
onto_sequence (p ∷ parts) done = onto_sequence parts (tree_of p ∷ done)

pub sequence_built : (parts : Vec Node Global) → tree_of (Sequence parts) ≡ sequence_onto (latest_first parts.items) empty
sequence_built parts = tree_of_Sequence parts ∙ sym (onto_sequence parts.items [])

onto_choice : (parts : List Node) (done : List Pattern) → choice_onto (latest_onto parts done) never ≡ choice_onto done (choice_list parts)
onto_choice [] done = refl
onto_choice (p ∷ parts) done = onto_choice parts (tree_of p ∷ done)

pub choice_built : (parts : Vec Node Global) → tree_of (Choice parts) ≡ choice_onto (latest_first parts.items) never
choice_built parts = tree_of_Choice parts ∙ sym (onto_choice parts.items [])

-- a branch that ends, by what becomes of each list
pub branch_ended : (branches more : List Node) (pieces : Vec Node Global) (before : List Pattern) → more ≡ branches ++ Sequence pieces ∷ [] → latest_first pieces.items ≡ before → latest_first more ≡ sequence_onto before empty ∷ latest_first branches
branch_ended branches more pieces before m e =
    ap latest_first m ∙ first_push branches (Sequence pieces) ∙ ap (λ r. r ∷ latest_first branches) (sequence_built pieces ∙ ap (λ l. sequence_onto l empty) e)

abbrev pub reading : List Pattern → List Pattern → Option Pattern → Group
reading branches pieces atom = record { branches = branches; pieces = pieces; atom = atom }

pub same_group : (b c p q : List Pattern) (a d : Option Pattern) → b ≡ c → p ≡ q → a ≡ d → reading b p a ≡ reading c q d
same_group b c p q a d e f g = ap (λ x. reading x p a) e ∙ ap (λ x. reading c x a) f ∙ ap (λ x. reading c q x) g

onto_some_part : (parts : List Node) (part : Pattern) (done : List Pattern) → latest_onto parts (part ∷ done) ≡ [] → ⊥
onto_some_part [] part done e = cc
onto_some_part (p ∷ parts) part done e = onto_some_part parts (tree_of p) (part ∷ done) e

pub no_parts : (parts : List Node) → latest_first parts ≡ [] → parts ≡ []
no_parts [] e = refl
no_parts (p ∷ parts) e = absurd (onto_some_part parts (tree_of p) [] e)

pub no_atom : (atom : Option Node) → atom_of atom ≡ None → atom ≡ None
no_atom None e = refl
no_atom (Some atom) e = absurd (cc)

groups_push : (groups : List OpenGroup) (g : OpenGroup) (done : List Group) → groups_onto (groups ++ g ∷ []) done ≡ group_of g ∷ groups_onto groups done
groups_push [] g done = refl
groups_push (h ∷ groups) g done = groups_push groups g (group_of h ∷ done)

pub latest_group : (groups : List OpenGroup) (g : OpenGroup) → groups_latest (groups ++ g ∷ []) ≡ group_of g ∷ groups_latest groups
latest_group groups g = groups_push groups g []

onto_some : (now : Group) (groups : List OpenGroup) (g : Group) (done : List Group) → at_end now (groups_onto groups (g ∷ done)) ≡ None
onto_some now [] g done = refl
onto_some now (h ∷ groups) g done = onto_some now groups (group_of h) (g ∷ done)

-- a group is left open
pub left_open : (now : Group) (groups : List OpenGroup) → 1 ≤ length groups → at_end now (groups_latest groups) ≡ None
left_open now [] l = absurd (omega arith)
left_open now (g ∷ groups) l = onto_some now groups (group_of g) []
