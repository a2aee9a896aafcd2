-- The members of an object as they are listed, with their nodes, and sorted by their names.
use Rattle.std.specs.Prelude.{◌≡◌, ℕ, ◌≤◌, ◌∷◌, ◌++◌, List, map, take, drop, All, IsSorted, IsPermutation}
use Rattle.jp_canon.specs.Canonical as canonical
use Rattle.jp_canon.specs.Canonical.{canonical_text, string_text, member_texts, by_name}
use Rattle.jp_model.specs.Json.Tree.{Children}
use Rattle.jp_nodes.specs.Cursors.{node_of}
use Rattle.jp_nodes.specs.Words.{node_count, children_node_count}
use Rattle.jp_values.specs.ByName.{points, by_name as name_order}
use Rattle.jp_values.specs.declared.member.Member.{Member}

-- a listed member with its text
abbrev pub with_text : Member → canonical.Member
with_text m = record { name = points m; text = string_text (points m) ++ 0x3A ∷ canonical_text (node_of m.node).tree }

-- the text of a listed member
abbrev pub text_of : Member → List ℕ
text_of m = (with_text m).text

-- a member has no more nodes than these children
abbrev pub IsWithin : Children → Member → Type 0
IsWithin children m = node_count (node_of m.node).tree ≤ children_node_count children

-- the members of an object were listed after others, in the order of the line
pub record AppendsMembers (old new : List Member) (children : Children) : Type 0 where
  pub part : List Member
  pub all : new ≡ old ++ part
  pub are : map with_text part ≡ member_texts children
  pub within : All (IsWithin children) part

-- they were listed in the order of their names
pub record AppendsByName (old new : List Member) (children : Children) : Type 0 where
  pub part : List Member
  pub all : new ≡ old ++ part
  pub are : map with_text part ≡ by_name (member_texts children)
  pub within : All (IsWithin children) part

-- the members from a position on were sorted by their names
pub record SortsFrom (from : ℕ) (old new : List Member) : Type 0 where
  pub part : List Member
  pub all : new ≡ take from old ++ part
  pub moved : IsPermutation (drop from old) part
  pub sorted : IsSorted name_order part
