-- The pattern that a part of the program's tree stands for.
use Rattle.std.specs.Prelude.{ℕ, ◌+◌, List, [], ◌∷◌, map, Option, Some, None}
use Rattle.jp_iregexp.specs.declared.class.Property.{Property}
use Rattle.jp_iregexp.specs.declared.class.Property.TheVariants.{Group as GroupProperty, Category as CategoryProperty}
use Rattle.jp_iregexp.specs.declared.class.Item.{Item}
use Rattle.jp_iregexp.specs.declared.class.Item.TheVariants.{Range as RangeItem, With as WithItem, Without as WithoutItem}
use Rattle.jp_iregexp.specs.declared.class.Class.{Class}
use Rattle.jp_iregexp.specs.declared.class.Class.TheVariants.{Dot as DotClass, Members as MembersClass}
use Rattle.jp_iregexp.specs.declared.node.Node.{Node, Class as ClassNode, Sequence', Choice', Repeated', Row_of-Node, end_of-Node, more_of-Node}
use Rattle.jp_model.specs.Pattern.Tree.{Property as TreeProperty, category_group, one_category, Item as TreeItem, range, with_property, without_property, CharClass, dot, members, Pattern, one_of, empty, followed_by, never, either_of, times}

-- a property of scalars
abbrev pub property_of : Property → TreeProperty
property_of (GroupProperty group) = category_group group
property_of (CategoryProperty category) = one_category category

-- an item of a class
abbrev pub item_of : Item → TreeItem
item_of (RangeItem first last) = range first last
item_of (WithItem property) = with_property (property_of property)
item_of (WithoutItem property) = without_property (property_of property)

-- a class
abbrev pub class_of : Class → CharClass
class_of DotClass = dot
class_of (MembersClass negated items) = members negated (map item_of items.items)

-- the greatest number of turns, where `further` turns may follow the least number
abbrev pub most_of : ℕ → Option ℕ → Option ℕ
most_of least None = None
most_of least (Some further) = Some (least + further)

-- `further` turns; without a bound, as many as a text of this length has scalars
abbrev pub turns_of : ℕ → Option ℕ → ℕ
turns_of len None = len
turns_of len (Some further) = further

abbrev mutual
  pub tree_of : Node → Pattern
  tree_of (ClassNode c) = one_of (class_of c)
  tree_of (Sequence' shape parts) = sequence_of parts
  tree_of (Choice' shape parts) = choice_of parts
  tree_of (Repeated' p body least further number length) = times (tree_of body) least (most_of least further)

  pub sequence_of : {m : _} → Row_of-Node m → Pattern
  sequence_of end_of-Node = empty
  sequence_of (more_of-Node part rest) = followed_by (tree_of part) (sequence_of rest)

  pub choice_of : {m : _} → Row_of-Node m → Pattern
  choice_of end_of-Node = never
  choice_of (more_of-Node part rest) = either_of (tree_of part) (choice_of rest)

-- the same of a list of parts
abbrev pub sequence_list : List Node → Pattern
sequence_list [] = empty
sequence_list (part ∷ rest) = followed_by (tree_of part) (sequence_list rest)

-- the same of a choice
abbrev pub choice_list : List Node → Pattern
choice_list [] = never
choice_list (part ∷ rest) = either_of (tree_of part) (choice_list rest)
