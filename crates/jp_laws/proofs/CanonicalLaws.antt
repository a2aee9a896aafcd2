-- Canonical text tells values apart exactly where they are not equal, and says the value.
use Rattle.std.proofs.Common.{◌≡◌, ◌↔◌, ℕ, ◌+◌, ◌≤◌, List, length, true, false, arith, Option, Some, None, refl, sym, subst, ◌∙◌}
use Rattle.std.specs.Cmp.{IsTotalOrder}
use Rattle.jp_canon.specs.Canonical.{canonical_text, value_text}
use Rattle.jp_decimal.specs.Values.{order}
use Rattle.jp_model.specs.declared.Framing.{Framing}
use Rattle.jp_model.specs.declared.Framing.TheVariants.{Lines as in_lines}
use Rattle.jp_model.specs.Json.Faults.{depth, value_has_duplicate}
use Rattle.jp_model.specs.Json.Spelling.{Text}
use Rattle.jp_model.specs.Json.Status.{parsed, HasStatus}
use Rattle.jp_model.specs.Json.Tree.{Tree, node, Value, null, boolean, number, string, container, Children, no_child, child, Name, value_of}
use Rattle.jp_model.specs.Meaning.Compare.{compared, values_equal}
use Rattle.jp_model.specs.Meaning.Nodes.{Node, root_node}
use Rattle.jp_model.specs.Query.Syntax.{equal}
use Rattle.jp_laws.specs.Alike.{AlikeNames, unnamed, named_alike, AlikeTrees, alike_trees, AlikeValues, alike_nulls, alike_booleans, alike_numbers, alike_strings, alike_containers, AlikeChildren, no_more, next_child}
use Rattle.jp_laws.specs.JsonTexts.{label_text, tree_text, CanBeSaid, CanBeValue, HasNumbers}
use Rattle.jp_laws.specs.Nodes.{IsWithin}
use Rattle.jp_laws.specs.Ordered.{is_ordered}
use Rattle.jp_laws.specs.Powers.{HasShortPower}
use Rattle.jp_laws.specs.Values.{is_plain}
use Rattle.jp_laws.proofs.AlikeValues.{equal_alike}
use Rattle.jp_laws.proofs.CanonicalEquals.{one_text}
use Rattle.jp_laws.proofs.CanonicalNumerals.{said, said_equal}
use Rattle.jp_laws.proofs.CanonicalOrder.{tree_ordered, placed_ordered}
use Rattle.jp_laws.proofs.CanonicalShapes.{tree_said, tree_numbers, tree_depth, tree_duplicate, value_duplicate}
use Rattle.jp_laws.proofs.CanonicalTexts.{canonical, canonical_readable}
use Rattle.jp_laws.proofs.CanonicalTrees.{sorted, sorted_value, tree_printed, value_reordered}
use Rattle.jp_laws.proofs.JsonStatuses as status
use Rattle.jp_laws.proofs.JsonTexts.{placed, placed_name, placed_value, placed_first, placed_more}
use Rattle.jp_laws.proofs.NumberOrder.{number_itself}
use Rattle.jp_laws.proofs.PlainSides.{node_plain}
use Rattle.jp_laws.proofs.ReorderedValues.{equal_values}
use Rattle.jp_laws.proofs.SayableNodes.{node_sayable}
use Rattle.jp_laws.proofs.ValueEquality.{Plain, back, itself, on, plain_value, tree_members}

-- the tree that a canonical text spells
abbrev said_tree : Tree → Tree
said_tree t = placed canonical 0 (sorted t)

abbrev said_value : Value → Value
said_value v = placed_value canonical 0 (sorted_value v)

text_says : (t : Tree) → CanBeSaid t → Text (canonical_text t) (said_tree t)
text_says t h = subst (λ line. Text line (said_tree t)) (sym (tree_printed t)) (status.text_alone canonical canonical_readable (sorted t) (tree_said t h))

-- ---- numbers are equal as they are spelled

names_alike : (name : Option Name) → AlikeNames name name
names_alike None = unnamed
names_alike (Some name) = named_alike refl

placed_alike : (i : ℕ) (name : Option Name) → AlikeNames name (placed_name canonical i name)
placed_alike i None = unnamed
placed_alike i (Some name) = named_alike refl

module _ (order_total : IsTotalOrder order) where
  mutual
    tree_itself : (t : Tree) → AlikeTrees t t
    tree_itself (node s v) = alike_trees (value_itself v)

    value_itself : (v : Value) → AlikeValues v v
    value_itself null = alike_nulls
    value_itself (boolean b) = alike_booleans
    value_itself (number m e) = alike_numbers (number_itself order_total m e)
    value_itself (string x) = alike_strings
    value_itself (container kind cs) = alike_containers (children_itself cs)

    children_itself : (cs : Children) → AlikeChildren cs cs
    children_itself no_child = no_more
    children_itself (child name t more) = next_child (names_alike name) (tree_itself t) (children_itself more)

  mutual
    tree_alike : (t : Tree) (i : ℕ) → AlikeTrees t (placed canonical i t)
    tree_alike (node s v) i = alike_trees (value_alike v i)

    value_alike : (v : Value) (i : ℕ) → AlikeValues v (placed_value canonical i v)
    value_alike null i = alike_nulls
    value_alike (boolean b) i = alike_booleans
    value_alike (number m e) i = alike_numbers (said_equal order_total m e)
    value_alike (string x) i = alike_strings
    value_alike (container kind cs) i = alike_containers (first_alike cs (i + 1))

    first_alike : (cs : Children) (i : ℕ) → AlikeChildren cs (placed_first canonical i cs)
    first_alike no_child i = no_more
    first_alike (child name t more) i =
        next_child (placed_alike i name) (tree_alike t (i + length (label_text canonical name))) (more_alike more (i + length (label_text canonical name) + length (tree_text canonical t)))

    more_alike : (cs : Children) (i : ℕ) → AlikeChildren cs (placed_more canonical i cs)
    more_alike no_child i = no_more
    more_alike (child name t more) i =
        next_child (placed_alike (i + 1) name) (tree_alike t (i + 1 + length (label_text canonical name))) (more_alike more (i + 1 + length (label_text canonical name) + length (tree_text canonical t)))

  -- ---- what is spelled is the value

  placed_equal : (v : Value) → value_has_duplicate v ≡ false → values_equal v (placed_value canonical 0 v) ≡ true
  placed_equal v d = sym (equal_alike order_total (value_itself v) (value_alike v 0)) ∙ itself order_total v d

  said_is : (v : Value) → CanBeValue v → value_has_duplicate v ≡ false → values_equal v (said_value v) ≡ true
  said_is v h d = on order_total v (sorted_value v) (said_value v) (equal_values order_total (value_reordered v h) d (value_duplicate v d)) (placed_equal (sorted_value v) (value_duplicate v d))

  said_plain : (v : Value) → CanBeValue v → value_has_duplicate v ≡ false → Plain (said_value v)
  said_plain v h d =
      let t : Tree = node (record { start = 0; end = 0 }) v in
      record { distinct = status.value_duplicate canonical (sorted_value v) 0 ∙ value_duplicate v d; members = tree_members (value_text v) (said_tree t) (text_says t h).value }

  -- ---- one text, one value

  module _ (one_tree : (line : List ℕ) (t u : Tree) → Text line t → Text line u → u ≡ t) where
    same_value : (v w : Value) → CanBeValue v → CanBeValue w → Plain v → Plain w → value_text v ≡ value_text w → values_equal v w ≡ true
    same_value v w h g p q e =
        let t : Tree = node (record { start = 0; end = 0 }) v in
        let u : Tree = node (record { start = 0; end = 0 }) w in
        let one : said_tree u ≡ said_tree t = one_tree (value_text v) (said_tree t) (said_tree u) (text_says t h) (subst (λ line. Text line (said_tree u)) (sym e) (text_says u g)) in
        let back_from : values_equal (said_value w) w ≡ true = back order_total w (said_value w) q (said_plain w g q.distinct) (said_is w g q.distinct) in
        on order_total v (said_value v) w (said_is v h p.distinct) (subst (λ (x : Tree). values_equal (value_of x) w ≡ true) one back_from)

    pub values_told : (v w : Value) → CanBeValue v → CanBeValue w → is_plain (Some v) ≡ true → is_plain (Some w) ≡ true → (value_text v ≡ value_text w) ↔ (compared equal (Some v) (Some w) ≡ true)
    values_told v w h g p q =
        let a = plain_value order_total v p in
        let b = plain_value order_total w q in
        ((λ e. same_value v w h g a b e), (λ e. one_text order_total v w a b e))

    trees_told : (t u : Tree) → CanBeSaid t → CanBeSaid u → is_plain (Some (value_of t)) ≡ true → is_plain (Some (value_of u)) ≡ true → (canonical_text t ≡ canonical_text u) ↔ (compared equal (Some (value_of t)) (Some (value_of u)) ≡ true)
    trees_told (node s v) (node r w) h g p q = values_told v w h g p q

    pub nodes_told : (f g : Framing) (line other : List ℕ) (t u : Tree) → HasStatus f line (parsed t) → HasStatus g other (parsed u) → (n m : Node) → IsWithin (root_node t) n → IsWithin (root_node u) m
        → (canonical_text n.tree ≡ canonical_text m.tree) ↔ (compared equal (Some (value_of n.tree)) (Some (value_of m.tree)) ≡ true)
    nodes_told f g line other t u h k n m i j =
        trees_told n.tree m.tree (node_sayable f line t h n i).said (node_sayable g other u k m j).said (node_plain f line t h n i) (node_plain g other u k m j)

    -- ---- the text of the text

    says : (t : Tree) → CanBeSaid t → is_plain (Some (value_of t)) ≡ true → (u : Tree) × Text (canonical_text t) u × (compared equal (Some (value_of u)) (Some (value_of t)) ≡ true) × (canonical_text u ≡ canonical_text t)
    says (node s v) h p =
        let a = plain_value order_total v p in
        let b = said_plain v h a.distinct in
        let e = back order_total v (said_value v) a b (said_is v h a.distinct) in
        (said_tree (node s v), text_says (node s v) h, e, one_text order_total (said_value v) v b a e)

    pub node_says : (f : Framing) (line : List ℕ) (t : Tree) → HasStatus f line (parsed t) → (n : Node) → IsWithin (root_node t) n
        → (u : Tree) × Text (canonical_text n.tree) u × (compared equal (Some (value_of u)) (Some (value_of n.tree)) ≡ true) × (canonical_text u ≡ canonical_text n.tree)
    node_says f line t h n i = says n.tree (node_sayable f line t h n i).said (node_plain f line t h n i)

    status_says : (t u : Tree) → CanBeSaid t → depth t ≤ 512 → is_plain (Some (value_of t)) ≡ true → HasNumbers HasShortPower t → Text (canonical_text t) u → HasStatus in_lines (canonical_text t) (parsed u)
    status_says (node s v) u h l p short text =
        let t : Tree = node s v in
        let distinct = tree_duplicate t (plain_value order_total v p).distinct in
        let depth_kept = tree_depth t in
        let now = status.line_status canonical canonical_readable HasShortPower (λ m e. (said m e).short) (sorted t) (tree_said t h) (tree_numbers HasShortPower t short) (omega arith) distinct in
        subst (λ x. HasStatus in_lines (canonical_text t) (parsed x)) (sym (one_tree (canonical_text t) (said_tree t) u (text_says t h) text)) (subst (λ line. HasStatus in_lines line (parsed (said_tree t))) (sym (tree_printed t)) now)

    pub node_status : (f : Framing) (line : List ℕ) (t : Tree) → HasStatus f line (parsed t) → (n : Node) → IsWithin (root_node t) n → HasNumbers HasShortPower n.tree → (u : Tree) → Text (canonical_text n.tree) u → HasStatus in_lines (canonical_text n.tree) (parsed u)
    node_status f line t h n i short u text = let s = node_sayable f line t h n i in status_says n.tree u s.said s.shallow (node_plain f line t h n i) short text

    order_says : (t u : Tree) → CanBeSaid t → is_plain (Some (value_of t)) ≡ true → Text (canonical_text t) u → is_ordered u ≡ true
    order_says (node s v) u h p text =
        let t : Tree = node s v in
        subst (λ x. is_ordered x ≡ true) (sym (one_tree (canonical_text t) (said_tree t) u (text_says t h) text)) (placed_ordered canonical (sorted t) 0 ∙ tree_ordered t (plain_value order_total v p).distinct)

    pub node_order : (f : Framing) (line : List ℕ) (t : Tree) → HasStatus f line (parsed t) → (n : Node) → IsWithin (root_node t) n → (u : Tree) → Text (canonical_text n.tree) u → is_ordered u ≡ true
    node_order f line t h n i u text = order_says n.tree u (node_sayable f line t h n i).said (node_plain f line t h n i) text
