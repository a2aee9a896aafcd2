-- The parts of a node, as a row and as a list.
use mathlib.Core.Former.{Count}
use Rattle.std.proofs.Common.{◌≡◌, ℕ, zero, suc, ◌+◌, ◌<◌, ◌≤◌, List, [], ◌∷◌, ◌++◌, length, drop, take, get_or, arith, refl, sym, ◌∙◌, ap, add-one, drop-cons, Global, Vec, Result, Ok, Err, IfOk}
use Rattle.std.proofs.lemmas.List.{take_more}
use Rattle.jp_iregexp.specs.declared.node.Node.{Node, Sequence, Choice, Sequence', Choice', Row_of-Node, end_of-Node, more_of-Node, items-the_row-Node, items_hidden-the_row-Node-0}
use Rattle.jp_model.specs.Pattern.Tree.{followed_by, either_of}
use Rattle.jp_iregexp.specs.Nodes.{tree_of, sequence_of, choice_of, sequence_list, choice_list}

sequence_row : (n : _) (row : Row_of-Node n) → sequence_of row ≡ sequence_list (items-the_row-Node n row)
sequence_row n end_of-Node = refl
sequence_row n (more_of-Node part rest) = ap (followed_by (tree_of part)) (sequence_row _ rest)

choice_row : (n : _) (row : Row_of-Node n) → choice_of row ≡ choice_list (items-the_row-Node n row)
choice_row n end_of-Node = refl
choice_row n (more_of-Node part rest) = ap (either_of (tree_of part)) (choice_row _ rest)

-- the parts of a sequence or a choice
abbrev pub row_of : Node → (n : Count) × Row_of-Node n
row_of (Sequence' _ row) = (_, row)
row_of (Choice' _ row) = (_, row)
row_of _ = (_, end_of-Node)

pub tree_of_Sequence : (parts : Vec Node Global) → tree_of (Sequence parts) ≡ sequence_list parts.items
tree_of_Sequence parts =
    let row = row_of (Sequence parts) in
    sequence_row row.0 row.1 ∙ ap sequence_list (items_hidden-the_row-Node-0 parts)

pub tree_of_Choice : (parts : Vec Node Global) → tree_of (Choice parts) ≡ choice_list parts.items
tree_of_Choice parts =
    let row = row_of (Choice parts) in
    choice_row row.0 row.1 ∙ ap choice_list (items_hidden-the_row-Node-0 parts)

pub drop_item : (parts : List Node) (i : ℕ) (part : Node) → i < length parts → part ≡ get_or parts i part → drop i parts ≡ part ∷ drop (i + 1) parts
drop_item parts i part inside e = rw add-one (drop-cons parts i part inside ∙ ap (λ p. p ∷ drop (suc i) parts) (sym e))

pub drop_past : (parts : List Node) (i : ℕ) → length parts ≤ i → drop i parts ≡ []
drop_past [] zero l = refl
drop_past [] (suc i) l = refl
drop_past (part ∷ parts) zero l = absurd (omega arith)
drop_past (part ∷ parts) (suc i) l = drop_past parts i (omega arith)

pub take_item : (parts : List Node) (i : ℕ) (part : Node) → i < length parts → part ≡ get_or parts i part → take (i + 1) parts ≡ take i parts ++ part ∷ []
take_item parts i part l is = take_more parts i part l ∙ ap (λ p. take i parts ++ p ∷ []) (sym is)

-- what follows of each value of an `Ok`
pub if_ok_map : {A E : Type 0} (P Q : A → Type 0) (r : Result A E) → ((v : A) → P v → Q v) → IfOk r P → IfOk r Q
if_ok_map P Q (Ok v) f h = f v h
if_ok_map P Q (Err e) f h = tt
