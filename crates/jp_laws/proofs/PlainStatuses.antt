-- The status of what the plain printer writes of a tree is that tree, but for where its parts stand.
use Rattle.std.proofs.Common.{◌≡◌, ℕ, ◌+◌, ◌≤◌, false, [], ◌∷◌, ◌++◌, length, Option, Some, None, refl, ap, ap₂}
use Rattle.jp_model.specs.declared.Framing.TheVariants.{Lines as in_lines, Sequence as in_sequence}
use Rattle.jp_model.specs.Json.Faults.{depth, has_duplicate}
use Rattle.jp_model.specs.Json.Status.{parsed, HasStatus}
use Rattle.jp_model.specs.Json.Tree.{Tree, node, Value, null, boolean, number, string, container, Children, no_child, child, Name}
use Rattle.jp_laws.specs.JsonTexts.{plain, label_text, tree_text, CanBeSaid, HasShortExponents, unplaced, unplaced_name, unplaced_value, unplaced_children}
use Rattle.jp_laws.proofs.JsonStatuses as by_printer
use Rattle.jp_laws.proofs.JsonTexts.{placed, placed_name, placed_value, placed_first, placed_more}
use Rattle.jp_laws.proofs.PlainTexts.{plain_readable, plain_mantissa, plain_scale, plain_short}

name_unplaced : (i : ℕ) (name : Option Name) → unplaced_name (placed_name plain i name) ≡ unplaced_name name
name_unplaced i None = refl
name_unplaced i (Some name) = refl

children_same : {a b : Option Name} {t u : Tree} {cs ds : Children} → a ≡ b → t ≡ u → cs ≡ ds → child a t cs ≡ child b u ds
children_same p q r = cc

mutual
  tree_unplaced : (t : Tree) (i : ℕ) → unplaced (placed plain i t) ≡ unplaced t
  tree_unplaced (node s v) i = ap (node (record { start = 0; end = 0 })) (value_unplaced v i)

  value_unplaced : (v : Value) (i : ℕ) → unplaced_value (placed_value plain i v) ≡ unplaced_value v
  value_unplaced null i = refl
  value_unplaced (boolean b) i = refl
  value_unplaced (number m e) i = ap₂ number (plain_mantissa m e) (plain_scale m e)
  value_unplaced (string x) i = refl
  value_unplaced (container kind cs) i = ap (container kind) (first_unplaced cs (i + 1))

  first_unplaced : (cs : Children) (i : ℕ) → unplaced_children (placed_first plain i cs) ≡ unplaced_children cs
  first_unplaced no_child i = refl
  first_unplaced (child name t more) i =
      children_same (name_unplaced i name) (tree_unplaced t (i + length (label_text plain name))) (more_unplaced more (i + length (label_text plain name) + length (tree_text plain t)))

  more_unplaced : (cs : Children) (i : ℕ) → unplaced_children (placed_more plain i cs) ≡ unplaced_children cs
  more_unplaced no_child i = refl
  more_unplaced (child name t more) i =
      children_same (name_unplaced (i + 1) name) (tree_unplaced t (i + 1 + length (label_text plain name))) (more_unplaced more (i + 1 + length (label_text plain name) + length (tree_text plain t)))

module _ (t : Tree) (said : CanBeSaid t) (short : HasShortExponents t) (shallow : depth t ≤ 512) (distinct : has_duplicate t ≡ false) where
  pub line_status : (u : Tree) × HasStatus in_lines (tree_text plain t) (parsed u) × (unplaced u ≡ unplaced t)
  line_status = (placed plain 0 t, by_printer.line_status plain plain_readable _ plain_short t said short shallow distinct, tree_unplaced t 0)

  pub sequence_status : (u : Tree) × HasStatus in_sequence (tree_text plain t ++ 0x0A ∷ []) (parsed u) × (unplaced u ≡ unplaced t)
  sequence_status = (placed plain 0 t, by_printer.sequence_status plain plain_readable _ plain_short t said short shallow distinct, tree_unplaced t 0)
