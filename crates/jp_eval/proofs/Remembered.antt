-- What is known of nodes, with one node more.
use Rattle.std.proofs.Common.{◌≡◌, ◌∙◌, ℕ, [], ◌∷◌, List, Some, ◌⊎◌, inl, inr, subst, sym}
use Rattle.std.specs.BTreeMap.{get}
use Rattle.std.specs.Ordering.{nat_cmp}
use Rattle.jp_model.specs.Meaning.Selecting.{nodes}
use Rattle.jp_model.specs.Query.Syntax.{Segments}
use Rattle.jp_nodes.specs.declared.cursor.Cursor.{Cursor}
use Rattle.jp_nodes.specs.Cursors.{line_of, node_of, place_of}
use Rattle.jp_nodes.specs.Spots.{Spot}
use Rattle.jp_nodes.proofs.Cursors.{same_spot}
use Rattle.jp_eval.specs.Answers.{AreSums, tree_in}
use Rattle.jp_eval.specs.Tallies.{IsKnown}
use Rattle.jp_eval.specs.declared.frame.Run.{Run}
use Rattle.jp_eval.specs.declared.sums.Known.{Known}
use Rattle.jp_eval.specs.declared.sums.Sums.{Sums}

-- what is so of a node is so of the node at its place
same_known : (run : Run) (found : List Cursor) (most : ℕ) (ss : Segments) (node c : Cursor) (known : Known) → line_of c ≡ line_of node → place_of c ≡ place_of node
    → IsKnown (line_of run.root.now) found most (nodes ss (node_of node ∷ []) (tree_in run)) known → IsKnown (line_of run.root.now) found most (nodes ss (node_of c ∷ []) (tree_in run)) known
same_known run found most ss node c known l p h = subst (λ (s : Spot). IsKnown (line_of run.root.now) found most (nodes ss (s.node ∷ []) (tree_in run)) known) (sym (same_spot c node l p)) h

-- one node more
pub one_more_known : (run : Run) (found : List Cursor) (ss : Segments) (old new : Sums) (node : Cursor) (place : ℕ) (known : Known) → AreSums run found ss old → new.most ≡ old.most
    → ((other : ℕ) (it : Known) → get nat_cmp new.known other ≡ Some it → (get nat_cmp old.known other ≡ Some it) ⊎ ((other ≡ place) × (it ≡ known)))
    → line_of node ≡ line_of run.root.now → place ≡ place_of node → IsKnown (line_of run.root.now) found old.most (nodes ss (node_of node ∷ []) (tree_in run)) known → AreSums run found ss new
one_more_known run found ss old new node place known are m put l p is c it line at = subst (λ (k : ℕ). IsKnown (line_of run.root.now) found k (nodes ss (node_of c ∷ []) (tree_in run)) it) (sym m) (by (put (place_of c) it at))
  where
    by : (get nat_cmp old.known (place_of c) ≡ Some it) ⊎ ((place_of c ≡ place) × (it ≡ known)) → IsKnown (line_of run.root.now) found old.most (nodes ss (node_of c ∷ []) (tree_in run)) it
    by (inl before) = are c it line before
    by (inr here) =
        subst (λ (k : Known). IsKnown (line_of run.root.now) found old.most (nodes ss (node_of c ∷ []) (tree_in run)) k) (sym here.1)
        (same_known run found old.most ss node c known (line ∙ sym l) (here.0 ∙ p) is)
