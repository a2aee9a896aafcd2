-- The marks of the nodes that the query selects are written into an empty text.
use Rattle.std.proofs.Common.{◌≡◌, ◌∙◌, ℕ, List, [], ◌∷◌, ◌++◌, ap, flat_map, map, refl}
use Rattle.jp_lines.specs.Views.{tree_of_view}
use Rattle.jp_model.specs.Meaning.Nodes.{root_node}
use Rattle.jp_model.specs.Meaning.Selecting.{nodes}
use Rattle.jp_nodes.specs.Cursors.{node_of}
use Rattle.jp_nodes.specs.declared.cursor.Cursor.{Cursor}
use Rattle.jp_types.specs.Checks.{checked_view}
use Rattle.jp_cli.specs.Marks.{mark}
use Rattle.jp_cli.proofs.marks.marks_in.Goals as goal

-- the texts of what some things show
flat_map-map : {X Y : Type 0} (f : Y → List ℕ) (g : X → Y) (xs : List X) → flat_map (λ x. f (g x)) xs ≡ flat_map f (map g xs)
flat_map-map f g [] = refl
flat_map-map f g (x ∷ xs) = ap (λ t. f (g x) ++ t) (flat_map-map f g xs)

pub returns-in-Ok : goal.returns-in-Ok
returns-in-Ok c =
    let t = tree_of_view c.args.line in
    let cursors : List Cursor = c.eval_from.new.out.items in
    let selected : map node_of cursors ≡ nodes (checked_view c.args.query.now) (root_node t ∷ []) t =
    rw (c.new-nodes.ensures.items, c.segments.ensures.value, c.root.ensures.node, c.root-2.ensures.node) at c.in_ok-eval_from.ensures.ok in
    ap (λ v. v.items) c.into_inner.ensures
    ∙ c.in-Ok.ensures.text.held
    ∙ ap (λ front. front ++ flat_map (λ (n : Cursor). mark (node_of n)) c.deref.result.now) (ap (λ v. v.items) c.new-marks.ensures.device ∙ c.new.ensures.items)
    ∙ ap (flat_map (λ (n : Cursor). mark (node_of n))) c.deref.ensures.value
    ∙ flat_map-map mark node_of cursors
    ∙ ap (flat_map mark) selected
