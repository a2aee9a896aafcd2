-- The child is added where the slice selects it.
use Rattle.std.proofs.Common.{◌≡◌, ◌∙◌, ◌+◌, ◌++◌, ◌∷◌, [], List, ℕ, map, sym, ap, subst, append_assoc, Option, Some, Vec, Global, Bool}
use Rattle.std.proofs.lemmas.List.{map-append}
use Rattle.std.proofs.lemmas.List.Elements.{All-push, All-same}
use Rattle.jp_model.specs.Steps.{Step}
use Rattle.jp_model.specs.Meaning.Nodes.{Node, children_where}
use Rattle.jp_model.specs.Meaning.Slices.{is_index, downward}
use Rattle.jp_nodes.specs.declared.cursor.Cursor.{Cursor}
use Rattle.jp_nodes.specs.Cursors.{node_of, line_of}
use Rattle.jp_children.specs.Found.{AreOf}
use Rattle.jp_children.specs.Walks.{IsAt}
use Rattle.jp_children.proofs.Lines.{line_on, line_of_some}
use Rattle.jp_children.proofs.Walks.{at_next, chosen_from, chosen_here, passed_here}
use Rattle.jp_children.proofs.children.falling_elements.Goals as goal
use Rattle.jp_children.proofs.children.falling_elements.Goals.{then-has_falling+in_ok-push, else-has_falling}

more : (xs : List Cursor) (c : Cursor) (rest : List Node) → map node_of (xs ++ c ∷ []) ++ rest ≡ map node_of xs ++ (node_of c ∷ rest)
more xs c rest = ap (λ (l : List Node). l ++ rest) (map-append node_of xs (c ∷ [])) ∙ append_assoc (map node_of xs) (node_of c ∷ []) rest

pub loop-next-preserved : goal.loop-next-preserved
loop-next-preserved c =
    let n : Node = node_of c.args.node in
    let s = c.args.slice in
    let passes : Step → Bool = is_index (downward c.child_count-count.result s.first s.last s.step) in
    let i : ℕ = c.loop-next.index in
    let child : Cursor = c.in-Some.child in
    let next : Option Cursor = c.next_sibling-next.result in
    let old : List Cursor = c.loop-next.found.items in
    let kept = c.loop-next.invariant in
    let at : IsAt n i (Some child) = subst (λ (o : Option Cursor). IsAt n i o) c.in-Some.is kept.at in
    let told : map node_of old ++ chosen_from passes n i (Some child) ≡ children_where passes n = subst (λ (o : Option Cursor). map node_of old ++ chosen_from passes n i o ≡ children_where passes n) c.in-Some.is kept.told in
    let here : line_of child ≡ line_of c.args.node = line_of_some _ child _ c.in-Some.is kept.line in
    let now : (map node_of c.if-has_falling.found.items ++ chosen_from passes n (i + 1) next ≡ children_where passes n) × AreOf (line_of c.args.node) c.if-has_falling.found.items =
    elim c.if-has_falling.branch [
      | then-has_falling+in_ok-push w ↦
          (let grown : c.if-has_falling.found.items ≡ old ++ child ∷ [] = ap (λ (v : Vec Cursor Global). v.items) w.found-is ∙ w.in_ok-push.ensures.items in (
            ap (λ (xs : List Cursor). map node_of xs ++ chosen_from passes n (i + 1) next) grown
                ∙ (more old child (chosen_from passes n (i + 1) next)
                ∙ (ap (λ (l : List Node). map node_of old ++ l) (sym (chosen_here passes n i child next at c.next_sibling-next.ensures.children (sym c.has_falling.ensures ∙ w.if-has_falling.true))) ∙ told)),
            All-same (λ d. line_of d ≡ line_of c.args.node) c.if-has_falling.found.items (old ++ child ∷ []) grown (All-push (λ d. line_of d ≡ line_of c.args.node) old child kept.lines here),
          ))
      | else-has_falling w ↦
          (let same : c.if-has_falling.found.items ≡ old = ap (λ (v : Vec Cursor Global). v.items) w.found-is in (
            ap (λ (xs : List Cursor). map node_of xs ++ chosen_from passes n (i + 1) next) same
                ∙ (ap (λ (l : List Node). map node_of old ++ l) (sym (passed_here passes n i child next c.next_sibling-next.ensures.children (sym c.has_falling.ensures ∙ w.if-has_falling.false))) ∙ told),
            All-same (λ d. line_of d ≡ line_of c.args.node) c.if-has_falling.found.items old same kept.lines,
          ))
    ] in
    record {
      at = at_next n i child next at c.next_sibling-next.ensures.nodes c.next_sibling-next.ensures.children;
      told = now.0;
      lines = now.1;
      line = line_on next _ _ c.next_sibling-next.ensures.line here;
    }
