-- Nodes that are asked one after another, as far as they are wanted.
use Rattle.std.proofs.Common.{◌≡◌, ◌∙◌, ◌+◌, ◌-◌, ◌<◌, ◌≤◌, ℕ, List, [], ◌∷◌, ◌++◌, length, take, filter, flat_map, refl, sym, ap, append_assoc, arith, Bool, true, false, cond, if◌then◌else◌}
use Rattle.std.specs.Prelude.{zero, suc}
use Rattle.std.proofs.Math.Seq.{take-append_seam, take-append-add}
use Rattle.std.proofs.lemmas.List.{take_all}
use Rattle.std.proofs.lemmas.List.Concat.{flat_map-append, flat_map-cons}
use Rattle.std.proofs.lemmas.List.Elements.{filter-append}
use Rattle.jp_model.specs.Json.Tree.{Tree}
use Rattle.jp_model.specs.Meaning.Nodes.{Node}
use Rattle.jp_form.specs.declared.form.Form.{Form}
use Rattle.jp_sink.specs.Events.{Event}
use Rattle.jp_grep.specs.Matching.{is_selected}
use Rattle.jp_grep.specs.Rows.{asked_events, node_events}
use Rattle.jp_grep.specs.declared.question.Question.{Question}

module _ (q : Question) (f : Form) (n : ℕ) (line : List ℕ) (t : Tree) where
  -- the rows of the first nodes that are selected
  abbrev pub first_rows : ℕ → List Node → List Event
  first_rows most nodes = flat_map (node_events f.shown q f n line t) (take most (filter (is_selected q t) nodes))

  one_selected : (b : Bool) (node : Node) (nodes : List Node)
      → flat_map (node_events f.shown q f n line t) (cond b (node ∷ nodes) nodes) ≡ (if b then node_events f.shown q f n line t node else []) ++ flat_map (node_events f.shown q f n line t) nodes
  one_selected true node nodes = flat_map-cons (node_events f.shown q f n line t) node nodes
  one_selected false node nodes = refl

  -- those that are not selected have no rows
  rows_selected : (nodes : List Node) → flat_map (node_events f.shown q f n line t) (filter (is_selected q t) nodes) ≡ flat_map (asked_events q f n line t) nodes
  rows_selected [] = refl
  rows_selected (node ∷ nodes) =
      one_selected (is_selected q t node) node (filter (is_selected q t) nodes)
      ∙ ap (λ l. asked_events q f n line t node ++ l) (rows_selected nodes)
      ∙ sym (flat_map-cons (asked_events q f n line t) node nodes)

  -- no more are selected than are wanted
  pub all_wanted : (most : ℕ) (nodes : List Node) → length (filter (is_selected q t) nodes) ≤ most → first_rows most nodes ≡ flat_map (asked_events q f n line t) nodes
  all_wanted most nodes few = ap (flat_map (node_events f.shown q f n line t)) (take_all most (filter (is_selected q t) nodes) few) ∙ rows_selected nodes

  first_selected : (most : ℕ) (front rest : List Node) → length (filter (is_selected q t) front) ≡ most → take most (filter (is_selected q t) (front ++ rest)) ≡ filter (is_selected q t) front
  first_selected most front rest as_many =
      let chosen = filter (is_selected q t) front in
      let others = filter (is_selected q t) rest in
      ap (λ l. take most l) (filter-append (is_selected q t) front rest) ∙ ap (λ k. take k (chosen ++ others)) (sym as_many) ∙ take-append_seam chosen others

  -- as many are selected as are wanted, and those after them are left out
  pub enough_wanted : (most : ℕ) (front rest : List Node) → length (filter (is_selected q t) front) ≡ most → first_rows most (front ++ rest) ≡ flat_map (asked_events q f n line t) front
  enough_wanted most front rest as_many = ap (flat_map (node_events f.shown q f n line t)) (first_selected most front rest as_many) ∙ rows_selected front

  pub enough_count : (most : ℕ) (front rest : List Node) → length (filter (is_selected q t) front) ≡ most → length (take most (filter (is_selected q t) (front ++ rest))) ≡ most
  enough_count most front rest as_many = ap length (first_selected most front rest as_many) ∙ as_many

  pub all_count : (most : ℕ) (nodes : List Node) → length (filter (is_selected q t) nodes) ≤ most → length (take most (filter (is_selected q t) nodes)) ≡ length (filter (is_selected q t) nodes)
  all_count most nodes few = ap length (take_all most (filter (is_selected q t) nodes) few)

  next_selected : (b : Bool) (most : ℕ) (node : Node) (nodes : List Node) → 0 < most
      → (others : List Event) × (flat_map (node_events f.shown q f n line t) (take most (cond b (node ∷ nodes) nodes)) ≡ (if b then node_events f.shown q f n line t node else []) ++ others)
  next_selected true zero node nodes some = absurd (omega (arith, some))
  next_selected true (suc most) node nodes some = (flat_map (node_events f.shown q f n line t) (take most nodes), flat_map-cons (node_events f.shown q f n line t) node (take most nodes))
  next_selected false most node nodes some = (flat_map (node_events f.shown q f n line t) (take most nodes), refl)

  -- the rows of the next node come after those before it, where more are wanted
  pub next_wanted : (most : ℕ) (front : List Node) (node : Node) (rest : List Node) → length (filter (is_selected q t) front) < most
      → (others : List Event) × (first_rows most ((front ++ node ∷ []) ++ rest) ≡ (flat_map (asked_events q f n line t) front ++ asked_events q f n line t node) ++ others)
  next_wanted most front node rest fewer =
      let rows = flat_map (node_events f.shown q f n line t) in
      let chosen = filter (is_selected q t) front in
      let left : ℕ = most - length chosen in
      let next = next_selected (is_selected q t node) left node (filter (is_selected q t) rest) (omega (arith, fewer)) in (
        next.0,
        ap (λ (ns : List Node). rows (take most (filter (is_selected q t) ns))) (append_assoc front (node ∷ []) rest)
            ∙ ap (λ (ns : List Node). rows (take most ns)) (filter-append (is_selected q t) front (node ∷ rest))
            ∙ ap (λ k. rows (take k (chosen ++ filter (is_selected q t) (node ∷ rest)))) (sum most (length chosen) fewer)
            ∙ ap rows (take-append-add chosen (filter (is_selected q t) (node ∷ rest)) left)
            ∙ flat_map-append (node_events f.shown q f n line t) chosen (take left (filter (is_selected q t) (node ∷ rest)))
            ∙ ap (λ l. l ++ rows (take left (filter (is_selected q t) (node ∷ rest)))) (rows_selected front)
            ∙ ap (λ l. flat_map (asked_events q f n line t) front ++ l) next.1
            ∙ sym (append_assoc (flat_map (asked_events q f n line t) front) (asked_events q f n line t node) next.0),
      )
    where
      sum : (most count : ℕ) → count < most → most ≡ count + (most - count)
      sum most count fewer = omega (arith, fewer)
