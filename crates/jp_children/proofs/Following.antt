-- A singular path is followed step by step.
use Rattle.std.proofs.Common.{◌≡◌, ◌∙◌, ◌<◌, ◌+◌, ℕ, List, [], ◌∷◌, ◌++◌, length, map, drop, get_or, refl, sym, ap, append-nil}
use Rattle.std.proofs.lemmas.List.{drop_more}
use Rattle.jp_model.proofs.Seek.{no_nodes}
use Rattle.jp_model.specs.Json.Tree.{Tree}
use Rattle.jp_model.specs.Meaning.Nodes.{Node}
use Rattle.jp_model.specs.Meaning.Selecting.{nodes, select}
use Rattle.jp_model.specs.Query.Singular.{steps_query, step_selector}
use Rattle.jp_model.specs.Steps as model
use Rattle.jp_children.specs.Steps.{step_nodes}

pub select_is : (s : model.Step) (n : Node) (t : Tree) → select (step_selector s) n t ≡ step_nodes s n
select_is (model.name_step x) n t = refl
select_is (model.index_step i) n t = refl

-- one step, and then the others
one_step : (s : model.Step) (ss : List model.Step) (n : Node) (t : Tree) → nodes (steps_query (s ∷ ss)) (n ∷ []) t ≡ nodes (steps_query ss) (step_nodes s n) t
one_step s ss n t =
    ap (λ ns. nodes (steps_query ss) ns t)
    (append-nil (select (step_selector s) n t ++ []) ∙ (append-nil (select (step_selector s) n t) ∙ select_is s n t))

-- what all steps lead to, the others lead to from where the first one leads
pub follows : {A : Type 0} (view : A → model.Step) (all : List A) (i : ℕ) (d here : A) (n : Node) (next whole : List Node) (t : Tree) → i < length all → here ≡ get_or all i d → next ≡ step_nodes (view here) n
    → nodes (steps_query (map view (drop i all))) (n ∷ []) t ≡ whole → nodes (steps_query (map view (drop (i + 1) all))) next t ≡ whole
follows view all i d here n next whole t l same is e =
    let rest = map view (drop (i + 1) all) in
    ap (λ ns. nodes (steps_query rest) ns t) (is ∙ ap (λ u. step_nodes (view u) n) same)
    ∙ sym (one_step (view (get_or all i d)) rest n t)
    ∙ sym (ap (λ ss. nodes (steps_query (map view ss)) (n ∷ []) t) (drop_more all i d l))
    ∙ e

-- where a step leads to no child, the path has no node
pub no_child : {A : Type 0} (view : A → model.Step) (all : List A) (i : ℕ) (d here : A) (n : Node) (t : Tree) (whole : List Node) → i < length all → here ≡ get_or all i d → [] ≡ step_nodes (view here) n
    → nodes (steps_query (map view (drop i all))) (n ∷ []) t ≡ whole → [] ≡ whole
no_child view all i d here n t whole l same none e = sym (no_nodes (steps_query (map view (drop (i + 1) all))) t) ∙ follows view all i d here n [] whole t l same none e
