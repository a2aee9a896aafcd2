-- The query of a node's location selects that node.
use Rattle.std.proofs.Common.{◌≡◌, ℕ, ◌+◌, ◌≤◌, List, [], ◌∷◌, ◌++◌, length, map, flat_map, filter, Bool, true, false, cond, nat_lt, chars, Option, Some, None, refl, sym, ap, subst, ◌∙◌, append-nil, arith}
use Rattle.std.proofs.lemmas.Bool.{and_from, le-leb}
use Rattle.std.proofs.lemmas.Slice.Eq.{bytes_eq-Decides}
use Rattle.jp_model.specs.Json.Faults.{has_duplicate, depth, has_surrogate, has_long_exponent, is_truncated}
use Rattle.jp_model.specs.Json.Tree.{Tree, Value, null, boolean, number, string, container, Children, no_child, child, Name, value_of}
use Rattle.jp_model.specs.Meaning.Nodes.{Node, root_node, child_of, children, step_to, steps_from, steps_in, subtree}
use Rattle.jp_model.specs.Meaning.Selecting.{nodes, selected, select}
use Rattle.jp_model.specs.Meaning.Slices.{is_name, is_index}
use Rattle.jp_model.specs.Query.Singular.{steps_query, step_selector}
use Rattle.jp_model.specs.Query.Syntax.{no_selectors, selector}
use Rattle.jp_model.specs.Steps.{Step, name_step, index_step, same_int}
use Rattle.jp_model.specs.declared.Framing.{Framing}
use Rattle.jp_model.specs.declared.LineFault.{LineFault}
use Rattle.jp_model.specs.declared.LineFault.TheVariants.{Truncated, Depth, Surrogate, Number, Duplicate}
use Rattle.jp_model.specs.Json.Spelling.{Text}
use Rattle.jp_model.specs.Json.Status.{parsed, HasStatus}
use Rattle.jp_model.specs.Meaning.Paths.{path_text}
use Rattle.jp_model.specs.Query.Limits.{is_oversized}
use Rattle.jp_model.specs.Query.Spelling.{SpellsQuery}
use Rattle.jp_model.specs.Query.Status.{TextSpells, fault_of_query, query, HasQueryStatus}
use Rattle.jp_query.proofs.Statuses.{one_tree}
use Rattle.jp_laws.proofs.Locations.{IsShown, line_shown, location_shown}
use Rattle.jp_laws.proofs.PathTexts.{path_spelled, path_sound}
use Rattle.jp_laws.proofs.Reached.{Each}
use Rattle.jp_laws.specs.Nodes.{IsAmong, first_of, later_of, IsWithin, itself, child_of_one}
use Rattle.jp_laws.proofs.Descendants.{each_among, within_among}
use Rattle.jp_laws.proofs.Distinct.{IsDistinct, subtree_distinct}
use Rattle.jp_laws.proofs.SingularNodes.{few_selected}
use Rattle.jp_laws.proofs.SliceLoops.{indexed_is}

nodes_append : (a b : List Step) (list : List Node) (t : Tree) → nodes (steps_query (a ++ b)) list t ≡ nodes (steps_query b) (nodes (steps_query a) list t) t
nodes_append [] b list t = refl
nodes_append (s ∷ a) b list t = nodes_append a b (flat_map (λ n. selected (selector (step_selector s) no_selectors) n t) list) t

-- the step is this one
abbrev passes : Step → Step → Bool
passes (name_step x) = is_name x
passes (index_step i) = is_index (same_int i)

passes_itself : (p : ℕ) (name : Option Name) → passes (step_to p name) (step_to p name) ≡ true
passes_itself p None = and_from _ _ (le-leb p p (omega arith)) (le-leb p p (omega arith))
passes_itself p (Some name) = (bytes_eq-Decides name.points name.points).1 refl

-- the children by a step
abbrev by_step : Node → Step → List (Step × Tree) → List Node
by_step n s ps = map (child_of n) (filter (λ q. passes s q.0) ps)

abbrev Found : Node → Node → List (Step × Tree) → Type 0
Found n c ps = (p : ℕ) × (name : Option Name) × (c.location ≡ n.location ++ step_to p name ∷ []) × IsAmong c (by_step n (step_to p name) ps)

kids_found : (n : Node) (p : ℕ) (cs : Children) (c : Node) → IsAmong c (map (child_of n) (steps_from p cs)) → Found n c (steps_from p cs)
kids_found n p no_child c h = elim h [ ]
kids_found n p (child name t more) c first_of = (p, name, refl, rw (passes_itself p name) first_of)
kids_found n p (child name t more) c (later_of h) = later (kids_found n (p + 1) more c h)
  where
    later : Found n c (steps_from (p + 1) more) → Found n c (steps_from p (child name t more))
    later f = (f.0, f.1, f.2, step (passes (step_to f.0 f.1) (step_to p name)))
      where
        step : (b : Bool) → IsAmong c (map (child_of n) (cond b ((step_to p name, t) ∷ filter (λ q. passes (step_to f.0 f.1) q.0) (steps_from (p + 1) more)) (filter (λ q. passes (step_to f.0 f.1) q.0) (steps_from (p + 1) more))))
        step true = later_of f.3
        step false = f.3

steps_found : (n : Node) (v : Value) (c : Node) → IsAmong c (map (child_of n) (steps_in v)) → Found n c (steps_in v)
steps_found n null c h = elim h [ ]
steps_found n (boolean b) c h = elim h [ ]
steps_found n (number m e) c h = elim h [ ]
steps_found n (string x) c h = elim h [ ]
steps_found n (container kind cs) c h = kids_found n 0 cs c h

selects_step : (n : Node) (t : Tree) (p : ℕ) (name : Option Name) → by_step n (step_to p name) (steps_in (value_of n.tree)) ≡ select (step_selector (step_to p name)) n t
selects_step n t p None = indexed_is n p
selects_step n t p (Some name) = refl

only_one : (c : Node) (l : List Node) → IsAmong c l → length l ≤ 1 → l ≡ c ∷ []
only_one c [] h f = elim h [ ]
only_one c (x ∷ []) first_of f = refl
only_one c (x ∷ []) (later_of h) f = elim h [ ]
only_one c (x ∷ y ∷ l) h f = absurd (omega arith)

one_step : (m c : Node) (t : Tree) → IsDistinct m → IsAmong c (children m) → (s : Step) × (c.location ≡ m.location ++ s ∷ []) × (nodes (steps_query (s ∷ [])) (m ∷ []) t ≡ c ∷ [])
one_step m c t d h =
    let f = steps_found m (value_of m.tree) c h in
    let s : Step = step_to f.0 f.1 in
    let among : IsAmong c (select (step_selector s) m t) = subst (IsAmong c) (selects_step m t f.0 f.1) f.3 in
    (s, f.2, append-nil _ ∙ (append-nil _ ∙ only_one c (select (step_selector s) m t) among (few_selected s m t d)))

pub way_back : (t : Tree) (n : Node) → has_duplicate t ≡ false → IsWithin (root_node t) n → nodes (steps_query n.location) (root_node t ∷ []) t ≡ n ∷ []
way_back t n d itself = refl
way_back t n d (child_of_one {m = m} w a) =
    let distinct : IsDistinct m = each_among IsDistinct m (subtree (root_node t)) (subtree_distinct (root_node t) d) (within_among (root_node t) m w) in
    let o = one_step m n t distinct a in
    ap (λ l. nodes (steps_query l) (root_node t ∷ []) t) o.1
    ∙ (nodes_append m.location (o.0 ∷ []) (root_node t ∷ []) t ∙ (ap (λ l. nodes (steps_query (o.0 ∷ [])) l t) (way_back t m d w) ∙ o.2))

-- ---- of a line

pub no_fault : (a : Bool) (fault : LineFault) (rest : Option LineFault) → cond a (Some fault) rest ≡ None → (a ≡ false) × (rest ≡ None)
no_fault true fault rest h = absurd (cc)
no_fault false fault rest h = (refl, h)

-- a line's tree is spelled, and has neither a lone surrogate nor equal names
pub parsed_sound : (f : Framing) (line : List ℕ) (t : Tree) → HasStatus f line (parsed t) → Text line t × (has_surrogate t ≡ false) × (has_duplicate t ≡ false)
parsed_sound f line t h =
    let a = no_fault (is_truncated f line t) Truncated _ h.2 in
    let b = no_fault (nat_lt 512 (depth t)) Depth _ a.1 in
    let c = no_fault (has_surrogate t) Surrogate _ b.1 in
    let d = no_fault (has_long_exponent line t) Number _ c.1 in
    let e = no_fault (has_duplicate t) Duplicate None d.1 in
    (h.1, c.0, e.0)

module _ (f : Framing) (line : List ℕ) (t : Tree) (status : HasStatus f line (parsed t)) (short : length line ≤ 9007199254740991) where
  shown : (n : Node) → IsWithin (root_node t) n → Each IsShown n.location
  shown n w = let s = parsed_sound f line t status in location_shown t n (line_shown line short t (s.0).value s.1) w

  pub row_spelled : (n : Node) → IsWithin (root_node t) n → TextSpells (path_text n.location) (steps_query n.location)
  row_spelled n w = path_spelled n.location (shown n w)

  pub row_sound : (n : Node) → IsWithin (root_node t) n → fault_of_query (steps_query n.location) ≡ None
  row_sound n w = path_sound n.location (shown n w)

  pub row_status : (n : Node) → IsWithin (root_node t) n → is_oversized (path_text n.location) ≡ false → HasQueryStatus (path_text n.location) (query (steps_query n.location))
  row_status n w o = (o, row_spelled n w, row_sound n w)

  row_selects : (n : Node) → IsWithin (root_node t) n → nodes (steps_query n.location) (root_node t ∷ []) t ≡ n ∷ []
  row_selects n w = way_back t n (parsed_sound f line t status).2 w

  same_first : (m n : Node) → m ∷ [] ≡ n ∷ [] → m ≡ n
  same_first m n e = cc

  pub one_node : (m n : Node) → IsWithin (root_node t) m → IsWithin (root_node t) n → path_text m.location ≡ path_text n.location → m ≡ n
  one_node m n v w e =
      let other : SpellsQuery (chars (path_text m.location)) (steps_query n.location) = subst (λ x. SpellsQuery (chars x) (steps_query n.location)) (sym e) (row_spelled n w).1 in
      let same : steps_query m.location ≡ steps_query n.location = one_tree (chars (path_text m.location)) (steps_query m.location) (steps_query n.location) (row_spelled m v).1 other in
      same_first m n (sym (row_selects m v) ∙ (ap (λ q. nodes q (root_node t ∷ []) t) same ∙ row_selects n w))
