-- What is put together answers part by part.
use Rattle.std.proofs.Common.{◌≡◌, ℕ, ◌+◌, ◌-◌, ◌<◌, ◌≤◌, List, [], ◌∷◌, ◌++◌, length, map, flat_map, drop, Bool, true, false, eq-eqb, refl, sym, ap, ap₂, ◌∙◌, arith, append-nil, append_assoc}
use Rattle.std.specs.List.{onto_first}
use Rattle.std.proofs.lemmas.List.{map-append}
use Rattle.std.proofs.lemmas.List.Splits.{slice_split-cons_yes, slice_split-cons_no}
use Rattle.jp_model.specs.declared.Span.{Span}
use Rattle.jp_model.specs.Json.Spelling.{Text}
use Rattle.jp_model.specs.Json.Status.{LineStatus, blank, refused, parsed}
use Rattle.jp_model.specs.Json.Tree.{Tree, node, Value, null, boolean, number, string, container, Container, Children, no_child, child, span}
use Rattle.jp_model.specs.Lines.{is_separator, pieces, line_unless_empty, sequence_texts, without_empty}
use Rattle.jp_model.specs.Meaning.Nodes.{Node, root_node, child_of, step_to, steps_from, subtree, subtree_at, below, below_from}
use Rattle.jp_model.specs.Meaning.Selecting.{nodes, selected, select, segment_nodes}
use Rattle.jp_model.specs.Query.Syntax.{Segments, no_segments, segment, Selectors, no_selectors, selector}
use Rattle.jp_model.specs.Rows.{Row, rows, rows_from, status_rows, node_row}
use Rattle.jp_model.specs.Steps.{Step}
use Rattle.jp_model.proofs.Pieces.{pieces_some}
use Rattle.jp_laws.specs.Nodes.{IsAmong, first_of, later_of, IsWithin, itself, child_of_one}
use Rattle.jp_laws.specs.Queries.{BeginsInTurn, IsBefore, beside, children_by, continued, lines_later}
use Rattle.jp_laws.specs.Spans.{StandInOrder}
use Rattle.jp_laws.proofs.EqualNames.{within_within}
use Rattle.jp_laws.proofs.Locations.{tree_sized}
use Rattle.jp_laws.proofs.Moved.{in_order, node_spelled}
use Rattle.jp_laws.proofs.Reached.{Each, each_append, each_weaker}

-- ---- segments and selectors

pub goes_on : (a b : Segments) (list : List Node) (t : Tree) → nodes (continued a b) list t ≡ nodes b (nodes a list t) t
goes_on no_segments b list t = refl
goes_on (segment s a) b list t = goes_on a b (flat_map (λ n. segment_nodes s n t) list) t

selected_in_turn : (a b : Selectors) (n : Node) (t : Tree) → selected (beside a b) n t ≡ selected a n t ++ selected b n t
selected_in_turn no_selectors b n t = refl
selected_in_turn (selector s a) b n t = ap (λ ns. select s n t ++ ns) (selected_in_turn a b n t) ∙ sym (append_assoc (select s n t) (selected a n t) (selected b n t))

pub in_turn : (a b : Selectors) (n : Node) (t : Tree) → nodes (children_by (beside a b)) (n ∷ []) t ≡ nodes (children_by a) (n ∷ []) t ++ nodes (children_by b) (n ∷ []) t
in_turn a b n t =
    append-nil (selected (beside a b) n t) ∙ (selected_in_turn a b n t ∙ sym (ap₂ (λ (x y : List Node). x ++ y) (append-nil (selected a n t)) (append-nil (selected b n t))))

-- ---- where descendants begin

abbrev start_of : Node → ℕ
start_of n = (span n.tree).start

-- a node begins between two positions
abbrev Begins : ℕ → ℕ → Node → Type 0
Begins i j n = (i ≤ start_of n) × (start_of n < j)

before_all : (n : Node) (i j : ℕ) → start_of n < i → (ms : List Node) → Each (Begins i j) ms → IsBefore n ms
before_all n i j l [] a = tt
before_all n i j l (m ∷ ms) a = let b = a.0.0 in (omega arith, before_all n i j l ms a.1)

before_append : (n : Node) (xs ys : List Node) → IsBefore n xs → IsBefore n ys → IsBefore n (xs ++ ys)
before_append n [] ys h g = g
before_append n (x ∷ xs) ys h g = (h.0, before_append n xs ys h.1 g)

turn_append : (i j k : ℕ) (xs ys : List Node) → Each (Begins i j) xs → Each (Begins j k) ys → BeginsInTurn xs → BeginsInTurn ys → BeginsInTurn (xs ++ ys)
turn_append i j k [] ys a b h g = g
turn_append i j k (x ∷ xs) ys a b h g = (before_append x xs ys h.0 (before_all x j k a.0.1 ys b), turn_append i j k xs ys a.1 b h.1 g)

order_bound : (i j : ℕ) (cs : Children) → StandInOrder i j cs → i ≤ j
order_bound i j no_child h = h
order_bound i j (child name t more) h = let o = order_bound (span t).end j more h.2 in let a = h.0 in let b = h.1 in omega arith

abbrev kids : Node → ℕ → Children → List Node
kids n p cs = map (child_of n) (steps_from p cs)

-- the children of each container below a node stand between its brackets, in order
abbrev ChildrenInOrder : Node → Type 0
ChildrenInOrder r = (n : Node) (s : Span) (kind : Container) (cs : Children) → IsWithin r n → n.tree ≡ node s (container kind cs) → StandInOrder (s.start + 1) (s.end - 1) cs

abbrev Turns : ℕ → ℕ → List Node → Type 0
Turns i j ns = BeginsInTurn ns × Each (Begins i j) ns

mutual
  tree_turns : (l : List Step) (t : Tree) → ChildrenInOrder (record { location = l; tree = t }) → (span t).start < (span t).end → Turns (span t).start (span t).end (subtree_at l t)
  tree_turns l (node s v) h o =
      let r : Node = record { location = l; tree = node s v } in
      let b = value_turns l s v o h in (
        (before_all r (s.start + 1) s.end (omega arith) (below l v) b.1, b.0),
        ((omega arith, o), each_weaker (Begins (s.start + 1) s.end) (Begins s.start s.end) (λ n k. let a = k.0 in (omega arith, k.1)) (below l v) b.1),
      )

  value_turns : (l : List Step) (s : Span) (v : Value) → s.start < s.end → ChildrenInOrder (record { location = l; tree = node s v }) → Turns (s.start + 1) s.end (below l v)
  value_turns l s null o h = (tt, tt)
  value_turns l s (boolean b) o h = (tt, tt)
  value_turns l s (number m x) o h = (tt, tt)
  value_turns l s (string x) o h = (tt, tt)
  value_turns l s (container kind cs) o h =
      let r : Node = record { location = l; tree = node s (container kind cs) } in
      let b = children_turns r (s.start + 1) (s.end - 1) 0 cs (h r s kind cs itself refl) (λ c i n q k ds w f. h n q k ds (within_within r c (child_of_one itself i) w) f) in
      (b.0, each_weaker (Begins (s.start + 1) (s.end - 1)) (Begins (s.start + 1) s.end) (λ n k. let a = k.1 in (k.0, omega arith)) (below_from l 0 cs) b.1)

  children_turns : (r : Node) (i j p : ℕ) (cs : Children) → StandInOrder i j cs → ((c : Node) → IsAmong c (kids r p cs) → ChildrenInOrder c) → Turns i j (below_from r.location p cs)
  children_turns r i j p no_child o h = (tt, tt)
  children_turns r i j p (child name t more) o h =
      let l : List Step = r.location ++ step_to p name ∷ [] in
      let here = tree_turns l t (h (record { location = l; tree = t }) first_of) o.1 in
      let later = children_turns r (span t).end j (p + 1) more o.2 (λ c k. h c (later_of k)) in
      let a = o.0 in
      let b = o.1 in
      let bound = order_bound (span t).end j more o.2 in (
        turn_append (span t).start (span t).end j (subtree_at l t) (below_from r.location (p + 1) more) here.1 later.1 here.0 later.0,
        each_append (Begins i j) (subtree_at l t) (below_from r.location (p + 1) more)
            (each_weaker (Begins (span t).start (span t).end) (Begins i j) (λ n k. let c = k.0 in let d = k.1 in (omega arith, omega arith)) (subtree_at l t) here.1)
            (each_weaker (Begins (span t).end j) (Begins i j) (λ n k. let c = k.0 in (omega arith, k.1)) (below_from r.location (p + 1) more) later.1),
      )

pub begins_in_turn : (line : List ℕ) (t : Tree) (n : Node) → Text line t → IsWithin (root_node t) n → BeginsInTurn (subtree n)
begins_in_turn line t n h w =
    (tree_turns n.location n.tree (λ m s kind cs v e. in_order line t m s kind cs h (within_within (root_node t) n w v) e) (tree_sized line n.tree (node_spelled line (root_node t) n h.value w)).0).0

-- ---- rows

rows_append : (q : Segments) (n m : ℕ) (a b : List LineStatus) → m ≡ n + length a → rows_from q n (a ++ b) ≡ rows_from q n a ++ rows_from q m b
rows_append q n m [] b e = let f : n ≡ m = omega (arith, e) in ap (λ k. rows_from q k b) f
rows_append q n m (s ∷ a) b e =
    ap (λ l. status_rows q n s ++ l) (rows_append q (n + 1) m a b (omega (arith, e))) ∙ sym (append_assoc (status_rows q n s) (rows_from q (n + 1) a) (rows_from q m b))

nodes_later : (n k : ℕ) (ns : List Node) → map (node_row (n + k)) ns ≡ map (lines_later k) (map (node_row n) ns)
nodes_later n k [] = refl
nodes_later n k (m ∷ ns) = ap (λ l. node_row (n + k) m ∷ l) (nodes_later n k ns)

status_later : (q : Segments) (n k : ℕ) (s : LineStatus) → status_rows q (n + k) s ≡ map (lines_later k) (status_rows q n s)
status_later q n k blank = refl
status_later q n k (refused fault) = refl
status_later q n k (parsed t) = nodes_later n k (nodes q (root_node t ∷ []) t)

rows_later : (q : Segments) (n m k : ℕ) (b : List LineStatus) → m ≡ n + k → rows_from q m b ≡ map (lines_later k) (rows_from q n b)
rows_later q n m k [] e = refl
rows_later q n m k (s ∷ b) e =
    ap₂ (λ (x y : List Row). x ++ y) (ap (λ i. status_rows q i s) e ∙ status_later q n k s) (rows_later q (n + 1) (m + 1) k b (omega (arith, e)))
    ∙ sym (map-append (lines_later k) (status_rows q n s) (rows_from q (n + 1) b))

pub rows_go_on : (q : Segments) (a b : List LineStatus) → rows q (a ++ b) ≡ rows q a ++ map (lines_later (length a)) (rows q b)
rows_go_on q a b = rows_append q 1 (1 + length a) a b refl ∙ ap (λ l. rows q a ++ l) (rows_later q 1 (1 + length a) (length a) b refl)

-- ---- texts of a sequence

pieces_joined : (separator : ℕ) (a b : List ℕ) → pieces separator (a ++ separator ∷ b) ≡ pieces separator a ++ pieces separator b
pieces_joined separator [] b = slice_split-cons_yes (is_separator separator) separator b (eq-eqb separator separator refl)
pieces_joined separator (c ∷ a) b = step (is_separator separator c) refl (pieces_joined separator a b)
  where
    step : (t : Bool) → is_separator separator c ≡ t → pieces separator (a ++ separator ∷ b) ≡ pieces separator a ++ pieces separator b → pieces separator (c ∷ a ++ separator ∷ b) ≡ pieces separator (c ∷ a) ++ pieces separator b
    step true e again =
        slice_split-cons_yes (is_separator separator) c (a ++ separator ∷ b) e ∙ (ap (λ l. [] ∷ l) again ∙ ap (λ l. l ++ pieces separator b) (sym (slice_split-cons_yes (is_separator separator) c a e)))
    step false e again =
        let some = pieces_some separator a in
        slice_split-cons_no (is_separator separator) c (a ++ separator ∷ b) e
        ∙ (ap (onto_first c) (again ∙ ap (λ l. l ++ pieces separator b) some.2)
        ∙ (ap (λ l. onto_first c l ++ pieces separator b) (sym some.2) ∙ ap (λ l. l ++ pieces separator b) (sym (slice_split-cons_no (is_separator separator) c a e))))

some_append : (a b : List (List ℕ)) → without_empty (a ++ b) ≡ without_empty a ++ without_empty b
some_append [] b = refl
some_append (piece ∷ a) b = ap (λ l. line_unless_empty piece ++ l) (some_append a b) ∙ sym (append_assoc (line_unless_empty piece) (without_empty a) (without_empty b))

pub texts_go_on : (a b : List ℕ) → sequence_texts (a ++ 0x1E ∷ b) ≡ sequence_texts a ++ sequence_texts (0x1E ∷ b)
texts_go_on a b =
    let some = pieces_some 0x1E a in
    ap (λ l. without_empty (drop 1 l)) (pieces_joined 0x1E a b ∙ ap (λ l. l ++ pieces 0x1E b) some.2)
    ∙ (some_append some.1 (pieces 0x1E b)
    ∙ ap₂ (λ (x y : List (List ℕ)). x ++ y) (ap (λ l. without_empty (drop 1 l)) (sym some.2)) (ap (λ l. without_empty (drop 1 l)) (sym (pieces_joined 0x1E [] b))))
