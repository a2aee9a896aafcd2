-- The spots of a tree are its nodes in order, and their words are its tape.
use Rattle.std.proofs.Common.{◌≡◌, ℕ, zero, suc, ◌+◌, ◌-◌, ◌*◌, ◌<◌, ◌≤◌, inl, inr, List, [], ◌∷◌, ◌++◌, length, map, drop, get_or, sym, ◌∙◌, ap, ap₂, subst, refl, arith, append_assoc, length-append, drop-drop}
use Rattle.std.proofs.lemmas.Bool.{cases_lt}
use Rattle.std.proofs.lemmas.List.{append-nil, map-append, drop_at, drop_all, get_or-drop, length-map, length-drop}
use Rattle.jp_model.specs.Steps.{Step}
use Rattle.jp_model.specs.Json.Tree.{Tree, node, Value, null, boolean, number, string, container, Children, no_child, child, span, value_of}
use Rattle.jp_model.specs.Meaning.Nodes.{Node, root_node, step_to, children, subtree, subtree_at, below, below_from}
use Rattle.jp_nodes.specs.Words.{node_count, value_node_count, children_node_count, nodes_below, kind_code, head_word, span_word, label_word, words_below, children_words, tape_words}
use Rattle.jp_nodes.specs.Spots.{Spot, child_spot, root_spot, spots_below, spots_in, spots_from, spots, spot_at, children_in, nodes_at, nodes_behind}

-- ---- counts

mutual
  pub length-below : (location : List Step) (place : ℕ) (t : Tree) → suc (length (spots_below location place t)) ≡ node_count t
  length-below location place (node s v) = length-in location place v

  length-in : (location : List Step) (place : ℕ) (v : Value) → suc (length (spots_in location place v)) ≡ value_node_count v
  length-in location place null = refl
  length-in location place (boolean b) = refl
  length-in location place (number m e) = refl
  length-in location place (string points) = refl
  length-in location place (container kind children) = let h = length-from location place 0 (place + 1) children in omega (arith, h)

  pub length-from : (parent : List Step) (up index place : ℕ) (children : Children) → length (spots_from parent up index place children) ≡ children_node_count children
  length-from parent up index place no_child = refl
  length-from parent up index place (child name t more) =
      let a = length-below (parent ++ step_to index name ∷ []) place t in
      let b = length-from parent up (index + 1) (place + node_count t) more in
      let c = length-append (spots_below (parent ++ step_to index name ∷ []) place t) (spots_from parent up (index + 1) (place + node_count t) more) in
      omega (arith, a, b, c)

pub length-spots : (t : Tree) → length (spots t) ≡ node_count t
length-spots t = length-below [] 0 t

-- ---- the nodes are the root's subtree

mutual
  nodes-in : (location : List Step) (place : ℕ) (v : Value) → map (λ (s : Spot). s.node) (spots_in location place v) ≡ below location v
  nodes-in location place null = refl
  nodes-in location place (boolean b) = refl
  nodes-in location place (number m e) = refl
  nodes-in location place (string points) = refl
  nodes-in location place (container kind children) = nodes-from location place 0 (place + 1) children

  nodes-from : (parent : List Step) (up index place : ℕ) (children : Children) → map (λ (s : Spot). s.node) (spots_from parent up index place children) ≡ below_from parent index children
  nodes-from parent up index place no_child = refl
  nodes-from parent up index place (child name (node s v) more) =
      let here : List Step = parent ++ step_to index name ∷ [] in
      let behind : ℕ = place + value_node_count v in
      ap (λ x. record { location = here; tree = node s v } ∷ x)
      (map-append (λ (s : Spot). s.node) (spots_in here place v) (spots_from parent up (index + 1) behind more)
      ∙ ap₂ (λ (x y : List Node). x ++ y) (nodes-in here place v) (nodes-from parent up (index + 1) behind more))

pub nodes-below : (location : List Step) (place : ℕ) (t : Tree) → record { location = location; tree = t } ∷ map (λ (s : Spot). s.node) (spots_below location place t) ≡ subtree_at location t
nodes-below location place (node s v) = ap (λ x. record { location = location; tree = node s v } ∷ x) (nodes-in location place v)

pub nodes-spots : (t : Tree) → map (λ (s : Spot). s.node) (spots t) ≡ subtree (root_node t)
nodes-spots t = nodes-below [] 0 t

pub length-subtree : (n : Node) → length (subtree n) ≡ node_count n.tree
length-subtree n =
    ap length (sym (nodes-below n.location 0 n.tree))
    ∙ (ap suc (length-map (spots_below n.location 0 n.tree) (λ (s : Spot). s.node)) ∙ length-below n.location 0 n.tree)

-- ---- the children of a node

pub children-nodes : (n : Node) → children n ≡ nodes_at n.location 0 (children_in (value_of n.tree))
children-nodes n = of n.location n.tree
  where
    of : (location : List Step) (t : Tree) → children (record { location = location; tree = t }) ≡ nodes_at location 0 (children_in (value_of t))
    of location (node s null) = refl
    of location (node s (boolean b)) = refl
    of location (node s (number m e)) = refl
    of location (node s (string points)) = refl
    of location (node s (container kind children)) = refl

-- ---- the words

abbrev pub words_of : List Spot → List ℕ
words_of [] = []
words_of (s ∷ ss) = head_word (kind_code (value_of s.node.tree)) (nodes_below (value_of s.node.tree)) s.up ∷ span_word (span s.node.tree) ∷ label_word s.index s.name ∷ words_of ss

words_of-append : (xs ys : List Spot) → words_of (xs ++ ys) ≡ words_of xs ++ words_of ys
words_of-append [] ys = refl
words_of-append (x ∷ xs) ys =
    ap (λ w. head_word (kind_code (value_of x.node.tree)) (nodes_below (value_of x.node.tree)) x.up ∷ span_word (span x.node.tree) ∷ label_word x.index x.name ∷ w) (words_of-append xs ys)

mutual
  words-in : (location : List Step) (place : ℕ) (v : Value) → words_below place v ≡ words_of (spots_in location place v)
  words-in location place null = refl
  words-in location place (boolean b) = refl
  words-in location place (number m e) = refl
  words-in location place (string points) = refl
  words-in location place (container kind children) = words-from location place 0 (place + 1) children

  words-from : (parent : List Step) (up index place : ℕ) (children : Children) → children_words place up index children ≡ words_of (spots_from parent up index place children)
  words-from parent up index place no_child = refl
  words-from parent up index place (child name (node s v) more) =
      let here : List Step = parent ++ step_to index name ∷ [] in
      let behind : ℕ = place + value_node_count v in
      ap (λ w. head_word (kind_code v) (nodes_below v) up ∷ span_word s ∷ label_word index name ∷ w)
      (ap₂ (λ (x y : List ℕ). x ++ y) (words-in here place v) (words-from parent up (index + 1) behind more) ∙ sym (words_of-append (spots_in here place v) (spots_from parent up (index + 1) behind more)))

pub words-spots : (t : Tree) → tape_words t ≡ words_of (spots t)
words-spots (node s v) = ap (λ w. head_word (kind_code v) (nodes_below v) 0 ∷ span_word s ∷ 0 ∷ w) (words-in [] 0 v)

drop-words : (i : ℕ) (xs : List Spot) → drop (i * 3) (words_of xs) ≡ words_of (drop i xs)
drop-words zero xs = refl
drop-words (suc i) [] = drop_all (suc i * 3) [] (omega arith)
drop-words (suc i) (x ∷ xs) =
    let e : suc i * 3 ≡ suc (suc (suc (i * 3))) = omega arith in
    ap (λ n. drop n (words_of (x ∷ xs))) e ∙ drop-words i xs

-- ---- what stands from a spot on

past_front : (front others : List Spot) (i : ℕ) → length front ≤ i → drop i (front ++ others) ≡ drop (i - length front) others
past_front front others i h =
    let e : length front + (i - length front) ≡ i = omega arith in
    ap (λ n. drop n (front ++ others)) (sym e) ∙ (sym (drop-drop (i - length front) (length front) (front ++ others)) ∙ ap (drop (i - length front)) (drop_at front others (length front) refl))

-- the spot at an index, all below it, its later siblings with all below them, and some rest
abbrev Sitting : List Spot → Spot → ℕ → List Spot → Type 0
Sitting from s place rest = from ≡ s ∷ (spots_below s.node.location place s.node.tree ++ (spots_from s.parent s.up (s.index + 1) (place + node_count s.node.tree) s.behind ++ rest))

-- what stands after all children of a node at this place is a child of a node before it
abbrev pub Climbs : ℕ → List Spot → Type 0
Climbs place [] = Unit {0}
Climbs place (s ∷ ss) = s.up < place

climbs_on : (children : Children) (parent : List Step) (up index from place : ℕ) (rest : List Spot) → up < place → Climbs up rest → Climbs place (spots_from parent up index from children ++ rest)
climbs_on no_child parent up index from place [] l b = tt
climbs_on no_child parent up index from place (s ∷ rest) l b = omega (arith, l, b)
climbs_on (child name t more) parent up index from place rest l b = l

record Sits (list : List Spot) (i place : ℕ) : Type 0 where
  pub spot : Spot
  pub rest : List Spot
  pub from_here : Sitting (drop i list) spot place rest
  pub climbs : Climbs spot.up rest

mutual
  sits-in : (v : Value) (location : List Step) (place : ℕ) (rest : List Spot) (i : ℕ) → Climbs place rest → i < length (spots_in location place v) → Sits (spots_in location place v ++ rest) i (place + 1 + i)
  sits-in null location place rest i b h = absurd (omega arith)
  sits-in (boolean x) location place rest i b h = absurd (omega arith)
  sits-in (number m e) location place rest i b h = absurd (omega arith)
  sits-in (string points) location place rest i b h = absurd (omega arith)
  sits-in (container kind children) location place rest i b h = sits-from children location place 0 (place + 1) rest i (omega arith) b h

  sits-from : (children : Children) (parent : List Step) (up index place : ℕ) (rest : List Spot) (i : ℕ) → up < place → Climbs up rest → i < length (spots_from parent up index place children) →
      Sits (spots_from parent up index place children ++ rest) i (place + i)
  sits-from no_child parent up index place rest i l b h = absurd (omega arith)
  sits-from (child name t more) parent up index place rest zero l b h =
      let s : Spot = child_spot parent up index name t more in
      let others : List Spot = spots_from parent up (index + 1) (place + node_count t) more in
      subst (λ n. Sits (s ∷ (spots_below s.node.location place t ++ others) ++ rest) 0 n) (let e : place ≡ place + 0 = omega arith in e)
      (record { spot = s; rest = rest; from_here = ap (λ x. s ∷ x) (append_assoc (spots_below s.node.location place t) others rest); climbs = b })
  sits-from (child name (node s v) more) parent up index place rest (suc i) l b h =
      let here : List Step = parent ++ step_to index name ∷ [] in
      let inside : List Spot = spots_in here place v in
      let others : List Spot = spots_from parent up (index + 1) (place + value_node_count v) more in
      let counted : suc (length inside) ≡ value_node_count v = length-in here place v in
      let e : drop i ((inside ++ others) ++ rest) ≡ drop i (inside ++ (others ++ rest)) = ap (drop i) (append_assoc inside others rest) in
      elim (cases_lt i (length inside)) [
        | inl lt ↦
            (let r = sits-in v here place (others ++ rest) i (climbs_on more parent up (index + 1) (place + value_node_count v) place rest l b) lt in
            let p : place + 1 + i ≡ place + suc i = omega arith in
            record { spot = r.spot; rest = r.rest; from_here = subst (λ n. Sitting (drop i ((inside ++ others) ++ rest)) r.spot n r.rest) p (e ∙ r.from_here); climbs = r.climbs })
        | inr le ↦
            (let both = length-append inside others in
            let r = sits-from more parent up (index + 1) (place + value_node_count v) rest (i - length inside) (omega (arith, l)) b (omega (arith, both, h)) in
            let p : place + value_node_count v + (i - length inside) ≡ place + suc i = omega (arith, le, counted) in
            record { spot = r.spot; rest = r.rest; from_here = subst (λ n. Sitting (drop i ((inside ++ others) ++ rest)) r.spot n r.rest) p (e ∙ (past_front inside (others ++ rest) i le ∙ r.from_here)); climbs = r.climbs })
      ]

sits-below : (t : Tree) (location : List Step) (place : ℕ) (rest : List Spot) (i : ℕ) → Climbs place rest → i < length (spots_below location place t) → Sits (spots_below location place t ++ rest) i (place + 1 + i)
sits-below (node s v) location place rest i b h = sits-in v location place rest i b h

sits : (t : Tree) (place : ℕ) → place < node_count t → Sits (spots t) place place
sits t zero h = record { spot = root_spot t; rest = []; from_here = ap (λ x. root_spot t ∷ x) (sym (append-nil (spots_below [] 0 t))); climbs = tt }
sits t (suc i) h =
    let c = length-below [] 0 t in
    let r = sits-below t [] 0 [] i tt (omega (arith, c, h)) in
    let p : 0 + 1 + i ≡ suc i = omega arith in
    record { spot = r.spot; rest = r.rest; from_here = subst (λ n. Sitting (drop i (spots_below [] 0 t)) r.spot n r.rest) p (ap (drop i) (sym (append-nil (spots_below [] 0 t))) ∙ r.from_here); climbs = r.climbs }

-- the same, where the spot is that of the place
pub record SitsAt (t : Tree) (place : ℕ) (s : Spot) : Type 0 where
  pub rest : List Spot
  pub from_here : drop place (spots t) ≡ s ∷ (spots_below s.node.location place s.node.tree ++ (spots_from s.parent s.up (s.index + 1) (place + node_count s.node.tree) s.behind ++ rest))
  pub climbs : Climbs s.up rest

pub spot-is : (t : Tree) (place : ℕ) (s : Spot) (rest : List Spot) → drop place (spots t) ≡ s ∷ rest → spot_at t place ≡ s
spot-is t place s rest h =
    ap (λ n. get_or (spots t) n (root_spot t)) (let e : place ≡ place + 0 = omega arith in e)
    ∙ (sym (get_or-drop place (spots t) 0 (root_spot t)) ∙ ap (λ x. get_or x 0 (root_spot t)) h)

pub sits_at : (t : Tree) (place : ℕ) → place < node_count t → SitsAt t place (spot_at t place)
sits_at t place h =
    let r = sits t place h in
    subst (λ x. SitsAt t place x) (sym (spot-is t place r.spot _ r.from_here)) (record { rest = r.rest; from_here = r.from_here; climbs = r.climbs })

-- the words of a spot
words-at : (t : Tree) (place : ℕ) → place < node_count t →
    let s = spot_at t place in
    (rest : List ℕ) × (drop (place * 3) (tape_words t) ≡ head_word (kind_code (value_of s.node.tree)) (nodes_below (value_of s.node.tree)) s.up ∷ span_word (span s.node.tree) ∷ label_word s.index s.name ∷ rest)
words-at t place h =
    let r = sits_at t place h in
    (_, ap (drop (place * 3)) (words-spots t) ∙ (drop-words place (spots t) ∙ ap words_of r.from_here))

word_in : (words : List ℕ) (from i : ℕ) (rest : List ℕ) → drop from words ≡ rest → get_or words (from + i) 0 ≡ get_or rest i 0
word_in words from i rest h = sym (get_or-drop from words i 0) ∙ ap (λ x. get_or x i 0) h

length-words : (xs : List Spot) → length (words_of xs) ≡ length xs * 3
length-words [] = refl
length-words (x ∷ xs) = let h = length-words xs in omega (arith, h)

pub length-tape : (t : Tree) → length (tape_words t) ≡ node_count t * 3
length-tape t = ap length (words-spots t) ∙ (length-words (spots t) ∙ ap (λ n. n * 3) (length-spots t))

pub head-at : (t : Tree) (place i : ℕ) → place < node_count t → i ≡ place * 3 →
    let s = spot_at t place in get_or (tape_words t) i 0 ≡ head_word (kind_code (value_of s.node.tree)) (nodes_below (value_of s.node.tree)) s.up
head-at t place i h e =
    let w = words-at t place h in
    let f : i ≡ place * 3 + 0 = omega arith in
    ap (λ n. get_or (tape_words t) n 0) f ∙ word_in (tape_words t) (place * 3) 0 _ w.1

pub span-at : (t : Tree) (place i : ℕ) → place < node_count t → i ≡ place * 3 + 1 → get_or (tape_words t) i 0 ≡ span_word (span (spot_at t place).node.tree)
span-at t place i h e =
    let w = words-at t place h in
    ap (λ n. get_or (tape_words t) n 0) e ∙ word_in (tape_words t) (place * 3) 1 _ w.1

pub label-at : (t : Tree) (place i : ℕ) → place < node_count t → i ≡ place * 3 + 2 → let s = spot_at t place in get_or (tape_words t) i 0 ≡ label_word s.index s.name
label-at t place i h e =
    let w = words-at t place h in
    ap (λ n. get_or (tape_words t) n 0) e ∙ word_in (tape_words t) (place * 3) 2 _ w.1

-- ---- from a spot to its first child and to its next sibling

-- what is at the head of spots from an index on
pub heads : (t : Tree) (place : ℕ) (parent : List Step) (up index from : ℕ) (children : Children) (rest : List Spot) → drop place (spots t) ≡ spots_from parent up index from children ++ rest →
    0 < children_node_count children → let c = spot_at t place in (c.node ∷ nodes_behind c ≡ nodes_at parent index children) × (child c.name c.node.tree c.behind ≡ children) × (c.up ≡ up)
heads t place parent up index from no_child rest e h = absurd (omega arith)
heads t place parent up index from (child name u more) rest e h =
    let s : spot_at t place ≡ child_spot parent up index name u more = spot-is t place (child_spot parent up index name u more) _ e in
    (ap (λ (x : Spot). x.node ∷ nodes_behind x) s, ap (λ (x : Spot). child x.name x.node.tree x.behind) s, ap (λ (x : Spot). x.up) s)

-- what climbs there is a child of a node before
pub climbs-at : (t : Tree) (place bound : ℕ) (rest : List Spot) → drop place (spots t) ≡ rest → place < node_count t → Climbs bound rest → (spot_at t place).up < bound
climbs-at t place bound [] e h b =
    let n = length-spots t in
    let d = length-drop place (spots t) in
    let l = ap length e in
    absurd (omega (arith, n, d, l, h))
climbs-at t place bound (s ∷ ss) e h b = let at = ap (λ (x : Spot). x.up) (spot-is t place s ss e) in omega (arith, at, b)
