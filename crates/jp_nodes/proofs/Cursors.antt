-- What is so of every cursor.
use Rattle.std.proofs.Common.{◌≡◌, ℕ, ◌+◌, ◌*◌, ◌<◌, ◌≤◌, ◌^◌, false, inl, inr, List, [], ◌∷◌, ◌++◌, length, get_or, slice_get, slice_range, sym, ◌∙◌, ap, ap₂, subst, refl, arith, Option, Some, None}
use Rattle.std.specs.Prelude.{IfSome, option_map}
use Rattle.std.proofs.lemmas.Bool.{cases_lt}
use Rattle.jp_model.specs.Steps.{Step}
use Rattle.jp_model.specs.Json.Strings.{SpellsBody, has_lone_surrogate}
use Rattle.jp_model.specs.Json.Faults.{name_has_lone_surrogate, has_surrogate, has_long_exponent, has_duplicate}
use Rattle.jp_model.specs.Json.Tree.{no_child, child, Name, span, value_of}
use Rattle.jp_model.specs.Json.Spelling.{Text}
use Rattle.jp_model.specs.Meaning.Nodes.{Node, root_node, step_to, children, subtree}
use Rattle.jp_nodes.specs.declared.cursor.Cursor.{Cursor}
use Rattle.jp_nodes.specs.declared.word.Word.{Word}
use Rattle.jp_nodes.specs.Forms.{joined, words_in}
use Rattle.jp_nodes.specs.Words.{node_count, children_node_count, nodes_below, head_word, span_word, label_word, kind_code}
use Rattle.jp_nodes.specs.Spots.{Spot, root_spot, spot_at, children_in, nodes_at, nodes_behind, last_step, name_points}
use Rattle.jp_nodes.specs.Tapes.{spelled}
use Rattle.jp_nodes.specs.Cursors.{line_of, place_of, root_of, spot_of, node_of, name_of, up_of, index_of, nodes_after, children_after, nodes_from, children_from}
use Rattle.jp_nodes.proofs.Spots.{length-subtree, length-tape, head-at, span-at, label-at}
use Rattle.jp_nodes.proofs.Places as places
use Rattle.jp_nodes.proofs.Parents.{HasParent, has_parent}
use Rattle.jp_nodes.proofs.Parents as parents
use Rattle.jp_nodes.proofs.Bounds.{room}
use Rattle.jp_nodes.proofs.Stands.{SpotStands, stands, NameStands, last-push}
use Rattle.jp_nodes.proofs.Sound.{Sound, sound_at}
use Rattle.jp_nodes.proofs.Trees.{spelled_text, count_short}

-- ---- the parts of a cursor

pub spot-is : (c : Cursor) → spot_of c ≡ spot_at (root_of c) (place_of c)
unfolding spot_of line_of place_of
spot-is c = refl

-- the node is a matter of the line and the place
pub same_spot : (c d : Cursor) → line_of c ≡ line_of d → place_of c ≡ place_of d → spot_of c ≡ spot_of d
same_spot c d l p = spot-is c ∙ (ap₂ (λ (x : List ℕ) (n : ℕ). spot_at (spelled x) n) l p ∙ sym (spot-is d))

pub inside : (c : Cursor) → place_of c < node_count (root_of c)
unfolding line_of place_of
inside c = c.within

pub text : (c : Cursor) → Text (line_of c) (root_of c)
unfolding line_of
text c = spelled_text c.line.now c.spelled_line

pub short : (c : Cursor) → length (line_of c) < 2 ^ 32
unfolding line_of
short c = c.short

pub whole : (c : Cursor) → has_surrogate (root_of c) ≡ false
unfolding line_of
whole c = c.whole

pub exponents : (c : Cursor) → has_long_exponent (line_of c) (root_of c) ≡ false
unfolding line_of
exponents c = c.exponents

pub distinct : (c : Cursor) → has_duplicate (root_of c) ≡ false
unfolding line_of
distinct c = c.distinct

pub few : (c : Cursor) → 2 * node_count (root_of c) ≤ length (line_of c) + 1
unfolding line_of
few c = count_short c.line.now c.spelled_line

-- ---- its node

pub node_at : (c : Cursor) → slice_get (subtree (root_node (root_of c))) (place_of c) ≡ Some (node_of c)
node_at c = places.node_at (root_of c) (place_of c) (inside c) ∙ ap (λ (s : Spot). Some s.node) (sym (spot-is c))

pub within : (c : Cursor) → place_of c < length (subtree (root_node (root_of c)))
within c = let a = inside c in let b = places.length-tree (root_of c) in omega (arith, a, b)

pub after_within : (c : Cursor) → place_of c + length (subtree (node_of c)) ≤ length (subtree (root_node (root_of c)))
after_within c =
    let a = places.after_within (root_of c) (place_of c) (inside c) in
    let b = places.length-tree (root_of c) in
    let e = ap (λ (s : Spot). length (subtree s.node)) (spot-is c) in
    omega (arith, a, b, e)

pub after_short : (c : Cursor) → place_of c + length (subtree (node_of c)) < 2 ^ 32
after_short c =
    let a = after_within c in
    let b = places.length-tree (root_of c) in
    let d = few c in
    let e = short c in
    omega (arith, a, b, d, e)

pub subtree-range : (c : Cursor) → slice_range (subtree (root_node (root_of c))) (place_of c) (place_of c + length (subtree (node_of c))) ≡ subtree (node_of c)
subtree-range c =
    let whole : List Node = subtree (root_node (root_of c)) in
    subst (λ (s : Spot). slice_range whole (place_of c) (place_of c + length (subtree s.node)) ≡ subtree s.node) (sym (spot-is c)) (places.subtree-range (root_of c) (place_of c) (inside c))

pub standing : (c : Cursor) → SpotStands (line_of c) (spot_of c)
standing c = subst (λ (s : Spot). SpotStands (line_of c) s) (sym (spot-is c)) (stands (line_of c) (root_of c) (place_of c) (text c) (inside c))

pub sound : (c : Cursor) → Sound (line_of c) (spot_of c)
sound c = subst (λ (s : Spot). Sound (line_of c) s) (sym (spot-is c)) (sound_at (line_of c) (root_of c) (place_of c) (whole c) (exponents c) (distinct c) (inside c))

pub span_room : (c : Cursor) → ((span (node_of c).tree).start < (span (node_of c).tree).end) × ((span (node_of c).tree).end ≤ length (line_of c))
span_room c =
    let r = room (line_of c) (node_of c).tree (standing c).spells in
    let s = places.some_node (node_of c).tree in
    (omega (arith, r, s), r.1)

-- ---- its words

-- three for each node of the line
pub words_counted : (c : Cursor) → length (words_in c.bits c.words.now) ≡ length (subtree (root_node (root_of c))) * 3
unfolding line_of
words_counted c =
    let a = ap length c.words_are in
    let b = length-tape (root_of c) in
    let d = places.length-tree (root_of c) in
    omega (arith, a, b, d)

pub words_long : (c : Cursor) → place_of c * 3 + 2 < length (words_in c.bits c.words.now)
words_long c =
    let a = words_counted c in
    let b = within c in
    omega (arith, a, b)

pub head-of : (c : Cursor) (i : ℕ) → i ≡ place_of c * 3 → get_or (words_in c.bits c.words.now) i 0 ≡ head_word (kind_code (value_of (node_of c).tree)) (nodes_below (value_of (node_of c).tree)) (up_of c)
unfolding line_of
head-of c i e =
    ap (λ w. get_or w i 0) c.words_are
    ∙ (head-at (root_of c) (place_of c) i (inside c) e ∙ ap (λ (s : Spot). head_word (kind_code (value_of s.node.tree)) (nodes_below (value_of s.node.tree)) s.up) (sym (spot-is c)))

pub span-of : (c : Cursor) (i : ℕ) → i ≡ place_of c * 3 + 1 → get_or (words_in c.bits c.words.now) i 0 ≡ span_word (span (node_of c).tree)
unfolding line_of
span-of c i e = ap (λ w. get_or w i 0) c.words_are ∙ (span-at (root_of c) (place_of c) i (inside c) e ∙ ap (λ (s : Spot). span_word (span s.node.tree)) (sym (spot-is c)))

pub label-of : (c : Cursor) (i : ℕ) → i ≡ place_of c * 3 + 2 → get_or (words_in c.bits c.words.now) i 0 ≡ label_word (index_of c) (name_of c)
unfolding line_of
label-of c i e = ap (λ w. get_or w i 0) c.words_are ∙ (label-at (root_of c) (place_of c) i (inside c) e ∙ ap (λ (s : Spot). label_word s.index s.name) (sym (spot-is c)))

-- how many nodes stand below it
pub after_is : (c : Cursor) → place_of c + 1 + nodes_below (value_of (node_of c).tree) ≡ place_of c + length (subtree (node_of c))
after_is c =
    let a = length-subtree (node_of c) in
    let b = places.count-below (node_of c).tree in
    omega (arith, a, b)

pub below_short : (c : Cursor) → nodes_below (value_of (node_of c).tree) < 2 ^ 31
below_short c =
    let a = after_is c in
    let b = after_within c in
    let d = places.length-tree (root_of c) in
    let e = few c in
    let f = short c in
    omega (arith, a, b, d, e, f)

-- ---- its name

name_spells : (line : List ℕ) (name : Option Name) (location : List Step) → NameStands line name location → IfSome name (λ n. SpellsBody line n.body.start n.body.end n.points)
name_spells line None location h = tt
name_spells line (Some n) location h = h.2.body

name_steps : (line : List ℕ) (name : Option Name) (location : List Step) → NameStands line name location → option_map (λ (n : Name). n.points) name ≡ name_points (last_step location)
name_steps line None location h = sym h
name_steps line (Some n) location h = sym h.3

pub body_spells : (c : Cursor) → IfSome (name_of c) (λ n. SpellsBody (line_of c) n.body.start n.body.end n.points)
body_spells c = name_spells (line_of c) (name_of c) (node_of c).location (standing c).name

whole_points : (name : Option Name) → name_has_lone_surrogate name ≡ false → IfSome name (λ n. has_lone_surrogate n.points ≡ false)
whole_points None h = tt
whole_points (Some n) h = h

pub name_whole : (c : Cursor) → IfSome (name_of c) (λ n. has_lone_surrogate n.points ≡ false)
name_whole c = whole_points (name_of c) (sound c).name

pub step_named : (c : Cursor) → option_map (λ (n : Name). n.points) (name_of c) ≡ name_points (last_step (node_of c).location)
step_named c = name_steps (line_of c) (name_of c) (node_of c).location (standing c).name

nameless : (line : List ℕ) (index : ℕ) (name : Option Name) (location : List Step) → NameStands line name location → label_word index name < 2 ^ 32 → name ≡ None
unfolding span_word
nameless line index None location s h = refl
nameless line index (Some n) location s h = let b = s.2.behind_quote in absurd (omega (arith, b, h))

pub no_name : (c : Cursor) (word : Word) → joined word ≡ label_word (index_of c) (name_of c) → word.high ≡ 0 → name_of c ≡ None
no_name c word e z = let l = word.half in nameless (line_of c) (index_of c) (name_of c) (node_of c).location (standing c).name (omega (arith, e, l, z))

-- a word in whose place no index fits packs the body of a name
pub record IsNamed (line : List ℕ) (index : ℕ) (name : Option Name) : Type 0 where
  pub own : Name
  pub is : name ≡ Some own
  pub packed : label_word index name ≡ span_word own.body
  pub order : own.body.start ≤ own.body.end
  pub inside : own.body.end < length line

named : (line : List ℕ) (index : ℕ) (name : Option Name) (location : List Step) → NameStands line name location → index < label_word index name → IsNamed line index name
named line index None location s h = absurd (omega (arith, h))
named line index (Some n) location s h = record { own = n; is = refl; packed = refl; order = s.2.body.order; inside = s.2.closes.inside }

pub has_name : (c : Cursor) (word : Word) → joined word ≡ label_word (index_of c) (name_of c) → index_of c < 2 ^ 32 → 0 < word.high → IsNamed (line_of c) (index_of c) (name_of c)
has_name c word e i l = named (line_of c) (index_of c) (name_of c) (node_of c).location (standing c).name (omega (arith, e, i, l))

-- the low half of the word of a node that has no name is its index
pub index_is : (c : Cursor) (word : Word) → joined word ≡ label_word (index_of c) (name_of c) → word.high ≡ 0 → word.low ≡ index_of c
index_is c word e z = let s : joined word ≡ index_of c = e ∙ ap (label_word (index_of c)) (no_name c word e z) in omega (arith, s, z)

-- ---- from one cursor to another

pub gone_to : (c d : Cursor) (place : ℕ) → line_of d ≡ line_of c → place_of d ≡ place → slice_get (subtree (root_node (root_of c))) place ≡ Some (node_of d)
gone_to c d place l p =
    subst (λ (n : ℕ). slice_get (subtree (root_node (root_of c))) n ≡ Some (node_of d)) p
    (subst (λ (x : List ℕ). slice_get (subtree (root_node (spelled x))) (place_of d) ≡ Some (node_of d)) l (node_at d))

pub at_root : (c : Cursor) → place_of c ≡ 0 → node_of c ≡ root_node (root_of c)
at_root c e = ap (λ (s : Spot). s.node) (spot-is c) ∙ ap (λ n. (spot_at (root_of c) n).node) e

pub first_child : (c d : Cursor) → line_of d ≡ line_of c → place_of d ≡ place_of c + 1 → 1 < length (subtree (node_of c)) →
    (nodes_from (Some d) ≡ children (node_of c)) × (children_from (Some d) ≡ children_in (value_of (node_of c).tree))
first_child c d l p h =
    let e = spot-is c in
    let at : spot_of d ≡ spot_at (root_of c) (place_of c + 1) = spot-is d ∙ ap₂ (λ (x : List ℕ) (n : ℕ). spot_at (spelled x) n) l p in
    let more : 1 < length (subtree (spot_at (root_of c) (place_of c)).node) = subst (λ (s : Spot). 1 < length (subtree s.node)) e h in
    let found = places.first_child (root_of c) (place_of c) (inside c) more in (
      ap (λ (s : Spot). s.node ∷ nodes_behind s) at ∙ (found.0 ∙ ap (λ (s : Spot). children s.node) (sym e)),
      ap (λ (s : Spot). child s.name s.node.tree s.behind) at ∙ (found.1 ∙ ap (λ (s : Spot). children_in (value_of s.node.tree)) (sym e)),
    )

-- its parent in its tree
parent_of : (c : Cursor) → 0 < place_of c → HasParent (root_of c) (place_of c) (spot_of c)
parent_of c l = subst (λ (s : Spot). HasParent (root_of c) (place_of c) s) (sym (spot-is c)) (has_parent (root_of c) (place_of c) l (inside c))

-- a cursor at its parent's place
pub parent_is : (c p : Cursor) → line_of p ≡ line_of c → place_of p ≡ up_of c → 0 < place_of c →
    (place_of p < place_of c) × (slice_get (children (node_of p)) (index_of c) ≡ Some (node_of c)) × ((node_of c).location ≡ (node_of p).location ++ step_to (index_of c) (name_of c) ∷ [])
parent_is c p l e h =
    let r = parent_of c h in
    let b = r.before in
    let at : spot_of p ≡ spot_at (root_of c) (up_of c) = spot-is p ∙ ap₂ (λ (x : List ℕ) (n : ℕ). spot_at (spelled x) n) l e in (
      omega (arith, e, b),
      ap (λ (s : Spot). slice_get (children s.node) (index_of c)) at ∙ r.child,
      r.location ∙ ap (λ (s : Spot). s.node.location ++ step_to (index_of c) (name_of c) ∷ []) (sym at),
    )

-- its last step
pub last_is : (c : Cursor) → 0 < place_of c → last_step (node_of c).location ≡ Some (step_to (index_of c) (name_of c))
last_is c h = let r = parent_of c h in ap last_step r.location ∙ last-push (spot_at (root_of c) (up_of c)).node.location (step_to (index_of c) (name_of c))

-- the root, as its own parent, has neither a name nor a sibling
at_top : (c : Cursor) → place_of c ≡ 0 → spot_of c ≡ root_spot (root_of c)
at_top c z = spot-is c ∙ ap (spot_at (root_of c)) z

up_inside : (c : Cursor) → up_of c < node_count (root_of c)
up_inside c = subst (λ (s : Spot). s.up < node_count (root_of c)) (sym (spot-is c)) (parents.up_inside (root_of c) (place_of c) (inside c))

pub up_within : (c : Cursor) → up_of c < length (subtree (root_node (root_of c)))
up_within c = let a = up_inside c in let b = places.length-tree (root_of c) in omega (arith, a, b)

pub up_short : (c : Cursor) → up_of c < 2 ^ 31
up_short c =
    let a = up_inside c in
    let b = few c in
    let d = short c in
    omega (arith, a, b, d)

pub index_short : (c : Cursor) → index_of c < 2 ^ 32
index_short c =
    let n = few c in
    let l = short c in
    let i : index_of c < node_count (root_of c) = subst (λ (s : Spot). s.index < node_count (root_of c)) (sym (spot-is c)) (parents.index_inside (root_of c) (place_of c) (inside c)) in
    omega (arith, n, l, i)

-- a member is not the root
pub member_below : (c : Cursor) → IsNamed (line_of c) (index_of c) (name_of c) → 0 < place_of c
member_below c n =
    elim (cases_lt 0 (place_of c)) [
      | inl lt ↦ lt
      | inr le ↦ (let e : None ≡ Some n.own = sym (ap (λ (s : Spot). s.name) (at_top c (omega (arith, le)))) ∙ n.is in absurd (cc))
    ]

-- how many siblings it has, by a cursor at its parent's place
pub siblings : (c p : Cursor) → line_of p ≡ line_of c → place_of p ≡ up_of c → 0 < place_of c → length (children (node_of p)) ≡ index_of c + length (nodes_from (Some c))
siblings c p l e h =
    let at : spot_of p ≡ spot_at (root_of c) (up_of c) = spot-is p ∙ ap₂ (λ (x : List ℕ) (n : ℕ). spot_at (spelled x) n) l e in
    ap (λ (s : Spot). length (children s.node)) at ∙ (parent_of c h).siblings

-- ---- the next sibling

none_at : (c : Cursor) → children_node_count (children_after c) ≡ 0 → (spot_at (root_of c) (place_of c)).behind ≡ no_child
none_at c h = ap (λ (s : Spot). s.behind) (sym (spot-is c)) ∙ places.no_more (children_after c) h

more_at : (c : Cursor) → 0 < children_node_count (children_after c) → 0 < children_node_count (spot_at (root_of c) (place_of c)).behind
more_at c h = subst (λ (s : Spot). 0 < children_node_count s.behind) (spot-is c) h

-- it stands after the subtree
pub next_place : (c : Cursor) → 0 < children_node_count (children_after c) → place_of c + length (subtree (node_of c)) < length (subtree (root_node (root_of c)))
next_place c h =
    let found = places.next_sibling (root_of c) (place_of c) (inside c) (more_at c h) in
    let n = ap (λ (s : Spot). length (subtree s.node)) (spot-is c) in
    let b = places.length-tree (root_of c) in
    let f = found.0 in
    omega (arith, f, n, b)

-- the spot of a cursor at that place
spot_behind : (c d : Cursor) → line_of d ≡ line_of c → place_of d ≡ place_of c + length (subtree (node_of c)) → spot_of d ≡ spot_at (root_of c) (place_of c + length (subtree (spot_at (root_of c) (place_of c)).node))
spot_behind c d l p =
    let q : place_of d ≡ place_of c + length (subtree (spot_at (root_of c) (place_of c)).node) = p ∙ ap (λ (s : Spot). place_of c + length (subtree s.node)) (spot-is c) in
    spot-is d ∙ ap₂ (λ (x : List ℕ) (n : ℕ). spot_at (spelled x) n) l q

pub next_sibling : (c d : Cursor) → line_of d ≡ line_of c → place_of d ≡ place_of c + length (subtree (node_of c)) → 0 < children_node_count (children_after c) →
    (nodes_from (Some d) ≡ nodes_after c) × (children_from (Some d) ≡ children_after c) × (up_of d ≡ up_of c)
next_sibling c d l p h =
    let e = spot-is c in
    let at = spot_behind c d l p in
    let found = places.next_sibling (root_of c) (place_of c) (inside c) (more_at c h) in (
      ap (λ (s : Spot). s.node ∷ nodes_behind s) at ∙ (found.1 ∙ ap nodes_behind (sym e)),
      ap (λ (s : Spot). child s.name s.node.tree s.behind) at ∙ (found.2 ∙ ap (λ (s : Spot). s.behind) (sym e)),
      ap (λ (s : Spot). s.up) at ∙ (found.3 ∙ ap (λ (s : Spot). s.up) (sym e)),
    )

-- the node there has another parent where no sibling follows
behind_last : (c d : Cursor) → line_of d ≡ line_of c → place_of d ≡ place_of c + length (subtree (node_of c)) → children_node_count (children_after c) ≡ 0 → up_of d < up_of c
behind_last c d l p h =
    let own = ap (λ (s : Spot). s.up) (spot-is c) in
    let other = ap (λ (s : Spot). s.up) (spot_behind c d l p) in
    let size = ap (λ (s : Spot). length (subtree s.node)) (spot-is c) in
    let total = ap (λ (x : List ℕ). node_count (spelled x)) l in
    let there = inside d in
    let b = places.behind_last (root_of c) (place_of c) (inside c) (none_at c h) (omega (arith, there, total, p, size)) in
    omega (arith, own, other, b)

pub same_parent : (c d : Cursor) → line_of d ≡ line_of c → place_of d ≡ place_of c + length (subtree (node_of c)) → up_of d ≡ up_of c → 0 < children_node_count (children_after c)
same_parent c d l p e =
    elim (cases_lt 0 (children_node_count (children_after c))) [
      | inl lt ↦ lt
      | inr le ↦ (let b = behind_last c d l p (omega (arith, le)) in absurd (omega (arith, b, e)))
    ]

pub other_parent : (c d : Cursor) → line_of d ≡ line_of c → place_of d ≡ place_of c + length (subtree (node_of c)) → (up_of d ≡ up_of c → ⊥) → children_node_count (children_after c) ≡ 0
other_parent c d l p n =
    elim (cases_lt 0 (children_node_count (children_after c))) [
      | inl lt ↦ absurd (n (next_sibling c d l p lt).2)
      | inr le ↦ omega (arith, le)
    ]

pub at_end : (c : Cursor) → length (subtree (root_node (root_of c))) ≤ place_of c + length (subtree (node_of c)) → children_node_count (children_after c) ≡ 0
at_end c h =
    elim (cases_lt 0 (children_node_count (children_after c))) [
      | inl lt ↦ (let l = next_place c lt in absurd (omega (arith, h, l)))
      | inr le ↦ omega (arith, le)
    ]

pub no_sibling : (c : Cursor) → children_node_count (children_after c) ≡ 0 → (nodes_after c ≡ []) × (children_after c ≡ no_child)
no_sibling c h =
    let s : Spot = spot_of c in
    let e : s.behind ≡ no_child = places.no_more s.behind h in
    (ap (nodes_at s.parent (s.index + 1)) e, e)

pub children_few : (c : Cursor) → length (children (node_of c)) < 2 ^ 32
children_few c =
    let n = node_of c in
    let a = after_short c in
    let b = length-subtree n in
    let d = places.count-in n.tree in
    let e = places.few_children n in
    omega (arith, a, b, d, e)
