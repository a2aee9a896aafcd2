-- What the builder holds is that of the state.
use Rattle.std.proofs.Common.{◌≡◌, ℕ, suc, ◌+◌, ◌-◌, ◌*◌, ◌≤◌, max, Bool, true, false, ◌||◌, List, [], ◌∷◌, ◌++◌, length, get_or, sym, ◌∙◌, ap, ap₂, refl, arith, Option, Some, None, append_assoc, append-nil, add-zero, add_assoc, length-append, get_or-append-add, true≢false}
use Rattle.jp_model.specs.Json.Tree.{Tree, node, Value, null, boolean, number, string, container, Children, no_child, child, Name, count_children, joined}
use Rattle.jp_model.specs.Json.Faults.{depth, greatest_depth, name_has_lone_surrogate, has_surrogate, children_have_surrogate, has_long_exponent, children_have_long_exponent, name_points, names, has_duplicate, children_have_duplicate}
use Rattle.jp_nodes.specs.Words.{node_count, value_node_count, children_node_count, label_word, words_from, words_below, children_words, head_word, span_word, container_code}
use Rattle.jp_tape.specs.Machine.{Frame, open_count, open_words, open_names, outer_count, next_parent, next_index, open_depth, open_surrogate, open_long, open_duplicate}

-- ---- tests

pub or_false : (a : Bool) → a || false ≡ a
or_false true = refl
or_false false = refl

pub or_assoc : (a b c : Bool) → (a || b) || c ≡ a || (b || c)
or_assoc true b c = refl
or_assoc false b c = refl

pub or_swap : (a b c : Bool) → (a || b) || c ≡ a || (c || b)
or_swap true b c = refl
or_swap false true true = refl
or_swap false true false = refl
or_swap false false true = refl
or_swap false false false = refl

pub left_false : (a b : Bool) → a || b ≡ false → a ≡ false
left_false true b h = h
left_false false b h = refl

pub right_false : (a b : Bool) → a || b ≡ false → b ≡ false
right_false true b h = absurd (true≢false h)
right_false false b h = h

-- ---- words

mutual
  pub length_words : (place parent index : ℕ) (own : Option Name) (t : Tree) → length (words_from place parent index own t) ≡ 3 * node_count t
  length_words place parent index own (node s v) = length_below place v

  length_below : (place : ℕ) (v : Value) → suc (suc (suc (length (words_below place v)))) ≡ 3 * value_node_count v
  length_below place null = refl
  length_below place (boolean b) = refl
  length_below place (number m e) = refl
  length_below place (string points) = refl
  length_below place (container kind children) = let e = length_children (place + 1) place 0 children in omega (arith, e)

  pub length_children : (place parent index : ℕ) (children : Children) → length (children_words place parent index children) ≡ 3 * children_node_count children
  length_children place parent index no_child = refl
  length_children place parent index (child own t more) =
      let l = length-append (words_from place parent index own t) (children_words (place + node_count t) parent (index + 1) more) in
      let a = length_words place parent index own t in
      let b = length_children (place + node_count t) parent (index + 1) more in
      omega (arith, l, a, b)

pub joined_words : (place parent index : ℕ) (a b : Children) →
    children_words place parent index (joined a b) ≡ children_words place parent index a ++ children_words (place + children_node_count a) parent (index + count_children a) b
joined_words place parent index no_child b = ap₂ (λ q i. children_words q parent i b) (sym (add-zero place)) (sym (add-zero index))
joined_words place parent index (child own t rest) b =
    let first : List ℕ = words_from place parent index own t in
    let others : List ℕ = children_words (place + node_count t) parent (index + 1) rest in
    ap (λ x. first ++ x) (joined_words (place + node_count t) parent (index + 1) rest b)
    ∙ (ap₂ (λ q i. first ++ (others ++ children_words q parent i b)) (add_assoc place (node_count t) (children_node_count rest)) (let e : index + 1 + count_children rest ≡ index + suc (count_children rest) = omega arith in e)
    ∙ sym (append_assoc first others _))

-- one more child
abbrev pub with_child : Frame → Option Name → Tree → Children
with_child f own t = joined f.done (child own t no_child)

grown_words : (place parent : ℕ) (a : Children) (own : Option Name) (t : Tree) →
    children_words place parent 0 (joined a (child own t no_child)) ≡ children_words place parent 0 a ++ words_from (place + children_node_count a) parent (count_children a) own t
grown_words place parent a own t =
    let front : List ℕ = children_words place parent 0 a in
    let e : 0 + count_children a ≡ count_children a = omega arith in
    joined_words place parent 0 a (child own t no_child)
    ∙ (ap (λ i. front ++ children_words (place + children_node_count a) parent i (child own t no_child)) e ∙ ap (λ x. front ++ x) (append-nil _))

-- the third word of the next value
abbrev pub next_label : List Frame → Option Name → ℕ
next_label frames own = label_word (next_index frames) own

-- the words after those of the outer containers
abbrev pub inner_words : Frame → List Frame → Children → List ℕ
inner_words f frames children = head_word (container_code f.kind) 0 (next_parent frames) ∷ span_word (record { start = f.start; end = outer_count f frames }) ∷ next_label frames f.name ∷ children_words (open_count frames + 1) (open_count frames) 0 children

pub open_length : (frames : List Frame) → length (open_words frames) ≡ 3 * open_count frames
open_length [] = refl
open_length (f ∷ frames) =
    let e = length_children (open_count frames + 1) (open_count frames) 0 f.done in
    let i = open_length frames in
    let l = length-append (open_words frames) (inner_words f frames f.done) in
    omega (arith, e, i, l)

-- the words of the next value, a child of the innermost container
abbrev pub next_words : List Frame → Option Name → Tree → List ℕ
next_words frames own t = words_from (open_count frames) (next_parent frames) (next_index frames) own t

pub grown_tail : (f : Frame) (frames : List Frame) (own : Option Name) (t : Tree) →
    open_words (f ∷ frames) ++ next_words (f ∷ frames) own t ≡ open_words frames ++ inner_words f frames (with_child f own t)
grown_tail f frames own t =
    append_assoc (open_words frames) (inner_words f frames f.done) (next_words (f ∷ frames) own t)
    ∙ ap (λ xs. open_words frames ++ head_word (container_code f.kind) 0 (next_parent frames) ∷ span_word (record { start = f.start; end = outer_count f frames }) ∷ next_label frames f.name ∷ xs) (sym (grown_words (open_count frames + 1) (open_count frames) f.done own t))

-- each child has a node
pub children_few : (a : Children) → count_children a ≤ children_node_count a
children_few no_child = omega arith
children_few (child own (node s v) more) = let h = children_few more in let l = length_below 0 v in omega (arith, h, l)

-- one more child
pub joined_count : (a : Children) (own : Option Name) (t : Tree) → count_children (joined a (child own t no_child)) ≡ count_children a + 1
joined_count no_child own t = refl
joined_count (child o u rest) own t = let h = joined_count rest own t in omega (arith, h)

-- ---- depths

open_depth_above : (frames : List Frame) → length frames ≤ open_depth frames
open_depth_above [] = omega arith
open_depth_above (f ∷ frames) = let h = open_depth_above frames in omega arith

pub shallow_open : (frames : List Frame) (most : ℕ) → open_depth frames ≤ most → length frames ≤ most
shallow_open frames most l = let h = open_depth_above frames in omega (arith, h, l)

pub flat_depth : (frames : List Frame) (d : ℕ) → d ≡ 0 → open_depth frames ≡ max (open_depth frames) (length frames + d)
flat_depth frames d e = let h = open_depth_above frames in omega (arith, h, e)

joined_depth : (a : Children) (own : Option Name) (t : Tree) → greatest_depth (joined a (child own t no_child)) ≡ max (greatest_depth a) (depth t)
joined_depth no_child own t = omega arith
joined_depth (child o u rest) own t = let h = joined_depth rest own t in omega (arith, h)

pub grown_depth : (f : Frame) (frames : List Frame) (own : Option Name) (t : Tree) →
    max (open_depth (f ∷ frames)) (length (f ∷ frames) + depth t) ≡ max (open_depth frames) (length frames + 1 + greatest_depth (with_child f own t))
grown_depth f frames own t = let h = joined_depth f.done own t in omega (arith, h)

pub closed_depth : (f : Frame) (frames : List Frame) (own : Option Name) (t : Tree) →
    max (open_depth (f ∷ frames)) (length (f ∷ frames) + depth t) ≡ max (open_depth frames) (length frames + suc (greatest_depth (with_child f own t)))
closed_depth f frames own t = let h = joined_depth f.done own t in omega (arith, h)

-- ---- faults

joined_surrogate : (a : Children) (own : Option Name) (t : Tree) → children_have_surrogate (joined a (child own t no_child)) ≡ (children_have_surrogate a || name_has_lone_surrogate own) || has_surrogate t
joined_surrogate no_child own t = or_false _
joined_surrogate (child o u rest) own t =
    let h : Bool = name_has_lone_surrogate o || has_surrogate u in
    ap (λ x. h || x) (joined_surrogate rest own t)
    ∙ (ap (λ x. h || x) (or_assoc (children_have_surrogate rest) (name_has_lone_surrogate own) (has_surrogate t))
    ∙ (sym (or_assoc h (children_have_surrogate rest) (name_has_lone_surrogate own || has_surrogate t)) ∙ sym (or_assoc (h || children_have_surrogate rest) (name_has_lone_surrogate own) (has_surrogate t))))

pub grown_surrogate : (f : Frame) (frames : List Frame) (own : Option Name) (t : Tree) →
    (open_surrogate (f ∷ frames) || name_has_lone_surrogate own) || has_surrogate t ≡ (open_surrogate frames || name_has_lone_surrogate f.name) || children_have_surrogate (with_child f own t)
grown_surrogate f frames own t =
    let outer : Bool = open_surrogate frames || name_has_lone_surrogate f.name in
    let c : Bool = children_have_surrogate f.done in
    let n : Bool = name_has_lone_surrogate own in
    or_assoc (outer || c) n (has_surrogate t) ∙ (or_assoc outer c (n || has_surrogate t) ∙ ap (λ x. outer || x) (sym (or_assoc c n (has_surrogate t)) ∙ sym (joined_surrogate f.done own t)))

joined_long : (line : List ℕ) (a : Children) (own : Option Name) (t : Tree) → children_have_long_exponent line (joined a (child own t no_child)) ≡ children_have_long_exponent line a || has_long_exponent line t
joined_long line no_child own t = or_false _
joined_long line (child o u rest) own t = ap (λ x. has_long_exponent line u || x) (joined_long line rest own t) ∙ sym (or_assoc (has_long_exponent line u) (children_have_long_exponent line rest) (has_long_exponent line t))

pub grown_long : (line : List ℕ) (f : Frame) (frames : List Frame) (own : Option Name) (t : Tree) → open_long line (f ∷ frames) || has_long_exponent line t ≡ open_long line frames || children_have_long_exponent line (with_child f own t)
grown_long line f frames own t = or_assoc (open_long line frames) (children_have_long_exponent line f.done) (has_long_exponent line t) ∙ ap (λ x. open_long line frames || x) (sym (joined_long line f.done own t))

joined_duplicate : (a : Children) (own : Option Name) (t : Tree) → children_have_duplicate (joined a (child own t no_child)) ≡ children_have_duplicate a || has_duplicate t
joined_duplicate no_child own t = or_false _
joined_duplicate (child o u rest) own t = ap (λ x. has_duplicate u || x) (joined_duplicate rest own t) ∙ sym (or_assoc (has_duplicate u) (children_have_duplicate rest) (has_duplicate t))

pub grown_duplicate : (f : Frame) (frames : List Frame) (own : Option Name) (t : Tree) → open_duplicate (f ∷ frames) || has_duplicate t ≡ open_duplicate frames || children_have_duplicate (with_child f own t)
grown_duplicate f frames own t = or_assoc (open_duplicate frames) (children_have_duplicate f.done) (has_duplicate t) ∙ ap (λ x. open_duplicate frames || x) (sym (joined_duplicate f.done own t))

-- ---- names

name_first : (own : Option Name) (rest : List (List ℕ)) → name_points own rest ≡ name_points own [] ++ rest
name_first None rest = refl
name_first (Some name) rest = refl

joined_names : (a : Children) (own : Option Name) (t : Tree) → names (joined a (child own t no_child)) ≡ names a ++ name_points own []
joined_names no_child own t = refl
joined_names (child o u rest) own t =
    ap (λ x. name_points o x) (joined_names rest own t)
    ∙ (name_first o (names rest ++ name_points own []) ∙ (sym (append_assoc (name_points o []) (names rest) (name_points own [])) ∙ ap (λ x. x ++ name_points own []) (sym (name_first o (names rest)))))

-- the names outside of the children of the innermost container
abbrev pub outer_names : Frame → List Frame → List (List ℕ)
outer_names f frames = open_names frames ++ name_points f.name []

pub grown_names : (f : Frame) (frames : List Frame) (own : Option Name) (t : Tree) → open_names (f ∷ frames) ++ name_points own [] ≡ outer_names f frames ++ names (with_child f own t)
grown_names f frames own t = append_assoc (outer_names f frames) (names f.done) (name_points own []) ∙ ap (λ x. outer_names f frames ++ x) (sym (joined_names f.done own t))

-- there are no more names than nodes
pub name_few : (own : Option Name) (rest : List (List ℕ)) → length (name_points own rest) ≤ length rest + 1
name_few None rest = omega arith
name_few (Some name) rest = omega arith

names_few : (a : Children) → length (names a) ≤ children_node_count a
names_few no_child = omega arith
names_few (child own (node s v) more) = let h = names_few more in let n = name_few own (names more) in let l = length_below 0 v in omega (arith, h, n, l)

pub open_names_few : (frames : List Frame) → length (open_names frames) ≤ open_count frames
open_names_few [] = omega arith
open_names_few (f ∷ frames) =
    let h = open_names_few frames in
    let n = name_few f.name [] in
    let c = names_few f.done in
    let l = length-append (outer_names f frames) (names f.done) in
    let m = length-append (open_names frames) (name_points f.name []) in
    omega (arith, h, n, c, l, m)

pub next_names_few : (frames : List Frame) (own : Option Name) → length (open_names frames ++ name_points own []) ≤ open_count frames + 1
next_names_few frames own = let h = open_names_few frames in let n = name_few own [] in let m = length-append (open_names frames) (name_points own []) in omega (arith, h, n, m)

-- ---- the last of a list

pub last_of : {A : Type 0} (xs : List A) (y d : A) → get_or (xs ++ y ∷ []) (length (xs ++ y ∷ []) - 1) d ≡ y
last_of {A} xs y d =
    let l = length-append xs (y ∷ []) in
    let e : length (xs ++ y ∷ []) - 1 ≡ length xs + 0 = omega (arith, l) in
    ap (λ n. get_or (xs ++ y ∷ []) n d) e ∙ get_or-append-add xs (y ∷ []) 0 d
