-- What is told of a line is held by the nodes.
use Rattle.std.proofs.Common.{◌≡◌, ℕ, ◌+◌, ◌-◌, ◌*◌, ◌%◌, ◌^◌, ◌<◌, ◌≤◌, Bool, false, ◌||◌, List, [], ◌∷◌, ◌++◌, length, vec_capacity, sym, ◌∙◌, ap, ap₂, subst, refl, arith, Option, Some, None, append-nil, length-append}
use Rattle.std.specs.Prelude.{Vec}
use Rattle.std.specs.Global.{Global}
use Rattle.jp_model.specs.declared.Span.{Span}
use Rattle.jp_model.specs.Json.Tree.{Tree, node, Value, null, boolean, number, string, container, Container, array, object, Children, no_child, child, Name, count_children, joined}
use Rattle.jp_model.specs.Json.Faults.{name_has_lone_surrogate, has_surrogate, has_long_exponent, name_points, names, has_duplicate}
use Rattle.jp_nodes.specs.Words.{kind_code, nodes_below, node_count, value_node_count, children_node_count, label_word, head_word, span_word, container_code}
use Rattle.jp_nodes.specs.Kinds.{code_of}
use Rattle.jp_tape.specs.declared.builder.nodes.Nodes.{Nodes}
use Rattle.jp_tape.specs.declared.builder.tokens.Label.{Label}
use Rattle.jp_tape.specs.declared.builder.tokens.Scalar.{Scalar}
use Rattle.jp_tape.specs.Reading.{FoundLabel, FoundScalar, IsPlainLabel}
use Rattle.jp_tape.specs.Machine.{Frame, entered, open_count, open_words, open_names, next_parent, open_surrogate, open_long, open_duplicate, first_fault}
use Rattle.jp_tape.specs.Reader.{after_value, Suits, SuitsIn}
use Rattle.jp_tape.specs.Nodes.{AreOpen, Holds, NodesStand}
use Rattle.jp_tape.specs.Names.{spelled_name, spelled_names, IsKept, AreKept}
use Rattle.jp_tape.proofs.Kept.{kept_text, kept_name}
use Rattle.jp_tape.specs.declared.builder.kept.KeptName.{KeptName}
use Rattle.std.proofs.lemmas.List.{map-append}
use Rattle.std.proofs.lemmas.List.Elements.{All-append, All-cons}
use Rattle.jp_tape.proofs.Held.{or_false, left_false, right_false, name_few, grown_names, next_label, next_words, grown_tail, children_few, joined_count, grown_surrogate, grown_long, grown_duplicate}

pub same_first : (a b c d e f : Bool) → a ≡ d → b ≡ e → c ≡ f → first_fault a b c ≡ first_fault d e f
same_first a b c d e f p q r = ap₂ (λ (x : Bool × Bool) (y : Bool). first_fault x.0 x.1 y) (ap₂ (λ (x y : Bool). (x, y)) p q) r

-- ---- a value is told

grown_count : (a : Children) (own : Option Name) (t : Tree) → children_node_count (joined a (child own t no_child)) ≡ children_node_count a + node_count t
grown_count no_child own t = omega arith
grown_count (child o u rest) own t = let h = grown_count rest own t in omega (arith, h)

-- what the nodes hold once a value was told
pub record HoldsValue (line : List ℕ) (n : Nodes) (frames : List Frame) (own : Option Name) (t : Tree) (room : ℕ) : Type 0 where
  pub words : n.words.items ≡ open_words frames ++ next_words frames own t
  pub count : n.count ≡ open_count frames + node_count t
  pub container : n.container ≡ next_parent frames
  pub label : n.label ≡ (next_label frames own + 1) % 2 ^ 64
  pub later : n.later ≡ first_fault ((open_surrogate frames || name_has_lone_surrogate own) || has_surrogate t) (open_long line frames || has_long_exponent line t) (open_duplicate frames || has_duplicate t)
  pub name_count : length n.names.items ≡ length (open_names frames ++ name_points own [])
  pub names : (open_surrogate frames || name_has_lone_surrogate own) || has_surrogate t ≡ false → spelled_names line n.names.items ≡ open_names frames ++ name_points own []
  pub kept : (open_surrogate frames || name_has_lone_surrogate own) || has_surrogate t ≡ false → AreKept line n.names.items
  pub opened : AreOpen frames
  pub suits : SuitsIn frames own
  pub capacity : length n.words.items + 3 * room ≤ vec_capacity n.words
  pub name_capacity : length n.names.items + room ≤ vec_capacity n.names
  pub few : open_count frames + node_count t + room < 3 * 2 ^ 30

-- the next element's index
next_element : (kind : Container) (own : Option Name) (index next count : ℕ) → Suits kind own → Suits kind None → next ≡ (label_word index own + 1) % 2 ^ 64 → count ≡ index + 1 → index < 3 * 2 ^ 30 → next ≡ count
next_element array None index next count s z e c l = omega (arith, e, c, l)
next_element array (Some n) index next count s z e c l = absurd s
next_element object own index next count s z e c l = absurd z

pub value_told : (line : List ℕ) (n : Nodes) (frames : List Frame) (own : Option Name) (t : Tree) (room : ℕ) → HoldsValue line n frames own t room → NodesStand n line (after_value frames own t room)
value_told line n [] own t room h = record { words = subst (λ (o : Option Name). n.words.items ≡ next_words [] o t) h.suits h.words; later = subst (λ (o : Option Name). n.later ≡ first_fault (name_has_lone_surrogate o || has_surrogate t) (has_long_exponent line t) (has_duplicate t)) h.suits h.later }
value_told line n (f ∷ frames) own t room h =
    let c = grown_count f.done own t in
    let few = h.few in
    let count = h.count in
    let children = children_few f.done in
    let names = grown_names f frames own t in
    let lone = grown_surrogate f frames own t ∙ sym (or_false _) in
    let room_names = h.name_capacity in
    record {
      words = h.words ∙ grown_tail f frames own t;
      count = omega (arith, count, c);
      container = h.container;
      label = λ s. next_element f.kind own (count_children f.done) n.label _ h.suits s h.label (joined_count f.done own t) (omega (arith, children, few));
      later = h.later ∙ same_first _ _ _ _ _ _ lone (grown_long line f frames own t) (grown_duplicate f frames own t);
      name_count = h.name_count ∙ ap (λ (xs : List (List ℕ)). length xs) (names ∙ sym (append-nil _));
      names = λ z. h.names (lone ∙ z) ∙ (names ∙ sym (append-nil _));
      kept = λ z. h.kept (lone ∙ z);
      opened = h.opened;
      name_capacity = omega (arith, room_names);
      capacity = h.capacity;
      few = omega (arith, few, c);
    }

-- a node is written
pub record Written (old new : Nodes) (ws : List ℕ) : Type 0 where
  pub words : new.words.items ≡ old.words.items ++ ws
  pub size : length ws ≡ 3
  pub capacity : vec_capacity new.words ≡ vec_capacity old.words
  pub count : new.count ≡ old.count + 1
  pub names : new.names ≡ old.names

-- that of a value without children
node_told : (line : List ℕ) (frames : List Frame) (own : Option Name) (room : ℕ) (old new : Nodes) (t : Tree) (ws : List ℕ) (lone long : Bool) → SuitsIn frames own → 0 < room → Holds line old frames own room → Written old new ws → ws ≡ next_words frames own t → node_count t ≡ 1 →
    new.container ≡ old.container → new.label ≡ (old.label + 1) % 2 ^ 64 → ((s l r : Bool) → old.later ≡ first_fault s l r → new.later ≡ first_fault (s || lone) (l || long) r) → has_surrogate t ≡ lone → has_long_exponent line t ≡ long → has_duplicate t ≡ false →
    NodesStand new line (after_value frames own t (room - 1))
node_told line frames own room old new t ws lone long s some h w e one p l later su lo du =
    let room_names = h.name_capacity in
    let one_name = name_few own [] in
    let size = ap (λ (xs : List ℕ). length xs) w.words in
    let both = length-append old.words.items ws in
    let three = w.size in
    let same = w.capacity in
    let capacity = h.capacity in
    let count = w.count in
    let before = h.count in
    let few = h.few in
    value_told line new frames own t (room - 1)
    (record {
      words = w.words ∙ ap₂ (λ (xs ys : List ℕ). xs ++ ys) h.words e;
      count = omega (arith, count, before, one);
      container = p ∙ h.container;
      label = l ∙ ap (λ (x : ℕ). (x + 1) % 2 ^ 64) (h.label s);
      later = later _ _ _ h.later ∙ same_first _ _ _ _ _ _ (ap (λ x. (open_surrogate frames || name_has_lone_surrogate own) || x) (sym su)) (ap (λ x. open_long line frames || x) (sym lo)) (sym (or_false _) ∙ ap (λ x. open_duplicate frames || x) (sym du));
      name_count = ap (λ (v : Vec KeptName Global). length v.items) w.names ∙ h.name_count;
      names = λ z. ap (λ (v : Vec KeptName Global). spelled_names line v.items) w.names ∙ h.names (left_false _ _ z);
      kept = λ z. subst (λ (v : Vec KeptName Global). AreKept line v.items) (sym w.names) (h.kept (left_false _ _ z));
      opened = h.opened;
      suits = s;
      capacity = omega (arith, size, both, three, same, capacity, some);
      name_capacity = subst (λ (v : Vec KeptName Global). length v.items + (room - 1) ≤ vec_capacity v) (sym w.names) (omega (arith, room_names, one_name, some));
      few = omega (arith, few, one, some);
    })

leaf_count : (v : Value) → nodes_below v ≡ 0 → value_node_count v ≡ 1
leaf_count null e = refl
leaf_count (boolean b) e = refl
leaf_count (number m x) e = refl
leaf_count (string points) e = refl
leaf_count (container kind children) e = omega (arith, e)

pub leaf_told : (line : List ℕ) (frames : List Frame) (own : Option Name) (room at : ℕ) (r : Scalar) (old new : Nodes) (s : FoundScalar line at r) → SuitsIn frames own → 0 < room → Holds line old frames own room →
    Written old new (head_word (code_of r.kind) 0 old.container ∷ span_word (record { start = at; end = r.end }) ∷ old.label ∷ []) → new.container ≡ old.container → new.label ≡ (old.label + 1) % 2 ^ 64 →
    ((a b c : Bool) → old.later ≡ first_fault a b c → new.later ≡ first_fault (a || r.is_lone) (b || r.is_long) c) → NodesStand new line (after_value frames own (node (record { start = at; end = r.end }) s.value) (room - 1))
leaf_told line frames own room at r old new s suits some h w p l later =
    let here : Span = record { start = at; end = r.end } in
    let t = node here s.value in
    let head : head_word (code_of r.kind) 0 old.container ≡ head_word (kind_code s.value) (nodes_below s.value) (next_parent frames) =
    ap₂ (λ x y. head_word x y old.container) (sym s.is_kind) (sym s.leaf) ∙ ap (head_word (kind_code s.value) (nodes_below s.value)) h.container in
    let one : head_word (code_of r.kind) 0 old.container ∷ span_word here ∷ old.label ∷ [] ≡ next_words frames own t =
    ap₂ (λ (x : ℕ) (xs : List ℕ). x ∷ span_word here ∷ xs) head (ap₂ (λ (x : ℕ) (xs : List ℕ). x ∷ xs) (h.label suits) (sym (s.bare (open_count frames)))) in
    node_told line frames own room old new t _ r.is_lone r.is_long suits some h w one (leaf_count s.value s.leaf) p l later s.surrogate s.exponent s.duplicate

pub empty_told : (line : List ℕ) (frames : List Frame) (own : Option Name) (room at end : ℕ) (kind : Container) (old new : Nodes) → SuitsIn frames own → 0 < room → Holds line old frames own room →
    Written old new (head_word (container_code kind) 0 old.container ∷ span_word (record { start = at; end = end }) ∷ old.label ∷ []) → new.container ≡ old.container → new.label ≡ (old.label + 1) % 2 ^ 64 → new.later ≡ old.later →
    NodesStand new line (after_value frames own (node (record { start = at; end = end }) (container kind no_child)) (room - 1))
empty_told line frames own room at end kind old new suits some h w p l later =
    let here : Span = record { start = at; end = end } in
    let t = node here (container kind no_child) in
    let one : head_word (container_code kind) 0 old.container ∷ span_word here ∷ old.label ∷ [] ≡ next_words frames own t =
    ap₂ (λ (x y : ℕ). head_word (container_code kind) 0 x ∷ span_word here ∷ y ∷ []) h.container (h.label suits) in
    node_told line frames own room old new t _ false false suits some h w one refl p l (λ a b c e. later ∙ (e ∙ same_first _ _ _ _ _ _ (sym (or_false a)) (sym (or_false b)) refl)) refl refl refl

-- ---- a container is entered

pub open_told : (line : List ℕ) (frames : List Frame) (own : Option Name) (room at : ℕ) (kind : Container) (old new : Nodes) → at < 2 ^ 32 → SuitsIn frames own → 0 < room → Holds line old frames own room →
    Written old new (head_word (container_code kind) 0 old.container ∷ span_word (record { start = at; end = length old.names.items }) ∷ old.label ∷ []) → new.container ≡ old.count → new.label ≡ 0 → new.later ≡ old.later → Holds line new (entered kind at own ∷ frames) None (room - 1)
open_told line frames own room at kind old new inside suits some h w p l later =
    let size = ap (λ (xs : List ℕ). length xs) w.words in
    let both = length-append old.words.items (head_word (container_code kind) 0 old.container ∷ span_word (record { start = at; end = length old.names.items }) ∷ old.label ∷ []) in
    let same = w.capacity in
    let capacity = h.capacity in
    let count = w.count in
    let before = h.count in
    let few = h.few in
    let room_names = h.name_capacity in
    let one_name = name_few own [] in
    let names = sym (append-nil _) ∙ sym (append-nil _) in
    let lone = sym (or_false (open_surrogate frames || name_has_lone_surrogate own)) ∙ sym (or_false _) in
    record {
      words = w.words ∙ ap₂ (λ (xs ys : List ℕ). xs ++ ys) h.words (ap₂ (λ (x : ℕ) (y : ℕ × ℕ). head_word (container_code kind) 0 x ∷ span_word (record { start = at; end = y.0 }) ∷ y.1 ∷ []) h.container (ap₂ (λ (x y : ℕ). (x, y)) h.name_count (h.label suits)));
      count = omega (arith, count, before);
      container = p ∙ h.count;
      label = λ s. l;
      later = later ∙ (h.later ∙ same_first _ _ _ _ _ _ lone (sym (or_false _)) (sym (or_false _)));
      name_count = ap (λ (v : Vec KeptName Global). length v.items) w.names ∙ (h.name_count ∙ ap (λ (xs : List (List ℕ)). length xs) names);
      names = λ z. ap (λ (v : Vec KeptName Global). spelled_names line v.items) w.names ∙ (h.names (lone ∙ z) ∙ names);
      kept = λ z. subst (λ (v : Vec KeptName Global). AreKept line v.items) (sym w.names) (h.kept (lone ∙ z));
      opened = (inside, suits, h.opened);
      capacity = omega (arith, size, both, same, capacity, some);
      name_capacity = subst (λ (v : Vec KeptName Global). length v.items + (room - 1) ≤ vec_capacity v + 0) (sym w.names) (omega (arith, room_names, one_name, some));
      few = omega (arith, few, some);
    }

-- ---- a name is told

pub name_told : (line : List ℕ) (from : ℕ) (frames : List Frame) (room : ℕ) (r : Label) (old new : Nodes) (f : FoundLabel line from r) → IsPlainLabel line r → Holds line old frames None room → new.words ≡ old.words → new.count ≡ old.count → new.container ≡ old.container →
    new.label ≡ span_word r.name → new.names.items ≡ old.names.items ++ record { body = r.name; is_plain = r.is_plain } ∷ [] → vec_capacity new.names ≡ vec_capacity old.names → ((a b c : Bool) → old.later ≡ first_fault a b c → new.later ≡ first_fault (a || r.is_lone) (b || false) c) → Holds line new frames (Some f.name) room
name_told line from frames room r old new f plain h ws count place label names same later =
    let lone = or_false (open_surrogate frames) in
    let nil = append-nil (open_names frames) in
    let b : KeptName = record { body = r.name; is_plain = r.is_plain } in
    let size = ap (λ (xs : List KeptName). length xs) names ∙ length-append old.names.items (b ∷ []) in
    let before = h.name_count ∙ ap (λ (xs : List (List ℕ)). length xs) nil in
    let after = length-append (open_names frames) (f.name.points ∷ []) in
    let room_names = h.name_capacity in
    record {
      words = ap (λ (v : Vec ℕ Global). v.items) ws ∙ h.words;
      count = count ∙ h.count;
      container = place ∙ h.container;
      label = λ z. label ∙ ap span_word f.is_body;
      later = later _ _ _ h.later ∙ same_first _ _ _ _ _ _ (ap₂ (λ (x y : Bool). x || y) lone f.surrogate) (or_false _) refl;
      name_count = omega (arith, size, before, after);
      names = λ z.
          let own : r.is_lone ≡ false = f.surrogate ∙ right_false _ _ z in
          ap (spelled_names line) names
          ∙ (map-append (spelled_name line) old.names.items (b ∷ [])
          ∙ ap₂ (λ (xs : List (List ℕ)) (x : List ℕ). xs ++ x ∷ []) (h.names (lone ∙ left_false _ _ z) ∙ nil) (sym (kept_text line from r f own).1));
      kept = λ z.
          let own : r.is_lone ≡ false = f.surrogate ∙ right_false _ _ z in
          subst (AreKept line) (sym names)
          (All-append (IsKept line) old.names.items (b ∷ []) (h.kept (lone ∙ left_false _ _ z)) (All-cons (IsKept line) b [] (kept_name line from r f own plain) (λ k d l. absurd (omega (arith, l)))));
      opened = h.opened;
      capacity = subst (λ (v : Vec ℕ Global). length v.items + 3 * room ≤ vec_capacity v) (sym ws) h.capacity;
      name_capacity = omega (arith, size, same, room_names);
      few = h.few;
    }
