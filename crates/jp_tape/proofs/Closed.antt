-- What is told where a container closes is held by the nodes.
use Rattle.std.proofs.Common.{◌≡◌, ℕ, ◌+◌, ◌-◌, ◌*◌, ◌/◌, ◌%◌, ◌^◌, ◌<◌, ◌≤◌, Bool, true, false, ◌||◌, List, [], ◌∷◌, ◌++◌, length, set, take, drop, get_or, get_or-append-add, vec_capacity, sym, ◌∙◌, ap, ap₂, subst, refl, arith, None, append_assoc, append-nil, length-append}
use Rattle.std.proofs.lemmas.Option.{none-some}
use Rattle.std.proofs.Math.Seq.{set-append_seam, take-append_seam, drop-append_seam}
use Rattle.jp_model.specs.Json.Tree.{node, container, Container, array, object}
use Rattle.jp_model.specs.Json.Faults.{names, has_repeated, children_have_duplicate}
use Rattle.jp_nodes.specs.Words.{children_node_count, children_words, head_word, span_word, container_code}
use Rattle.jp_tape.specs.declared.builder.nodes.Nodes.{Nodes}
use Rattle.jp_tape.specs.Machine.{Frame, open_count, open_words, open_names, outer_count, next_parent, next_index, open_surrogate, open_duplicate, first_fault}
use Rattle.jp_tape.specs.Reader.{after_value}
use Rattle.jp_tape.specs.Nodes.{Holds, NodesStand}
use Rattle.jp_tape.specs.Names.{spelled_name, spelled_names, IsKept, AreKept}
use Rattle.jp_tape.specs.declared.builder.kept.KeptName.{KeptName}
use Rattle.std.specs.List.{take-map, drop-map}
use Rattle.std.proofs.lemmas.List.{length-take-le}
use Rattle.std.proofs.lemmas.List.Elements.{All-take, All-drop}
use Rattle.jp_tape.proofs.Held.{or_false, or_swap, outer_names, next_names_few, open_length, next_label, next_words, inner_words, length_words}
use Rattle.jp_tape.proofs.Nodes.{same_first, value_told}

-- the first two words of a node are written after other words
set_two : (front rest : List ℕ) (h s x y : ℕ) → set (set (front ++ x ∷ y ∷ rest) (length front) h) (length front + 1) s ≡ front ++ h ∷ s ∷ rest
set_two front rest h s x y =
    let l : length front + 1 ≡ length (front ++ h ∷ []) = sym (length-append front (h ∷ [])) in
    ap (λ (xs : List ℕ). set xs (length front + 1) s) (set-append_seam front x (y ∷ rest) h ∙ sym (append_assoc front (h ∷ []) (y ∷ rest)))
    ∙ (ap (λ n. set ((front ++ h ∷ []) ++ y ∷ rest) n s) l ∙ (set-append_seam (front ++ h ∷ []) y rest s ∙ append_assoc front (h ∷ []) (s ∷ rest)))

-- what is known of the innermost container that is open
pub record Innermost (line : List ℕ) (n : Nodes) (f : Frame) (frames : List Frame) : Type 0 where
  pub place : 3 * n.container + 2 < length n.words.items
  pub count : n.container + 1 ≤ n.count
  pub head : (d : ℕ) → get_or n.words.items (3 * n.container) d ≡ head_word (container_code f.kind) 0 (next_parent frames)
  pub span : (d : ℕ) → get_or n.words.items (3 * n.container + 1) d ≡ span_word (record { start = f.start; end = outer_count f frames })
  pub parent : next_parent frames < 2 ^ 32
  pub start : f.start < 2 ^ 32
  pub outer : outer_count f frames < 2 ^ 32
  pub within : outer_count f frames ≤ length n.names.items
  pub kept : n.later ≡ None → AreKept line (drop (outer_count f frames) n.names.items)

-- where no fault is noted, its names are known
first_lone : (lone too_long repeated : Bool) → None ≡ first_fault lone too_long repeated → lone ≡ false
first_lone true too_long repeated e = absurd (none-some _ e)
first_lone false too_long repeated e = refl

parent_few : (frames : List Frame) → next_parent frames ≤ open_count frames
parent_few [] = omega arith
parent_few (f ∷ frames) = omega arith

pub innermost : (line : List ℕ) (n : Nodes) (f : Frame) (frames : List Frame) (room : ℕ) → Holds line n (f ∷ frames) None room → Innermost line n f frames
innermost line n f frames room h =
    let place : 3 * n.container ≡ length (open_words frames) + 0 = (let c = h.container in let l = open_length frames in omega (arith, c, l)) in
    let next : 3 * n.container + 1 ≡ length (open_words frames) + 1 = omega (arith, place) in
    let size = ap (λ (xs : List ℕ). length xs) h.words ∙ open_length (f ∷ frames) in
    let container = h.container in
    let count = h.count in
    let few = h.few in
    let parent = parent_few frames in
    let outside = next_names_few frames f.name in
    let all = h.name_count in
    let nil = length-append (open_names (f ∷ frames)) [] in
    let split = length-append (outer_names f frames) (names f.done) in
    record {
      place = omega (arith, size, container);
      count = omega (arith, count, container);
      head = λ d. ap₂ (λ (xs : List ℕ) (k : ℕ). get_or xs k d) h.words place ∙ get_or-append-add (open_words frames) (inner_words f frames f.done) 0 d;
      span = λ d. ap₂ (λ (xs : List ℕ) (k : ℕ). get_or xs k d) h.words next ∙ get_or-append-add (open_words frames) (inner_words f frames f.done) 1 d;
      parent = omega (arith, parent, few);
      start = h.opened.0;
      outer = omega (arith, outside, few);
      within = omega (arith, all, nil, split);
      kept = λ e. All-drop (IsKept line) (outer_count f frames) n.names.items (h.kept (first_lone _ _ _ (sym e ∙ h.later)));
    }

-- the names of the container go, and those outside stay
names_stay : (line : List ℕ) (outer inner : List (List ℕ)) (bodies : List KeptName) (n : ℕ) → n ≡ length outer → spelled_names line bodies ≡ outer ++ inner → spelled_names line (take n bodies) ≡ outer
names_stay line outer inner bodies n e h = sym (take-map (spelled_name line) n bodies) ∙ (ap₂ (λ m (xs : List (List ℕ)). take m xs) e h ∙ take-append_seam outer inner)

names_go : (line : List ℕ) (outer inner : List (List ℕ)) (bodies : List KeptName) (n : ℕ) → n ≡ length outer → spelled_names line bodies ≡ outer ++ inner → spelled_names line (drop n bodies) ≡ inner
names_go line outer inner bodies n e h = sym (drop-map (spelled_name line) n bodies) ∙ (ap₂ (λ m (xs : List (List ℕ)). drop m xs) e h ∙ drop-append_seam outer inner)

-- where a surrogate stands alone, equal names don't count
lone_first : (lone long r q : Bool) → (lone ≡ false → r ≡ q) → first_fault lone long r ≡ first_fault lone long q
lone_first true long r q e = refl
lone_first false long r q e = ap (λ x. first_fault false long x) (e refl)

-- the innermost container is closed
pub record Closed (line : List ℕ) (old new : Nodes) (f : Frame) (frames : List Frame) (end : ℕ) : Type 0 where
  pub words : new.words.items ≡ set (set old.words.items (3 * old.container) (head_word (container_code f.kind) (old.count - old.container - 1) (next_parent frames))) (3 * old.container + 1) (span_word (record { start = f.start; end = end }))
  pub capacity : vec_capacity new.words ≡ vec_capacity old.words
  pub count : new.count ≡ old.count
  pub container : new.container ≡ next_parent frames
  pub label : new.label ≡ (get_or new.words.items (3 * old.container + 2) 0 + 1) % 2 ^ 64
  pub names : new.names.items ≡ take (outer_count f frames) old.names.items
  pub name_capacity : vec_capacity new.names ≡ vec_capacity old.names
  pub later : (lone too_long repeated : Bool) → old.later ≡ first_fault lone too_long repeated → new.later ≡ first_fault lone too_long (repeated || has_repeated (spelled_names line (drop (outer_count f frames) old.names.items)))

pub close_told : (line : List ℕ) (f : Frame) (frames : List Frame) (room end : ℕ) (old new : Nodes) → Holds line old (f ∷ frames) None room → Closed line old new f frames end → NodesStand new line (after_value frames f.name (node (record { start = f.start; end = end }) (container f.kind f.done)) room)
close_told line f frames room end old new h c =
    let t = node (record { start = f.start; end = end }) (container f.kind f.done) in
    let outer = outer_names f frames in
    let place : 3 * old.container ≡ length (open_words frames) = (let p = h.container in let l = open_length frames in omega (arith, p, l)) in
    let below : old.count - old.container - 1 ≡ children_node_count f.done = (let p = h.container in let n = h.count in omega (arith, p, n)) in
    let words : new.words.items ≡ open_words frames ++ next_words frames f.name t =
    c.words
    ∙ (ap₂ (λ (p : List ℕ × ℕ) (b : ℕ). set (set p.0 p.1 (head_word (container_code f.kind) b (next_parent frames))) (p.1 + 1) (span_word (record { start = f.start; end = end }))) (ap₂ (λ (xs : List ℕ) (k : ℕ). (xs, k)) h.words place) below
    ∙ set_two (open_words frames) (next_label frames f.name ∷ children_words (open_count frames + 1) (open_count frames) 0 f.done) (head_word (container_code f.kind) (children_node_count f.done) (next_parent frames)) (span_word (record { start = f.start; end = end }))
    (head_word (container_code f.kind) 0 (next_parent frames)) (span_word (record { start = f.start; end = outer_count f frames }))) in
    let third : 3 * old.container + 2 ≡ length (open_words frames) + 2 = omega (arith, place) in
    let lone = or_false (open_surrogate (f ∷ frames)) in
    let spelled = λ (z : open_surrogate (f ∷ frames) ≡ false). h.names (lone ∙ z) ∙ append-nil (open_names (f ∷ frames)) in
    let size = ap (λ (xs : List ℕ). length xs) words ∙ length-append (open_words frames) (next_words frames f.name t) in
    let front = open_length frames in
    let back = length_words (open_count frames) (next_parent frames) (next_index frames) f.name t in
    let before = ap (λ (xs : List ℕ). length xs) h.words ∙ open_length (f ∷ frames) in
    let room_words = h.capacity in
    let same = c.capacity in
    let count = c.count in
    let all = h.count in
    let few = h.few in
    let within = (innermost line old f frames room h).within in
    let taken = ap (λ (xs : List KeptName). length xs) c.names ∙ length-take-le (outer_count f frames) old.names.items within in
    let room_names = h.name_capacity in
    let same_names = c.name_capacity in
    value_told line new frames f.name t room
    (record {
      words = words;
      count = omega (arith, count, all);
      container = c.container;
      label = c.label ∙ ap (λ (x : ℕ). (x + 1) % 2 ^ 64) (ap₂ (λ (xs : List ℕ) (k : ℕ). get_or xs k 0) words third ∙ get_or-append-add (open_words frames) (next_words frames f.name t) 2 0);
      later =
          c.later _ _ _ (h.later ∙ same_first _ _ _ _ _ _ lone refl refl)
          ∙ lone_first _ _ _ _ (λ z.
          ap (λ (ps : List (List ℕ)). (open_duplicate frames || children_have_duplicate f.done) || has_repeated ps) (names_go line outer (names f.done) old.names.items (outer_count f frames) refl (spelled z))
          ∙ or_swap (open_duplicate frames) (children_have_duplicate f.done) (has_repeated (names f.done)));
      name_count = taken;
      names = λ z. ap (spelled_names line) c.names ∙ names_stay line outer (names f.done) old.names.items (outer_count f frames) refl (spelled z);
      kept = λ z. subst (AreKept line) (sym c.names) (All-take (IsKept line) (outer_count f frames) old.names.items (h.kept (lone ∙ z)));
      opened = h.opened.2;
      suits = h.opened.1;
      capacity = omega (arith, size, front, back, before, room_words, same);
      name_capacity = omega (arith, taken, within, room_names, same_names);
      few = omega (arith, few);
    })

-- ---- what the first word of an open container tells

pub opened_word : (kind : Container) (parent word : ℕ) → parent < 2 ^ 32 → word ≡ head_word (container_code kind) 0 parent → word ≡ container_code kind + parent * 2
unfolding head_word
opened_word array parent word l e = let f : word ≡ (5 * 2 ^ 32 + 0 * 2 ^ 32 + parent * 2) % 2 ^ 64 = e in omega (arith, l, f)
opened_word object parent word l e = let f : word ≡ (5 * 2 ^ 32 + 1 + 0 * 2 ^ 32 + parent * 2) % 2 ^ 64 = e in omega (arith, l, f)

pub opened_above : (kind : Container) → 5 * 2 ^ 32 ≤ container_code kind
opened_above array = omega arith
opened_above object = omega arith

pub opened_below : (kind : Container) → container_code kind ≤ 5 * 2 ^ 32 + 1
opened_below array = omega arith
opened_below object = omega arith

pub opened_parent : (kind : Container) (parent word : ℕ) → word ≡ container_code kind + parent * 2 → (word - 5 * 2 ^ 32) / 2 ≡ parent
opened_parent array parent word e = omega (arith, e)
opened_parent object parent word e = omega (arith, e)
