-- The parts of a query keep its meaning as the last of them become slots.
use Rattle.std.proofs.Common.{◌≡◌, ◌∙◌, ℕ, zero, suc, List, [], ◌∷◌, ◌++◌, Vec, Global, append_assoc, append-nil, drop, flat_map, length, map, refl, sym, ap, subst, take}
use Rattle.std.proofs.lemmas.List.Concat.{flat_map-append}
use Rattle.jp_model.specs.Query.Syntax.{Segments, segment}
use Rattle.jp_syntax.specs.View.{segment_view, segments_view}
use Rattle.jp_syntax.specs.declared.tree.Segment.{Segment}
use Rattle.jp_eval.specs.Programs.{Means, Onward, Table, onward, step_view, steps_view, table_of}
use Rattle.jp_eval.specs.declared.program.Slot.{Slot}
use Rattle.jp_eval.specs.declared.program.Step.{Step}
use Rattle.jp_eval.proofs.Meanings.{both_mean, map_last, means_by, whole}

-- a segment, and those after it
abbrev pub onward_from : Segment → Onward
onward_from s = segment (segment_view s)

pub onward_is : (all : List Segment) → onward (map onward_from all) ≡ segments_view all
onward_is [] = refl
onward_is (s ∷ all) = ap (segment (segment_view s)) (onward_is all)

-- the last of them, as one
onward_last : (first others : List Onward) → onward (first ++ (λ (more : Segments). onward others) ∷ []) ≡ onward (first ++ others)
onward_last [] others = refl
onward_last (v ∷ first) others = ap v (onward_last first others)

first_part : {A B : Type 0} (f : A → B) (first others : List A) → map f first ≡ take (length first) (map f (first ++ others))
first_part f [] others = refl
first_part f (x ∷ first) others = ap (λ l. f x ∷ l) (first_part f first others)

last_part : {A B : Type 0} (f : A → B) (first others : List A) → map f others ≡ drop (length first) (map f (first ++ others))
last_part f [] others = refl
last_part f (x ∷ first) others = last_part f first others

both_parts : {A : Type 0} (k : ℕ) (l : List A) → take k l ++ drop k l ≡ l
both_parts zero l = refl
both_parts (suc k) [] = refl
both_parts (suc k) (x ∷ l) = ap (λ m. x ∷ m) (both_parts k l)

-- the steps mean the query that was seen so
pub record Links (old now : List Slot) (steps : List Step) (seen : List Onward) : Type 0 where
  pub views : List Onward
  pub means : Means old now (λ (table : Table). map (step_view table) steps) views
  pub same : onward views ≡ onward seen

-- the last steps became a slot
pub link_one : (old mid new : List Slot) (first others : List Step) (known : Step) (seen : List Onward) → Links old mid (first ++ others) seen
    → Means mid new (λ (table : Table). step_view table known) (λ (more : Segments). steps_view (table_of mid) others) → Links old new (first ++ known ∷ []) seen
link_one old mid new first others known seen l m =
    let k : ℕ = length first in
    let a : Means old mid (λ (table : Table). map (step_view table) first) (take k l.views) = means_by (take k) (λ (table : Table). map (step_view table) first) (take k l.views) (λ table. first_part (step_view table) first others) refl l.means in
    let b : Means old mid (λ (table : Table). map (step_view table) others) (drop k l.views) = means_by (drop k) (λ (table : Table). map (step_view table) others) (drop k l.views) (λ table. last_part (step_view table) first others) refl l.means in
    let tail : steps_view (table_of mid) others ≡ onward (drop k l.views) = ap onward (whole old mid b) in
    let c : Means mid new (λ (table : Table). step_view table known) (λ (more : Segments). onward (drop k l.views)) =
    subst (λ (ss : Segments). Means mid new (λ (table : Table). step_view table known) (λ (more : Segments). ss)) tail m in
    record {
      views = take k l.views ++ (λ (more : Segments). onward (drop k l.views)) ∷ [];
      means = both_mean (λ (vs : List Onward) (v : Onward). vs ++ v ∷ []) (λ (table : Table). map (step_view table) (first ++ known ∷ [])) (take k l.views ++ (λ (more : Segments). onward (drop k l.views)) ∷ []) (λ table. map_last (step_view table) first known) refl a c;
      same = onward_last (take k l.views) (drop k l.views) ∙ (ap onward (both_parts k l.views) ∙ l.same);
    }

-- the steps of some parts
abbrev pub steps_of : List (Vec Step Global) → List Step
steps_of parts = flat_map (λ part. part.items) parts

-- one part less
pub part_linked : (old mid new : List Slot) (all before : List (Vec Step Global)) (part now : Vec Step Global) (others : List Step) (known : Step) (seen : List Onward) → all ≡ before ++ part ∷ [] → now.items ≡ part.items ++ known ∷ []
    → Links old mid (steps_of all ++ others) seen → Means mid new (λ (table : Table). step_view table known) (λ (more : Segments). steps_view (table_of mid) others) → Links old new (steps_of before ++ now.items) seen
part_linked old mid new all before part now others known seen e n l m =
    let front : List Step = steps_of before ++ part.items in
    let whole_is : steps_of all ++ others ≡ front ++ others =
    ap (λ (ps : List (Vec Step Global)). steps_of ps ++ others) e
    ∙ ap (λ (ss : List Step). ss ++ others) (flat_map-append (λ (p : Vec Step Global). p.items) before (part ∷ []) ∙ ap (λ (ss : List Step). steps_of before ++ ss) (append-nil part.items)) in
    let now_is : front ++ known ∷ [] ≡ steps_of before ++ now.items = append_assoc (steps_of before) part.items (known ∷ []) ∙ ap (λ (ss : List Step). steps_of before ++ ss) (sym n) in
    subst (λ (ss : List Step). Links old new ss seen) now_is (link_one old mid new front others known seen (subst (λ (ss : List Step). Links old mid ss seen) whole_is l) m)

-- no part is left
pub all_linked : (old now : List Slot) (all : List (Vec Step Global)) (others : List Step) (seen : List Onward) → all ≡ [] → Links old now (steps_of all ++ others) seen → Means old now (λ (table : Table). steps_view table others) (onward seen)
all_linked old now all others seen e l =
    let own : Links old now others seen = subst (λ (ps : List (Vec Step Global)). Links old now (steps_of ps ++ others) seen) e l in
    means_by onward (λ (table : Table). steps_view table others) (onward seen) (λ table. refl) (sym own.same) own.means
