-- What is kept is right in each run that asks the same slots.
use Rattle.std.proofs.Common.{◌≡◌, ◌∙◌, ◌<◌, ◌+◌, ℕ, List, [], ◌∷◌, ◌++◌, Option, Some, Result, Ok, Err, Vec, Global, ap, subst, sym, ap₂, refl}
use Rattle.std.specs.Prelude.{OnOk, slice_get}
use Rattle.jp_model.specs.Meaning.Selecting.{compared_value, nodes, selected, truth}
use Rattle.jp_model.specs.Meaning.Nodes.{Node, children}
use Rattle.jp_model.specs.Json.Tree.{Tree}
use Rattle.jp_model.specs.Query.Syntax as syntax
use Rattle.jp_model.specs.Query.Syntax.{Segments}
use Rattle.jp_nodes.specs.declared.cursor.Cursor.{Cursor}
use Rattle.jp_nodes.specs.Cursors.{line_of, node_of}
use Rattle.jp_nodes.specs.Spots.{Spot}
use Rattle.jp_nodes.proofs.Cursors.{same_spot}
use Rattle.jp_eval.specs.Answers.{IsAnswer, IsRunOf, slots_in, table_in, tree_in}
use Rattle.jp_eval.specs.Frames.{AreKept, IsFrameFor, IsKept, Lends, Pushes, reached}
use Rattle.jp_eval.specs.Found.{Adds}
use Rattle.jp_eval.specs.Functions.{pattern_in}
use Rattle.jp_eval.specs.Programs.{Meant, Onward, Table, choices_view, logical_or_none, side_or_none, steps_view, table_of, tail_at, tail_or_none}
use Rattle.jp_eval.specs.Tallies.{IsKnown, tally}
use Rattle.jp_eval.specs.declared.sums.Sum.{Sum}
use Rattle.jp_eval.specs.declared.frame.Answer.{Answer}
use Rattle.jp_eval.specs.declared.frame.Answer.TheVariants as answers
use Rattle.jp_eval.specs.declared.frame.Frame.{Frame}
use Rattle.jp_eval.specs.declared.frame.Run.{Run}
use Rattle.jp_eval.specs.declared.frame.Walk.{Walk}
use Rattle.jp_eval.specs.declared.program.Choice.{Choice}
use Rattle.jp_eval.specs.declared.program.Slot.{Slot}
use Rattle.jp_eval.specs.declared.program.Step.{Step}
use Rattle.jp_eval.specs.declared.program.Step.TheVariants as steps
use Rattle.jp_eval.proofs.Kept.{adds_none}
use Rattle.jp_model.proofs.Seek.{no_nodes}
use Rattle.jp_eval.proofs.Childless.{none_selected}
use Rattle.jp_eval.proofs.Compiled.{descendant_is}
use Rattle.jp_eval.proofs.Nodelists.{below_first}
use Rattle.jp_eval.proofs.Sizes.{size_of_segments, size_of_selectors}
use Rattle.jp_eval.proofs.Tables.{get_in_part}

-- the root of a line is one node
same_root : (run other : Run) → line_of other.root.now ≡ line_of run.root.now → node_of other.root.now ≡ node_of run.root.now
same_root run other l = ap (λ (s : Spot). s.node) (same_spot other.root.now run.root.now l (other.at_root ∙ sym run.at_root))

-- in the same line an answer is the same
answer_in : (run other : Run) → line_of other.root.now ≡ line_of run.root.now → (found : List Cursor) (meant : Option Meant) (answer : Answer) → IsAnswer run found meant answer → IsAnswer other found meant answer
answer_in run other l found meant (answers.Holds is) h = h ∙ ap (λ (r : Node). truth (logical_or_none meant) r r.tree) (sym (same_root run other l))
answer_in run other l found meant (answers.Value side) h = record { value = h.value ∙ ap (λ (r : Node). compared_value (side_or_none meant) r r.tree) (sym (same_root run other l)); sound = h.sound }
answer_in run other l found meant (answers.Pattern read) h = h ∙ ap (λ (r : Node). pattern_in (compared_value (side_or_none meant) r r.tree)) (sym (same_root run other l))
answer_in run other l found meant (answers.Sums sums) h = λ c known line at.
    subst (λ (text : List ℕ). IsKnown text found sums.most (nodes (tail_or_none meant) (node_of c ∷ []) (node_of other.root.now).tree) known) (sym l)
    (subst (λ (r : Node). IsKnown (line_of run.root.now) found sums.most (nodes (tail_or_none meant) (node_of c ∷ []) r.tree) known) (sym (same_root run other l)) (h c known (line ∙ l) at))

-- so is what is kept of the same slots
pub kept_in_line : (run other : Run) → other.slots.now ≡ run.slots.now → line_of other.root.now ≡ line_of run.root.now → (frame : Frame) → IsKept run frame → IsKept other frame
kept_in_line run other s l frame h position answer is =
    subst (λ (slots : List Slot). IsAnswer other frame.found.items (slice_get (table_of slots) position) answer) (sym s) (answer_in run other l frame.found.items (slice_get (slots_in run) position) answer (h position answer is))

pub kept_in : (run other : Run) → IsRunOf run other → (frame : Frame) → IsKept run frame → IsKept other frame
kept_in run other w frame h = kept_in_line run other w.slots (ap line_of w.root) frame h

run_back : (run other : Run) → IsRunOf run other → IsRunOf other run
run_back run other w = record { slots = sym w.slots; root = sym w.root }

-- what is kept of a slot that is known is the answer to it
pub answer_at : (run : Run) (found : List Cursor) (kept : List (Option Answer)) (position : ℕ) (answer : Answer) → AreKept run found kept → position < run.known → slice_get kept position ≡ Some (Some answer) → IsAnswer run found (slice_get (table_in run) position) answer
answer_at run found kept position answer h known is = subst (λ (m : Option Meant). IsAnswer run found m answer) (sym (get_in_part (slots_in run) run.known position known)) (h position answer is)

-- a frame that is right in a run is right where the same slots are asked
pub frame_in : {run : Run} {inner : Walk} (node : Cursor) (frame : Frame) → IsRunOf run inner.run.now → line_of node ≡ line_of run.root.now → IsKept run frame → IsFrameFor inner node frame
frame_in {run} {inner} node frame w line h = record { line = line ∙ ap line_of (sym w.root); kept = kept_in run inner.run.now w frame h }

-- what was lent there was lent
pub lent_back : {E : Type 0} {A : Type 0} (outer : Walk) {inner : Walk} {old new : Frame} {result : Result A E} → IsRunOf outer.run.now inner.run.now → Lends inner old new result → Lends outer old new result
lent_back {E} {A} outer {inner} {old} {new} {result} w h = record {
  adds = subst (λ (r : Cursor). Adds (line_of r) old.found.items new.found.items) w.root h.adds;
  kept = kept_in inner.run.now outer.run.now (run_back outer.run.now inner.run.now w) new h.kept;
  same = h.same;
  sum = h.sum;
}

pub kept_back : (run other : Run) → IsRunOf run other → (frame : Frame) → IsKept other frame → IsKept run frame
kept_back run other w frame h = kept_in other run (run_back run other w) frame h

-- what was added there was added
pub pushed_back : {E : Type 0} {U : Type 0} (outer : Walk) {inner : Walk} {old new : Frame} {result : Result U E} {found : List Node} → IsRunOf outer.run.now inner.run.now → inner.most ≡ outer.most → Pushes inner old new result found → Pushes outer old new result found
pushed_back {E} {U} outer {inner} {old} {new} {result} {found} w m h = record {
  adds = subst (λ (r : Cursor). Adds (line_of r) old.found.items new.found.items) w.root h.adds;
  kept = kept_in inner.run.now outer.run.now (run_back outer.run.now inner.run.now w) new h.kept;
  told = subst (λ (most : ℕ). OnOk result (tally (line_of outer.run.now.root.now) most new [] ≡ tally (line_of outer.run.now.root.now) most old found)) m
      (subst (λ (r : Cursor). OnOk result (tally (line_of r) inner.most new [] ≡ tally (line_of r) inner.most old found)) w.root h.told);
}

-- where room was made first
pub lent_from : {E : Type 0} {A : Type 0} (walk : Walk) (old : Frame) {mid new : Frame} {result : Result A E} → mid.found ≡ old.found → mid.sum ≡ old.sum → Lends walk mid new result → Lends walk old new result
lent_from {E} {A} walk old {mid} {new} {result} f n h = record {
  adds = subst (λ (v : Vec Cursor Global). Adds (line_of walk.run.now.root.now) v.items new.found.items) f h.adds;
  kept = h.kept;
  same = subst (λ (v : Vec Cursor Global). OnOk result (new.found.items ≡ v.items)) f h.same;
  sum = subst (λ (k : Sum). OnOk result (new.sum ≡ k)) n h.sum;
}

-- where no more than room was made
on_ok : {E : Type 0} {A : Type 0} (result : Result A E) (P : Type 0) → P → OnOk result P
on_ok (Ok x) P h = h
on_ok (Err e) P h = tt

pub lent_room : {E : Type 0} {A : Type 0} (walk : Walk) (old new : Frame) (result : Result A E) → IsKept walk.run.now new → new.found ≡ old.found → new.sum ≡ old.sum → Lends walk old new result
lent_room {E} {A} walk old new result h f n =
    let same : new.found.items ≡ old.found.items = ap (λ (v : Vec Cursor Global). v.items) f in
    record {
      adds = adds_none (line_of walk.run.now.root.now) old.found.items new.found.items same;
      kept = h;
      same = on_ok result (new.found.items ≡ old.found.items) same;
      sum = on_ok result (new.sum ≡ old.sum) n;
    }

-- what the steps of a slot select
pub slot_reached : (run inner : Run) (position : ℕ) (steps : List Step) (ns : List Node) → IsRunOf run inner → tail_at (table_in run) position ≡ steps_view (table_in inner) steps → reached inner steps ns ≡ nodes (tail_at (table_in run) position) ns (tree_in run)
slot_reached run inner position steps ns w e =
    ap (λ (ss : Segments). nodes ss ns (tree_in inner)) (sym e) ∙ ap (λ (r : Cursor). nodes (tail_at (table_in run) position) ns (node_of r).tree) w.root

pub slot_size : (run inner : Run) (position : ℕ) (steps : List Step) → tail_at (table_in run) position ≡ steps_view (table_in inner) steps → size_of_segments (tail_at (table_in run) position) ≡ size_of_segments (steps_view (table_in inner) steps)
slot_size run inner position steps e = ap size_of_segments e

-- where they begin with a descendant segment
pub slot_below : (run inner : Run) (position : ℕ) (all : Vec Choice Global) (choices : List Choice) (rest : List Step) (n : Node) → IsRunOf run inner → tail_at (table_in run) position ≡ steps_view (table_in inner) (steps.Descendant all ∷ rest) → choices ≡ all.items
    → reached inner rest (selected (choices_view (table_in inner) choices) n (tree_in inner)) ++ nodes (tail_at (table_in run) position) (children n) (tree_in run) ≡ nodes (tail_at (table_in run) position) (n ∷ []) (tree_in run)
slot_below run inner position all choices rest n w e same =
    let table : Table = table_in inner in
    let ss : Segments = steps_view table rest in
    let t : Tree = tree_in run in
    let tail_is : tail_at (table_in run) position ≡ syntax.segment (syntax.descendant_segment (choices_view table choices)) ss =
    e ∙ (ap (λ (f : Onward). f ss) (descendant_is table all) ∙ ap (λ (l : List Choice). syntax.segment (syntax.descendant_segment (choices_view table l)) ss) (sym same)) in
    ap (λ (r : Cursor). nodes ss (selected (choices_view table choices) n (node_of r).tree) (node_of r).tree ++ nodes (tail_at (table_in run) position) (children n) t) w.root
    ∙ (ap (λ (x : Segments). nodes ss (selected (choices_view table choices) n t) t ++ nodes x (children n) t) tail_is
    ∙ (sym (below_first (choices_view table choices) ss n t)
    ∙ ap (λ (x : Segments). nodes x (n ∷ []) t) (sym tail_is)))

-- and the node has no children
pub slot_leaf : (run inner : Run) (position : ℕ) (all : Vec Choice Global) (first : Step) (own rest : List Step) (n : Node) → IsRunOf run inner → tail_at (table_in run) position ≡ steps_view (table_in inner) own → own ≡ first ∷ rest → first ≡ steps.Descendant all → children n ≡ []
    → nodes (tail_at (table_in run) position) (n ∷ []) (tree_in run) ≡ []
slot_leaf run inner position all first own rest n w view are is none =
    let table : Table = table_in inner in
    let ss : Segments = steps_view table rest in
    let tail : Segments = tail_at (table_in run) position in
    sym (slot_below run inner position all all.items rest n w (view ∙ ap (steps_view table) (are ∙ ap (λ (x : Step). x ∷ rest) is)) refl)
    ∙ ap₂ (λ (xs ys : List Node). xs ++ ys)
    (ap (λ (l : List Node). nodes ss l (tree_in inner)) (none_selected (choices_view table all.items) n (tree_in inner) none) ∙ no_nodes ss (tree_in inner))
    (ap (λ (l : List Node). nodes tail l (tree_in run)) none ∙ no_nodes tail (tree_in run))

pub below_size : (run inner : Run) (position : ℕ) (all : Vec Choice Global) (choices : List Choice) (rest : List Step) → tail_at (table_in run) position ≡ steps_view (table_in inner) (steps.Descendant all ∷ rest) → choices ≡ all.items
    → size_of_segments (tail_at (table_in run) position) ≡ size_of_selectors (choices_view (table_in inner) choices) + 11 + size_of_segments (steps_view (table_in inner) rest)
below_size run inner position all choices rest e same =
    ap size_of_segments e
    ∙ (ap (λ (f : Onward). size_of_segments (f (steps_view (table_in inner) rest))) (descendant_is (table_in inner) all)
    ∙ ap (λ (l : List Choice). size_of_selectors (choices_view (table_in inner) l) + 11 + size_of_segments (steps_view (table_in inner) rest)) (sym same))
