-- What is put of a line that is answered, or given up for want of memory.
use Rattle.std.proofs.Common.{◌≡◌, ◌∙◌, ℕ, List, [], map, refl, sym, ap, inl, inr, Bool, true, false, ◌&&◌, if◌then◌else◌, Option, None, Some, Result, Ok, Err, IsErr}
use Rattle.std.specs.Prelude.{IfOk}
use Rattle.jp_model.specs.Json.Status.{LineStatus}
use Rattle.jp_model.specs.Json.Tree.{Tree}
use Rattle.jp_model.specs.Meaning.Nodes.{Node}
use Rattle.jp_form.specs.declared.form.Form.{Form}
use Rattle.jp_form.specs.declared.form.Shown.{Shown}
use Rattle.jp_form.specs.declared.form.Shown.TheVariants as shown
use Rattle.jp_grep.specs.Matching.{all_hold, conditions_of, is_selected, nodes_of, queries_of, selects, wants_found, wants_nodes, wants_nodes_where, wants_value}
use Rattle.jp_grep.specs.Outcomes.{CameOf}
use Rattle.jp_grep.specs.Rows.{asked_events, node_events, value_event}
use Rattle.jp_grep.specs.declared.question.Question.{Question}
use Rattle.jp_grep.specs.declared.question.Wanted.{Wanted}
use Rattle.jp_grep.specs.declared.question.Wanted.TheVariants as wanted
use Rattle.jp_grep.proofs.Selecting.{none_selected, wanted_rows}

-- at an Err nothing is said of an answer
pub no_answer : {A E : Type 0} (P : A → Type 0) (r : Result A E) → IsErr r → IfOk r P
no_answer P (Ok x) h = absurd (cc)
no_answer P (Err e) h = tt

-- an item is answered or given up
pub came_by : (text : List ℕ) (status : LineStatus) (from_line given_up : Option ℕ)
    → CameOf (record { text = text; status = status; from_line = from_line; most = None; given_up = None }) (record { text = text; status = status; from_line = from_line; most = None; given_up = given_up })
came_by text status from_line None = inl refl
came_by text status from_line (Some count) = inr (count, refl)

-- of the values that are asked for one is selected where the line is
pub found_as : (w : Wanted) (holds some : Bool) → wants_nodes_where w holds (holds && some) ≡ true → wants_found w some ≡ wants_value w (holds && some)
found_as wanted.Matching true some asked = refl
found_as wanted.Matching false some asked = absurd (cc)
found_as wanted.Others holds some asked = sym asked
found_as wanted.Refused holds some asked = absurd (cc)

-- where the values are asked for, their rows are what is told of the node
pub all_values : (q : Question) (f : Form) (paths : Bool) (n : ℕ) (line : List ℕ) (t : Tree) (node : Node) → f.shown ≡ shown.Values paths → wants_nodes q node t ≡ true
    → asked_events q f n line t node ≡ map (value_event f paths n line) (nodes_of (queries_of q) node t)
all_values q f paths n line t node is asked =
    ap (λ (s : Shown). if is_selected q t node then node_events s q f n line t node else []) is
    ∙ wanted_rows q.wanted q.purpose (all_hold (conditions_of q) node t) (selects (queries_of q) node t) (map (value_event f paths n line) (nodes_of (queries_of q) node t))
    (λ e. ap (map (value_event f paths n line)) (none_selected (queries_of q) node t e)) asked

-- where they are not, it is not selected
pub unasked : (w : Wanted) (holds some : Bool) → wants_nodes_where w holds (holds && some) ≡ false → wants_value w (holds && some) ≡ false
unasked wanted.Matching true some e = absurd (cc)
unasked wanted.Matching false some e = refl
unasked wanted.Others holds some e = e
unasked wanted.Refused holds some e = refl
