-- The node that `$` selects is the root.
use Rattle.std.proofs.Common.{◌≡◌, ◌∙◌, ℕ, List, [], ◌∷◌, Bool, refl, sym, ap, ap₂, ◌++◌, filter, flat_map, length, map, true, false, cond, ◌&&◌, if◌then◌else◌, Option}
use Rattle.jp_model.specs.Json.Status.{LineStatus, blank, refused, parsed}
use Rattle.jp_model.specs.Json.Tree.{Tree, span}
use Rattle.jp_model.specs.Meaning.Nodes.{Node}
use Rattle.jp_model.specs.Query.Syntax.{Path, Segments}
use Rattle.jp_form.specs.declared.form.Form.{Form}
use Rattle.jp_form.specs.declared.form.Shown.{Shown}
use Rattle.jp_form.specs.declared.form.Shown.TheVariants as shown
use Rattle.jp_grep.specs.Conditions.{Condition}
use Rattle.jp_grep.specs.Items.{is_given_up, judged}
use Rattle.jp_grep.specs.Laws.{AsksEachRoot}
use Rattle.jp_grep.specs.Matching.{all_hold, conditions_of, each_of, let_match, nodes_asked, nodes_of, queries_of, selected_nodes, selected_of, selects, wanted_of, wants_refused, wants_value}
use Rattle.jp_grep.specs.Rows.{events_around, line_text, node_events, refused_events, row, selected_events, selected_where, status_events, told_of_all, value_event, whole_marked}
use Rattle.jp_sink.specs.Events.{Event, row_event}
use Rattle.jp_grep.specs.Telling.{gap_where}
use Rattle.jp_grep.specs.Tables.{table_row}
use Rattle.jp_grep.specs.declared.question.Queries.{Queries}
use Rattle.jp_grep.specs.declared.question.Question.{Question}
use Rattle.jp_grep.specs.declared.question.Wanted.{Wanted}
use Rattle.jp_grep.proofs.laws.each_root_is_its_line.Goals as goal

module _ (lines each : Question) (asks : AsksEachRoot lines each) where
  abbrev chosen : Wanted → List Condition → Queries → List Path → Option Segments → Tree → List Node
  chosen w conditions purpose queries of t = filter (λ node. wants_value w (all_hold conditions node t && let_match purpose (selects queries node t))) (nodes_asked of t)

  same_nodes : (t : Tree) → selected_nodes each t ≡ selected_nodes lines t
  same_nodes t =
      ap (λ (w : Wanted). chosen w (conditions_of each) each.purpose (queries_of each) (each_of each) t) asks.wanted
      ∙ ap (λ (cs : List Condition). chosen lines.wanted cs each.purpose (queries_of each) (each_of each) t) asks.conditions
      ∙ ap (λ (p : Queries). chosen lines.wanted (conditions_of lines) p (queries_of each) (each_of each) t) asks.purpose
      ∙ ap (λ (qs : List Path). chosen lines.wanted (conditions_of lines) lines.purpose qs (each_of each) t) asks.queries
      ∙ ap (λ (o : Option Segments). chosen lines.wanted (conditions_of lines) lines.purpose (queries_of lines) o t) asks.of_roots
      ∙ ap (λ (o : Option Segments). chosen lines.wanted (conditions_of lines) lines.purpose (queries_of lines) o t) (sym asks.of_lines)

  module _ (form : Form) (n : ℕ) (line : List ℕ) (most : Option ℕ) where
    abbrev shown_by : Tree → Node → List Path → List ℕ
    shown_by t node queries =
        if form.marked then whole_marked form.units (map (λ (found : Node). span found.tree) (nodes_of queries node t)) line t else line_text form.spelling form.units line t

    same_rows : (s : Shown) (t : Tree) (ns : List Node) → flat_map (node_events s each form n line t) ns ≡ flat_map (node_events s lines form n line t) ns
    same_rows shown.Nothing t ns = refl
    same_rows (shown.Line faults) t ns = ap (λ (qs : List Path). flat_map (λ node. row_event true (row form n (shown_by t node qs)) ∷ []) ns) asks.queries
    same_rows shown.Around t ns = ap (λ (qs : List Path). flat_map (λ node. row_event true (row form n (shown_by t node qs)) ∷ []) ns) asks.queries
    same_rows shown.Nodes t ns = refl
    same_rows (shown.Values paths) t ns = ap (λ (qs : List Path). flat_map (λ node. map (value_event form paths n line) (nodes_of qs node t)) ns) asks.queries
    same_rows (shown.Cells table) t ns = ap (λ (qs : List Path). flat_map (λ node. row_event true (table_row table qs form n line t node) ∷ []) ns) asks.queries

    selected_same : (s : LineStatus) → selected_events each form n line most s ≡ selected_events lines form n line most s
    selected_same blank = refl
    selected_same (refused fault) = ap (λ (w : Wanted). if wants_refused w then refused_events form.shown form n line fault else []) asks.wanted
    selected_same (parsed t) = ap (λ (ns : List Node). flat_map (node_events form.shown each form n line t) (wanted_of most ns)) (same_nodes t) ∙ same_rows form.shown t (wanted_of most (selected_nodes lines t))

  same_count : (most : Option ℕ) (s : LineStatus) → selected_of each most s ≡ selected_of lines most s
  same_count most blank = refl
  same_count most (refused fault) = ap (λ (w : Wanted). let n : ℕ = cond (wants_refused w) 1 0 in n) asks.wanted
  same_count most (parsed t) = ap (λ (ns : List Node). length (wanted_of most ns)) (same_nodes t)

  by_status : (form : Form) (n : ℕ) (line : List ℕ) (most : Option ℕ) (s : LineStatus) → status_events each form n line most s ≡ status_events lines form n line most s
  by_status form n line most s = ap₂ (λ (rows : List Event) (count : ℕ). rows ++ events_around form.shown form n line count s) (selected_same form n line most (judged most s)) (same_count most (judged most s))

  count_where : (lost : Bool) (most : Option ℕ) (s : LineStatus) → selected_where lost each most s ≡ selected_where lost lines most s
  count_where true most s = refl
  count_where false most s = same_count most s

pub returns : goal.returns
returns c = λ lines each asks form n item. (ap (λ (events : List Event). told_of_all item.given_up events ++ gap_where (is_given_up item)) (by_status lines each asks form n item.text item.most item.status), count_where lines each asks (is_given_up item) item.most (judged item.most item.status))
