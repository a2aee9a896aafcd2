-- A line is selected exactly where the query answers a node.
use Rattle.std.proofs.Common.{◌≡◌, ◌∙◌, ℕ, List, [], ◌∷◌, ◌++◌, append-nil, map, length, refl, sym, ap, Bool, true, false, ◌||◌, ◌&&◌, arith, filter, cond, if◌then◌else◌, Option, None}
use Rattle.std.specs.Prelude.{flat_map, not, ◌==◌}
use Rattle.jp_sink.specs.Events.{Event, event_text, text_of}
use Rattle.std.proofs.lemmas.List.Concat.{flat_map-cons}
use Rattle.std.proofs.lemmas.Bool.{ne_eqb}
use denote.Ref.{Bor}
use Rattle.jp_model.specs.declared.Framing.TheVariants as framings
use Rattle.jp_model.specs.Json.Status.{LineStatus, blank, refused, parsed}
use Rattle.jp_model.specs.Json.Reader.{status_of}
use Rattle.jp_model.specs.Json.Tree.{Tree}
use Rattle.jp_model.specs.Meaning.Nodes.{Node, root_node}
use Rattle.jp_model.specs.Meaning.Selecting.{path_nodes}
use Rattle.jp_model.specs.Query.Syntax.{Path, Segments, path, root}
use Rattle.jp_grep.specs.Conditions.{Condition}
use Rattle.jp_model.specs.Rows.{node_row, status_rows as query_rows}
use Rattle.jp_grep.specs.Laws.{numbered_values, row_with_colon}
use Rattle.jp_grep.specs.Matching.{all_hold, conditions_of, each_of, is_selected, let_match, matches, nodes_asked, nodes_of, queries_of, selects, wants_refused, wants_value}
use Rattle.jp_grep.specs.Rows.{selected_events, status_events, value_event}
use Rattle.jp_form.specs.declared.form.Summary.{Summary}
use Rattle.jp_grep.specs.declared.question.Queries.{Queries}
use Rattle.jp_grep.specs.declared.question.Queries.TheVariants as purposes
use Rattle.jp_grep.specs.declared.question.Question.{Question}
use Rattle.jp_grep.specs.declared.question.Wanted.{Wanted}
use Rattle.jp_grep.specs.declared.question.Wanted.TheVariants as wanted
use Rattle.jp_grep.proofs.laws.rows_are_those_of_a_query.Goals as goal

module _ (summary : Summary) (name told : Bor (List ℕ)) (silent : Bool) (most n : ℕ) (line : List ℕ) where
  abbrev row_of : Node → Event
  row_of = value_event (numbered_values summary name told silent most) true n line

  each : (ns : List Node) → text_of (map row_of ns) ≡ flat_map (row_with_colon line) (map (node_row n) ns)
  each [] = refl
  each (x ∷ ns) = ap (λ l. event_text (row_of x) ++ l) (each ns) ∙ sym (flat_map-cons (row_with_colon line) (node_row n x) (map (node_row n) ns))

  -- the rows of the root, where it is selected
  abbrev of_root : Bool → List Path → Tree → List ℕ
  of_root some queries t = text_of (flat_map (λ node. map row_of (nodes_of queries node t)) (cond some (root_node t ∷ []) []))

  root_rows : (queries : List Path) (t : Tree) → of_root true queries t ≡ text_of (map row_of (nodes_of queries (root_node t) t))
  root_rows queries t = ap text_of (flat_map-cons (λ node. map row_of (nodes_of queries node t)) (root_node t) [] ∙ append-nil (map row_of (nodes_of queries (root_node t) t)))

  -- nothing is lost where nothing is selected
  where_some : (queries : List Path) (t : Tree) (ns : List Node) → nodes_of queries (root_node t) t ≡ ns → of_root (not (length ns == 0) || false) queries t ≡ text_of (map row_of ns)
  where_some queries t [] e = refl
  where_some queries t (x ∷ ns) e =
      ap (λ (b : Bool). of_root (not b || false) queries t) (ne_eqb (length (x ∷ ns)) 0 (λ h. absurd (omega (arith, h))))
      ∙ root_rows queries t ∙ ap (λ l. text_of (map row_of l)) e

  where_matching : (purpose : Queries) (queries : List Path) (t : Tree) (ns : List Node) → nodes_of queries (root_node t) t ≡ ns → of_root (let_match purpose (not (length ns == 0) || false)) queries t ≡ text_of (map row_of ns)
  where_matching purposes.Filter queries t ns e = where_some queries t ns e
  where_matching purposes.Columns queries t ns e = root_rows queries t ∙ ap (λ l. text_of (map row_of l)) e

  selected_by : (question : Question) (query : Segments) → each_of question ≡ None → queries_of question ≡ path root query ∷ [] → conditions_of question ≡ [] → question.wanted ≡ wanted.Matching → (s : LineStatus)
      → text_of (selected_events question (numbered_values summary name told silent most) n line None s) ≡ flat_map (row_with_colon line) (query_rows query n s)
  selected_by question query of_lines queries conditions matching blank = refl
  selected_by question query of_lines queries conditions matching (refused fault) = ap (λ (b : Bool). text_of (if b then [] else [])) (ap wants_refused matching)
  selected_by question query of_lines queries conditions matching (parsed t) =
      let rows_at : Node → List Event = λ node. map row_of (nodes_of (queries_of question) node t) in
      let found = path_nodes (path root query) (root_node t) t in
      ap (λ (o : Option Segments). text_of (flat_map rows_at (filter (is_selected question t) (nodes_asked o t)))) of_lines
      ∙ ap (λ (w : Wanted). of_root (wants_value w (matches question (root_node t) t)) (queries_of question) t) matching
      ∙ ap (λ (cs : List Condition). of_root (all_hold cs (root_node t) t && let_match question.purpose (selects (queries_of question) (root_node t) t)) (queries_of question) t) conditions
      ∙ ap (λ (qs : List Path). of_root (let_match question.purpose (selects qs (root_node t) t)) qs t) queries
      ∙ where_matching question.purpose (path root query ∷ []) t found (flat_map-cons (λ (q : Path). path_nodes q (root_node t) t) (path root query) [] ∙ append-nil found)
      ∙ each found

  -- no row stands around others
  by_status : (question : Question) (query : Segments) → each_of question ≡ None → queries_of question ≡ path root query ∷ [] → conditions_of question ≡ [] → question.wanted ≡ wanted.Matching → (s : LineStatus)
      → text_of (status_events question (numbered_values summary name told silent most) n line None s) ≡ flat_map (row_with_colon line) (query_rows query n s)
  by_status question query of_lines queries conditions matching s =
      ap text_of (append-nil (selected_events question (numbered_values summary name told silent most) n line None s)) ∙ selected_by question query of_lines queries conditions matching s

pub returns : goal.returns
returns c = λ question query of_lines queries conditions matching summary name told silent most n line.
    ap text_of (append-nil (status_events question (numbered_values summary name told silent most) n line None (status_of framings.Lines line)))
    ∙ by_status summary name told silent most n line question query of_lines queries conditions matching (status_of framings.Lines line)
