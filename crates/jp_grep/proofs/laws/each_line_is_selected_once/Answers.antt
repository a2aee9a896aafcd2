-- The query `$` selects each value, and no line that is refused.
use Rattle.std.proofs.Common.{◌≡◌, ◌∙◌, ◌+◌, ℕ, List, [], ◌∷◌, ◌++◌, append-nil, filter, flat_map, length, refl, ap, ap₂, Bool, true, false, cond, ◌&&◌, if◌then◌else◌, Option, None}
use Rattle.jp_sink.specs.Events.{Event, row_event, text_of}
use denote.Ref.{Bor}
use Rattle.jp_model.specs.declared.Framing.TheVariants as framings
use Rattle.jp_model.specs.Json.Status.{LineStatus, blank, refused, parsed}
use Rattle.jp_model.specs.Json.Reader.{status_of}
use Rattle.jp_model.specs.Json.Tree.{Tree}
use Rattle.jp_model.specs.Meaning.Nodes.{Node, root_node}
use Rattle.jp_model.specs.Query.Syntax.{Path, Segments}
use Rattle.jp_grep.specs.Conditions.{Condition}
use Rattle.jp_model.specs.Rows.{line_feed}
use Rattle.jp_grep.specs.Matching.{all_hold, each_of, is_selected, let_match, matches, nodes_asked, queries_of, selected_nodes, selected_of, selects, wants_refused, wants_value}
use Rattle.jp_grep.specs.Once.{AsksRoot, bare_lines}
use Rattle.jp_grep.specs.Rows.{selected_events, status_events}
use Rattle.jp_form.specs.declared.form.Summary.{Summary}
use Rattle.jp_grep.specs.declared.question.Queries.{Queries}
use Rattle.jp_grep.specs.declared.question.Queries.TheVariants as purposes
use Rattle.jp_grep.specs.declared.question.Question.{Question}
use Rattle.jp_grep.specs.declared.question.Wanted.{Wanted}
use Rattle.jp_grep.specs.declared.question.Wanted.TheVariants as wanted
use Rattle.jp_grep.proofs.laws.each_line_is_selected_once.Goals as goal

some_match : (purpose : Queries) → let_match purpose true ≡ true
some_match purposes.Filter = refl
some_match purposes.Columns = refl

selected_root : (root : Question) (t : Tree) → AsksRoot root → is_selected root t (root_node t) ≡ true
selected_root root t asks =
    ap (λ (w : Wanted). wants_value w (matches root (root_node t) t)) asks.wanted
    ∙ ap (λ (cs : List Condition). all_hold cs (root_node t) t && let_match root.purpose (selects (queries_of root) (root_node t) t)) asks.conditions
    ∙ ap (λ (qs : List Path). let_match root.purpose (selects qs (root_node t) t)) asks.queries
    ∙ some_match root.purpose

one_of : (root : Question) (t : Tree) → AsksRoot root → selected_nodes root t ≡ root_node t ∷ []
one_of root t asks =
    ap (λ (o : Option Segments). filter (is_selected root t) (nodes_asked o t)) asks.each
    ∙ ap (λ (b : Bool). let ns : List Node = cond b (root_node t ∷ []) [] in ns) (selected_root root t asks)

none_by : (test : Node → Bool) → ((node : Node) → test node ≡ false) → (nodes : List Node) → filter test nodes ≡ []
none_by test never [] = refl
none_by test never (node ∷ nodes) = ap (λ (b : Bool). cond b (node ∷ filter test nodes) (filter test nodes)) (never node) ∙ none_by test never nodes

none_of : (other : Question) (t : Tree) → other.wanted ≡ wanted.Refused → selected_nodes other t ≡ []
none_of other t refuses = none_by (is_selected other t) (λ node. ap (λ (w : Wanted). wants_value w (matches other node t)) refuses) (nodes_asked (each_of other) t)

by_one : (root other : Question) → AsksRoot root → other.wanted ≡ wanted.Refused → (s : LineStatus) → ¬ (s ≡ blank) → selected_of root None s + selected_of other None s ≡ 1
by_one root other asks refuses blank present = absurd (present refl)
by_one root other asks refuses (refused fault) present = ap₂ (λ (a b : Bool). let m : ℕ = cond a 1 0 in let n : ℕ = cond b 1 0 in m + n) (ap wants_refused asks.wanted) (ap wants_refused refuses)
by_one root other asks refuses (parsed t) present = ap₂ (λ (a b : List Node). length a + length b) (one_of root t asks) (none_of other t refuses)

module _ (summary : Summary) (name told : Bor (List ℕ)) (silent : Bool) (most n : ℕ) (line : List ℕ) where
  -- no row stands around others
  all_rows : (q : Question) (s : LineStatus) → status_events q (bare_lines summary name told silent most) n line None s ≡ selected_events q (bare_lines summary name told silent most) n line None s
  all_rows q s = append-nil (selected_events q (bare_lines summary name told silent most) n line None s)

  one_selected : (root other : Question) → AsksRoot root → other.wanted ≡ wanted.Refused → (s : LineStatus) → ¬ (s ≡ blank)
      → text_of (selected_events root (bare_lines summary name told silent most) n line None s) ++ text_of (selected_events other (bare_lines summary name told silent most) n line None s) ≡ line ++ line_feed
  one_selected root other asks refuses blank present = absurd (present refl)
  one_selected root other asks refuses (refused fault) present =
      ap₂ (λ (a b : Bool). text_of (if a then row_event true (line ++ line_feed) ∷ [] else []) ++ text_of (if b then row_event true (line ++ line_feed) ∷ [] else [])) (ap wants_refused asks.wanted) (ap wants_refused refuses)
      ∙ append-nil (line ++ line_feed)
  one_selected root other asks refuses (parsed t) present =
      let rows : List Node → List ℕ = λ ns. text_of (flat_map (λ (node : Node). row_event true (line ++ line_feed) ∷ []) ns) in
      ap₂ (λ (a b : List Node). rows a ++ rows b) (one_of root t asks) (none_of other t refuses)
      ∙ append-nil (rows (root_node t ∷ []))
      ∙ append-nil (line ++ line_feed)

  one_row : (root other : Question) → AsksRoot root → other.wanted ≡ wanted.Refused → (s : LineStatus) → ¬ (s ≡ blank)
      → text_of (status_events root (bare_lines summary name told silent most) n line None s) ++ text_of (status_events other (bare_lines summary name told silent most) n line None s) ≡ line ++ line_feed
  one_row root other asks refuses s present =
      ap₂ (λ (a b : List Event). text_of a ++ text_of b) (all_rows root s) (all_rows other s) ∙ one_selected root other asks refuses s present

pub returns : goal.returns
returns c = λ root other asks refuses summary name told silent most n line present. record {
  once = by_one root other asks refuses (status_of framings.Lines line) present;
  same = ap₂ (λ (a b : List Event). text_of a ++ text_of b) (append-nil (status_events root (bare_lines summary name told silent most) n line None (status_of framings.Lines line)))
      (append-nil (status_events other (bare_lines summary name told silent most) n line None (status_of framings.Lines line)))
      ∙ one_row summary name told silent most n line root other asks refuses (status_of framings.Lines line) present;
}
