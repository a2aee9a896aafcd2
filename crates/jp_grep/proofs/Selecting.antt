-- Queries that are asked one after another.
use Rattle.std.proofs.Common.{◌≡◌, ◌∙◌, ◌+◌, ◌<◌, ℕ, List, [], ◌∷◌, ◌++◌, drop, get_or, length, map, take, refl, sym, subst, ap, arith, Bool, true, false, ◌||◌, ◌&&◌, if◌then◌else◌}
use Rattle.std.specs.Prelude.{not}
use Rattle.std.proofs.lemmas.Bool.{ne_eqb}
use Rattle.std.proofs.lemmas.List.{drop_more, map-append, take_more}
use Rattle.std.proofs.lemmas.List.Concat.{flat_map-cons}
use Rattle.jp_model.specs.Json.Tree.{Tree}
use Rattle.jp_model.specs.Meaning.Nodes.{Node}
use Rattle.jp_model.specs.Meaning.Selecting.{path_nodes}
use Rattle.jp_model.specs.Query.Syntax.{Path}
use Rattle.jp_devices.proofs.Devices.{or_false}
use Rattle.jp_grep.specs.Asked.{query_path}
use Rattle.jp_grep.specs.Matching.{has_nodes, let_match, nodes_of, selects, wants_nodes_where, wants_value}
use Rattle.jp_grep.specs.declared.asked.AskedQuery.{AskedQuery}
use Rattle.jp_grep.specs.declared.question.Queries.{Queries}
use Rattle.jp_grep.specs.declared.question.Queries.TheVariants as purposes
use Rattle.jp_grep.specs.declared.question.Wanted.{Wanted}
use Rattle.jp_grep.specs.declared.question.Wanted.TheVariants as wanted

or_assoc : (a b c : Bool) → ((a || b) || c) ≡ (a || (b || c))
or_assoc true b c = refl
or_assoc false b c = refl

selects-append : (xs ys : List Path) (node : Node) (t : Tree) → selects (xs ++ ys) node t ≡ (selects xs node t || selects ys node t)
selects-append [] ys node t = refl
selects-append (x ∷ xs) ys node t = ap (λ b. has_nodes (path_nodes x node t) || b) (selects-append xs ys node t) ∙ sym (or_assoc (has_nodes (path_nodes x node t)) (selects xs node t) (selects ys node t))

-- one query more
pub selects_more : (queries : List AskedQuery) (i : ℕ) (query : AskedQuery) (node : Node) (t : Tree) → i < length queries → query ≡ get_or queries i query
    → selects (map query_path (take (i + 1) queries)) node t ≡ (selects (map query_path (take i queries)) node t || has_nodes (path_nodes (query_path query) node t))
selects_more queries i query node t within is =
    ap (λ l. selects (map query_path l) node t) (take_more queries i query within ∙ ap (λ p. take i queries ++ p ∷ []) (sym is))
    ∙ ap (λ l. selects l node t) (map-append query_path (take i queries) (query ∷ []))
    ∙ selects-append (map query_path (take i queries)) (query_path query ∷ []) node t
    ∙ ap (λ b. selects (map query_path (take i queries)) node t || b) (sym (or_false (has_nodes (path_nodes (query_path query) node t))))

-- a query of a list, and those after it
pub selects_at : {items : List AskedQuery} (queries : List AskedQuery) → items ≡ queries → (i : ℕ) (query : AskedQuery) (node : Node) (t : Tree) (found : Bool)
    → i < length items → query ≡ get_or items i query → has_nodes (path_nodes (query_path query) node t) ≡ found
    → selects (map query_path (drop i queries)) node t ≡ (found || selects (map query_path (drop (i + 1) queries)) node t)
selects_at queries same i query node t found within is has =
    ap (λ l. selects (map query_path l) node t) (drop_more queries i query (subst (λ l. i < length l) same within) ∙ ap (λ q. q ∷ drop (i + 1) queries) (sym (is ∙ ap (λ l. get_or l i query) same)))
    ∙ ap (λ b. b || selects (map query_path (drop (i + 1) queries)) node t) has

some_node : (n : Node) (ns : List Node) → has_nodes (n ∷ ns) ≡ true
some_node n ns = ap not (ne_eqb (length (n ∷ ns)) 0 (λ e. omega (arith, e)))

none_there : (ns : List Node) → has_nodes ns ≡ false → ns ≡ []
none_there [] e = refl
none_there (n ∷ ns) e = absurd (apart (sym (some_node n ns) ∙ e))
  where
    apart : true ≡ false → ⊥
    apart e = cc

first_false : (a b : Bool) → (a || b) ≡ false → a ≡ false
first_false true b e = e
first_false false b e = refl

second_false : (a b : Bool) → (a || b) ≡ false → b ≡ false
second_false true b e = absurd (apart e)
  where
    apart : true ≡ false → ⊥
    apart e = cc
second_false false b e = e

-- where none selects a node there are no nodes
pub none_selected : (queries : List Path) (node : Node) (t : Tree) → selects queries node t ≡ false → nodes_of queries node t ≡ []
none_selected [] node t e = refl
none_selected (query ∷ rest) node t e =
    let some = has_nodes (path_nodes query node t) in
    flat_map-cons (λ (q : Path). path_nodes q node t) query rest
    ∙ ap (λ ns. ns ++ nodes_of rest node t) (none_there (path_nodes query node t) (first_false some (selects rest node t) e))
    ∙ none_selected rest node t (second_false some (selects rest node t) e)

-- where nodes are asked for, nothing is left out, whether some is selected or none
pub wanted_rows : {A : Type 0} (w : Wanted) (q : Queries) (holds some : Bool) (rows : List A) → (some ≡ false → rows ≡ []) → wants_nodes_where w holds (holds && let_match q some) ≡ true
    → (if wants_value w (holds && let_match q some) then rows else []) ≡ rows
wanted_rows wanted.Matching purposes.Columns true some rows none asked = refl
wanted_rows wanted.Matching purposes.Filter true true rows none asked = refl
wanted_rows wanted.Matching purposes.Filter true false rows none asked = sym (none refl)
wanted_rows wanted.Matching q false some rows none asked = absurd (cc)
wanted_rows wanted.Others q holds some rows none asked = ap (λ (b : Bool). if b then rows else []) asked
wanted_rows wanted.Refused q holds some rows none asked = absurd (cc)
