-- The entries of an index, line by line.
use Rattle.std.proofs.Common.{◌≡◌, ℕ, zero, suc, ◌+◌, ◌-◌, ◌<◌, ◌≤◌, List, [], ◌∷◌, ◌++◌, length, map, not, ◌==◌, Option, Some, None, is_some, MatchOption, slice_get, refl, sym, ap, ap₂, ◌∙◌, arith, append-nil}
use Rattle.std.specs.Option.{option_map}
use Rattle.std.proofs.lemmas.Bool.{ne_eqb, eq-eqb}
use Rattle.std.proofs.lemmas.List.{length-map}
use Rattle.std.proofs.lemmas.List.Elements.{filter-append}
use Rattle.std.proofs.lemmas.Option.{slice_get-map, slice_get_within}
use Rattle.jp_model.specs.Json.Reader.{status_of}
use Rattle.jp_model.specs.Json.Status.{LineStatus, blank, refused, parsed}
use Rattle.jp_model.specs.Json.Tree.{Tree}
use Rattle.jp_model.specs.Meaning.Nodes.{Node}
use Rattle.jp_model.specs.Plans.{steps_nodes}
use Rattle.jp_model.specs.Script.Machine.{text_or_nothing}
use Rattle.jp_model.specs.Steps.{Step}
use Rattle.jp_index.specs.Entries.{Entry, entry_of, status_entry, entries_from, entries_of, entries_at}
use Rattle.jp_store.specs.Collections.{Collection, statuses_in, line_text, line_status}
use Rattle.jp_store.proofs.Renewed.{entry_at, status_all, status_none, from_none}
use Rattle.jp_plan.specs.Passing.{seek_status, IsLineOf}
use Rattle.jp_plan.proofs.Paths.{there_is}

-- the entries of a line are those of its status
pub entries_there : (path : List Step) (ss : List LineStatus) (line n k : ℕ) (s : LineStatus) → line ≡ n + k → slice_get ss k ≡ Some s → entries_at line (entries_from path n ss) ≡ status_entry path line s
entries_there path [] line n k s e h = absurd (cc)
entries_there path (r ∷ ss) line n zero s e h =
    let same : r ≡ s = cc in
    let here : n ≡ line = omega arith in
    filter-append (λ e. e.line == line) (status_entry path n r) (entries_from path (n + 1) ss)
    ∙ (ap₂ (λ (a b : List Entry). a ++ b) (status_all path (λ m. m == line) n r (eq-eqb n line here)) (from_none path (λ m. m == line) (n + 1) ss (λ m low high. ne_eqb m line (λ (f : m ≡ line). omega arith)))
    ∙ (append-nil (status_entry path n r) ∙ ap₂ (λ m u. status_entry path m u) here same))
entries_there path (r ∷ ss) line n (suc k) s e h =
    filter-append (λ e. e.line == line) (status_entry path n r) (entries_from path (n + 1) ss)
    ∙ ap₂ (λ (a b : List Entry). a ++ b) (status_none path (λ m. m == line) n r (ne_eqb n line (λ (f : n ≡ line). omega arith))) (entries_there path ss line (n + 1) k s (omega arith) h)

-- one entry is of one node
pub one_entry : (path : List Step) (line : ℕ) (t : Tree) (e : Entry) → entry_of path line t ≡ e ∷ [] → (steps_nodes path t ≡ e.node ∷ []) × (e.tree ≡ t)
one_entry path line t e h = of_nodes (steps_nodes path t) h
  where
    of_nodes : (ns : List Node) → map (entry_at line t) ns ≡ e ∷ [] → (ns ≡ e.node ∷ []) × (e.tree ≡ t)
    of_nodes [] k = absurd (cc)
    of_nodes (n ∷ []) k =
        let same : entry_at line t n ≡ e = cc in
        (ap (λ x. x.node ∷ []) same, sym (ap (λ x. x.tree) same))
    of_nodes (n ∷ m ∷ ns) k = absurd (cc)

-- no entry is of no node
pub no_entry : (path : List Step) (line : ℕ) (t : Tree) → entry_of path line t ≡ [] → steps_nodes path t ≡ []
no_entry path line t h = of_nodes (steps_nodes path t) h
  where
    of_nodes : (ns : List Node) → map (entry_at line t) ns ≡ [] → ns ≡ []
    of_nodes [] k = refl
    of_nodes (n ∷ ns) k = absurd (cc)

-- whether an index tells a place in a line
pub sought : (path : List Step) (line : ℕ) (s : LineStatus) (r : Option ℕ) (P : ℕ → Entry → Type 0) → MatchOption r (status_entry path line s ≡ []) (λ place. (e : Entry) × (status_entry path line s ≡ e ∷ []) × P place e) → is_some r ≡ seek_status (Some path) s
sought path line blank None P h = refl
sought path line blank (Some place) P h = let k = h.1 in absurd (cc)
sought path line (refused fault) None P h = refl
sought path line (refused fault) (Some place) P h = let k = h.1 in absurd (cc)
sought path line (parsed t) None P h = sym (ap (λ (ns : List Node). not (length ns == 0)) (no_entry path line t h))
sought path line (parsed t) (Some place) P h = sym (ap (λ (ns : List Node). not (length ns == 0)) (one_entry path line t h.0 h.1).0)

-- the text of a line of a collection, and its status
pub text_at : (c : Collection) (n : ℕ) → IsLineOf c n → slice_get c.state.lines (n - 1) ≡ Some (line_text n c)
text_at c n is =
    let at = there_is c.state.lines (n - 1) (omega (arith, is.first, is.last)) in
    at.1 ∙ ap (λ (o : Option (List ℕ)). Some (text_or_nothing o)) (sym at.1)

pub status_at : (c : Collection) (n : ℕ) → IsLineOf c n → slice_get (statuses_in c) (n - 1) ≡ Some (line_status n c)
status_at c n is = slice_get-map (status_of c.framing) c.state.lines (n - 1) ∙ ap (option_map (status_of c.framing)) (text_at c n is)

-- a number whose status is there is that of a line
pub line_there : (c : Collection) (n : ℕ) (s : LineStatus) → 1 ≤ n → slice_get (statuses_in c) (n - 1) ≡ Some s → IsLineOf c n
line_there c n s f h =
    let within : n - 1 < length (statuses_in c) = slice_get_within (statuses_in c) (n - 1) s h in
    record { first = f; last = omega (arith, within, length-map c.state.lines (status_of c.framing)) }

-- the entries of a line, of a collection
pub collection_entry : (c : Collection) (path : List Step) (n : ℕ) → IsLineOf c n → entries_at n (entries_of path (statuses_in c)) ≡ status_entry path n (line_status n c)
collection_entry c path n is = entries_there path (statuses_in c) n 1 (n - 1) (line_status n c) (omega (arith, is.first)) (status_at c n is)
