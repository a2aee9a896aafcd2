-- A line begins, nodes of it are counted with all that is in them, and it ends.
use Rattle.std.proofs.Common.{◌≡◌, ◌∙◌, ◌||◌, ℕ, ◌+◌, ◌⊎◌, inl, inr, List, [], ◌∷◌, ◌++◌, map, flat_map, Bool, true, false, ap, refl, sym, subst, arith, append-nil, append_assoc}
use Rattle.std.specs.List.{list_any}
use Rattle.std.proofs.lemmas.Bool.{or_cases, or_left, or_right}
use Rattle.std.proofs.lemmas.List.{map-append, map_push}
use Rattle.std.proofs.lemmas.List.Concat.{flat_map-append}
use Rattle.std.proofs.lemmas.List.Folds.{list_any-append}
use Rattle.jp_model.specs.Json.Tree.{Tree as Text, node}
use Rattle.jp_model.specs.Meaning.Nodes.{Node, below, subtree, subtree_at}
use Rattle.jp_model.specs.Steps.{Step}
use Rattle.jp_survey.specs.Counts.{CountedBeside, with_node}
use Rattle.jp_survey.specs.Foldings.{folded_by}
use Rattle.jp_survey.specs.Justified.{IsJustified, WithPath}
use Rattle.jp_survey.specs.Paths.{Line, Mark, Path, mark_of, marks_of, strides_of}
use Rattle.jp_survey.specs.Seen.{HasBegun, HasSeen, IsGoing, paths_beside}
use Rattle.jp_survey.specs.Surveys.{paths_in}
use Rattle.jp_survey.specs.Trees.{Grows, IsPlaceAt, IsTree, tree_folds, tree_paths}
use Rattle.jp_survey.specs.declared.tree.Tree.{Tree}
use Rattle.jp_survey.proofs.Beside.{text_begins, text_ends}
use Rattle.jp_survey.proofs.Counting.{counted_more, counted_one}
use Rattle.jp_survey.proofs.Justified.{justified_among, justified_node}
use Rattle.jp_survey.proofs.Seen.{text_begins_justified, text_ends_justified}

-- ---- the marks of a node of a line

-- those of a line with one node more
line_marks : (line : Line) (n : Node) → marks_of (line ++ n ∷ []) ≡ marks_of line ++ map mark_of (subtree n)
line_marks line n =
    ap (map mark_of) (flat_map-append subtree line (n ∷ []) ∙ ap (λ (l : List Node). flat_map subtree line ++ l) (append-nil (subtree n)))
    ∙ map-append mark_of (flat_map subtree line) (subtree n)

-- the path of the node comes first
node_first : (location : List Step) (t : Text) → (rest : List Path) × (map (λ (m : Mark). m.path) (map mark_of (subtree_at location t)) ≡ strides_of location ∷ rest)
node_first location (node s v) = (map (λ (m : Mark). m.path) (map mark_of (below location v)), refl)

-- ---- a line begins and ends

pub line_begins : (limit : ℕ) (lines : List Line) (tree : Tree) (newest : ℕ) → newest ≡ tree.lines + 1 → HasSeen limit lines tree → HasBegun limit lines [] (record tree { lines = newest })
line_begins limit lines tree newest next h = record {
  limit = h.limit;
  some = omega (arith, next);
  counted = subst (λ (n : ℕ). CountedBeside (folded_by (tree_folds tree)) lines n [] (tree_paths tree) tree.counts.places.items) (sym next)
      (text_begins (folded_by (tree_folds tree)) lines (tree_paths tree) tree.counts.places.items tree.lines h.counted);
  justified = text_begins_justified limit lines tree h.justified;
}

pub line_ends : (limit : ℕ) (lines : List Line) (line : Line) (tree : Tree) → HasBegun limit lines line tree → HasSeen limit (lines ++ line ∷ []) tree
line_ends limit lines line tree h = record {
  limit = h.limit;
  counted = text_ends (folded_by (tree_folds tree)) lines (tree_paths tree) tree.counts.places.items tree.lines line h.counted;
  justified = text_ends_justified limit lines line tree h.justified;
}

-- ---- one node more

swap_or : (a s p : Bool) → ((a || (s || false)) || (p || false)) ≡ true → ((a || (p || false)) || (s || false)) ≡ true
swap_or true s p e = refl
swap_or false true true e = refl
swap_or false true false e = refl
swap_or false false true e = refl
swap_or false false false e = e

swapped : (paths : List Path) (s p : Path) (test : Path → Bool) → list_any test ((paths ++ s ∷ []) ++ p ∷ []) ≡ true → list_any test ((paths ++ p ∷ []) ++ s ∷ []) ≡ true
swapped paths s p test e =
    let parted : list_any test ((paths ++ s ∷ []) ++ p ∷ []) ≡ ((list_any test paths || (test s || false)) || (test p || false)) =
    list_any-append test (paths ++ s ∷ []) (p ∷ []) ∙ ap (λ (b : Bool). b || (test p || false)) (list_any-append test paths (s ∷ [])) in
    let other : list_any test ((paths ++ p ∷ []) ++ s ∷ []) ≡ ((list_any test paths || (test p || false)) || (test s || false)) =
    list_any-append test (paths ++ p ∷ []) (s ∷ []) ∙ ap (λ (b : Bool). b || (test s || false)) (list_any-append test paths (p ∷ [])) in
    other ∙ swap_or (list_any test paths) (test s) (test p) (sym parted ∙ e)

beside_more : (lines : List Line) (marks : List Mark) (mark : Mark) → paths_beside lines (marks ++ mark ∷ []) ≡ paths_beside lines marks ++ mark.path ∷ []
beside_more lines marks mark =
    ap (λ (more : List Path). paths_in lines ++ more) (map_push (λ (m : Mark). m.path) marks mark) ∙ sym (append_assoc (paths_in lines) (map (λ (m : Mark). m.path) marks) (mark.path ∷ []))

-- what changes of a tree as a node is counted
pub record IsCounted (limit : ℕ) (lines : List Line) (marks : List Mark) (location : List Step) (mark : Mark) (place : ℕ) (line : ℕ) (tree : Tree) : Type 0 where
  pub limit_is : tree.fold ≡ limit
  pub counted : CountedBeside (folded_by (tree_folds tree)) lines line (marks ++ mark ∷ []) (tree_paths tree) (with_node tree.counts.places.items place mark.kind line)
  pub justified : IsJustified limit (paths_beside lines (marks ++ mark ∷ []) ++ strides_of location ∷ []) (tree_paths tree) (tree_folds tree)

module _ (limit : ℕ) (lines : List Line) (marks : List Mark) (location : List Step) (old mid : Tree) (tree : IsTree old) (now : IsTree mid) (grows : Grows old mid) (h : IsGoing limit lines marks location old)
    (mark : Mark) (place : ℕ) (there : IsPlaceAt mid place (folded_by (tree_folds old) mark.path)) (path : WithPath (tree_paths old) (folded_by (tree_folds old) mark.path) (tree_paths mid)) where
  justified_more : IsJustified limit (paths_beside lines (marks ++ mark ∷ []) ++ strides_of location ∷ []) (tree_paths mid) (tree_folds mid)
  justified_more =
      let seen = paths_beside lines marks in let own = strides_of location in
      subst (λ (f : List Path). IsJustified limit (paths_beside lines (marks ++ mark ∷ []) ++ own ∷ []) (tree_paths mid) f) (sym grows.folds)
      (subst (λ (paths : List Path). IsJustified limit (paths ++ own ∷ []) (tree_paths mid) (tree_folds old)) (sym (beside_more lines marks mark))
      (justified_among limit ((seen ++ own ∷ []) ++ mark.path ∷ []) ((seen ++ mark.path ∷ []) ++ own ∷ []) (tree_paths mid) (tree_folds old) (swapped seen own mark.path)
      (justified_node limit (seen ++ own ∷ []) (tree_paths old) (tree_paths mid) (tree_folds old) mark.path path h.justified)))

  pub node_counted : IsCounted limit lines marks location mark place old.lines mid
  node_counted = record {
    limit_is = grows.fold ∙ h.limit;
    counted = counted_one mid now lines old.lines marks (counted_more old mid tree now grows lines old.lines marks h.some h.counted) mark place
        (subst (λ (f : List Path). IsPlaceAt mid place (folded_by f mark.path)) (sym grows.folds) there);
    justified = justified_more;
  }

-- ---- all nodes below a node are counted

-- its path is among theirs
own_seen : (lines : List Line) (marks : List Mark) (n : Node) (test : Path → Bool)
    → list_any test (paths_beside lines (marks ++ map mark_of (subtree n)) ++ strides_of n.location ∷ []) ≡ true → list_any test (paths_beside lines (marks ++ map mark_of (subtree n))) ≡ true
own_seen lines marks n test e = by (or_cases (list_any test all) (test own || false) (sym (list_any-append test all (own ∷ [])) ∙ e))
  where
    own : Path
    own = strides_of n.location

    all : List Path
    all = paths_beside lines (marks ++ map mark_of (subtree n))

    before : List Path
    before = paths_in lines ++ map (λ (m : Mark). m.path) marks

    first : (rest : List Path) × (map (λ (m : Mark). m.path) (map mark_of (subtree n)) ≡ strides_of n.location ∷ rest)
    first = node_first n.location n.tree

    parted : paths_beside lines (marks ++ map mark_of (subtree n)) ≡ (paths_in lines ++ map (λ (m : Mark). m.path) marks) ++ strides_of n.location ∷ (node_first n.location n.tree).0
    parted =
        ap (λ (more : List Path). paths_in lines ++ more)
        (map-append (λ (m : Mark). m.path) marks (map mark_of (subtree n)) ∙ ap (λ (more : List Path). map (λ (m : Mark). m.path) marks ++ more) first.1)
        ∙ sym (append_assoc (paths_in lines) (map (λ (m : Mark). m.path) marks) (strides_of n.location ∷ first.0))

    here : test (strides_of n.location) ≡ true → list_any test (paths_beside lines (marks ++ map mark_of (subtree n))) ≡ true
    here f =
        ap (list_any test) parted
        ∙ (list_any-append test before (own ∷ first.0) ∙ or_right (list_any test before) (test own || list_any test first.0) (or_left (test own) (list_any test first.0) f))

    by : ((list_any test (paths_beside lines (marks ++ map mark_of (subtree n))) ≡ true) ⊎ ((test (strides_of n.location) || false) ≡ true)) → list_any test (paths_beside lines (marks ++ map mark_of (subtree n))) ≡ true
    by (inl f) = f
    by (inr f) = either (or_cases (test own) false f)
      where
        either : ((test (strides_of n.location) ≡ true) ⊎ (false ≡ true)) → list_any test (paths_beside lines (marks ++ map mark_of (subtree n))) ≡ true
        either (inl g) = here g
        either (inr g) = absurd (cc)

pub node_ends : (limit : ℕ) (lines : List Line) (line : Line) (n : Node) (tree : Tree) → IsGoing limit lines (marks_of line ++ map mark_of (subtree n)) n.location tree
    → HasBegun limit lines (line ++ n ∷ []) tree
node_ends limit lines line n tree h =
    let all = marks_of line ++ map mark_of (subtree n) in
    record {
      limit = h.limit;
      some = h.some;
      counted = subst (λ (ms : List Mark). CountedBeside (folded_by (tree_folds tree)) lines tree.lines ms (tree_paths tree) tree.counts.places.items) (sym (line_marks line n)) h.counted;
      justified = subst (λ (ms : List Mark). IsJustified limit (paths_beside lines ms) (tree_paths tree) (tree_folds tree)) (sym (line_marks line n))
          (justified_among limit (paths_beside lines all ++ strides_of n.location ∷ []) (paths_beside lines all) (tree_paths tree) (tree_folds tree) (own_seen lines (marks_of line) n) h.justified);
    }
