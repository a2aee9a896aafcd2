-- A tree folds the objects after which the paths of texts go on by many names.
use Rattle.std.proofs.Common.{◌≡◌, ◌∙◌, ◌&&◌, ◌||◌, ℕ, zero, suc, ◌+◌, ◌<◌, ◌⊎◌, inl, inr, List, [], ◌∷◌, ◌++◌, length, get_or, map, Bool, true, false, cond, ap, ap₂, refl, sym, subst, arith, append-nil}
use Rattle.std.specs.Prelude.{All, count_by, flat_map, if◌then◌else◌}
use Rattle.std.specs.List.{list_any}
use Rattle.std.proofs.lemmas.Bool.{and_from, cases_Bool, eq-eqb, or_parts}
use Rattle.std.proofs.lemmas.List.{get_or-map, length-map, map-append}
use Rattle.std.proofs.lemmas.List.Concat.{flat_map-append}
use Rattle.std.proofs.lemmas.List.Sums.{sum_by-append, sum_by-cons}
use Rattle.jp_model.specs.Meaning.Nodes.{Node, subtree}
use Rattle.jp_model.specs.Steps.{Step, name_step, index_step}
use Rattle.jp_survey.specs.Counts.{Counted, nodes_of, passes, sum_where}
use Rattle.jp_survey.specs.Foldings.{folded_by, is_over}
use Rattle.jp_survey.specs.Folds.{folded}
use Rattle.jp_survey.specs.Justified.{AreFolds, IsJustified, WithPath}
use Rattle.jp_survey.specs.Paths.{Line, Mark, Path, kind_number, mark_of, marks_of, path_equal, same_kind, strides_of}
use Rattle.jp_survey.specs.Places.{AreApart, ArePlaces, folds_of, has_link, has_path, names_in, path_at, paths_of, root_link, stride_in, with_link}
use Rattle.jp_survey.specs.Seen.{AreJustified, AreJustifiedBeside, HasSeen, paths_beside}
use Rattle.jp_survey.specs.Surveys.{is_at, is_folded, marks_in, paths_in}
use Rattle.jp_survey.specs.Trees.{HasCounted, IsTree, folded_of, Leads, links_of, names_of, tree_folds, tree_paths}
use Rattle.jp_survey.specs.declared.count.PlaceCounts.{PlaceCounts}
use Rattle.jp_survey.specs.declared.kind.NodeKind.TheVariants as kinds
use Rattle.jp_survey.specs.declared.links.Link.{Link}
use Rattle.jp_survey.specs.declared.tree.Tree.{Tree}
use Rattle.jp_survey.proofs.Equalities.{path_itself}
use Rattle.jp_survey.proofs.Folds.{folded_is}
use Rattle.jp_survey.proofs.Justified.{are_folds, justified_root}
use Rattle.jp_survey.proofs.Places.{grown_paths}

-- ---- a tree and the paths that were seen

-- the root alone
pub root_justified : (limit : ℕ) (lines : List Line) (names : List (List ℕ)) (links : List Link) → links ≡ root_link ∷ []
    → IsJustified limit (paths_in lines) (paths_of names links) (folds_of names links)
root_justified limit lines names links is =
    subst (λ (links : List Link). IsJustified limit (paths_in lines) (paths_of names links) (folds_of names links)) (sym is) (justified_root limit (paths_in lines) names)

pub text_begins_justified : (limit : ℕ) (lines : List Line) (tree : Tree) → AreJustified limit lines tree → AreJustifiedBeside limit lines [] tree
text_begins_justified limit lines tree h = subst (λ (seen : List Path). IsJustified limit seen (tree_paths tree) (tree_folds tree)) (sym (append-nil (paths_in lines))) h

pub text_ends_justified : (limit : ℕ) (lines : List Line) (t : Line) (tree : Tree) → AreJustifiedBeside limit lines (marks_of t) tree → AreJustified limit (lines ++ t ∷ []) tree
text_ends_justified limit lines t tree h = subst (λ (seen : List Path). IsJustified limit seen (tree_paths tree) (tree_folds tree)) (sym all) h
  where
    all : paths_in (lines ++ t ∷ []) ≡ paths_beside lines (marks_of t)
    all =
        ap (map (λ (m : Mark). m.path)) (flat_map-append marks_of lines (t ∷ []) ∙ ap (λ (ms : List Mark). marks_in lines ++ ms) (append-nil (marks_of t)))
        ∙ map-append (λ (m : Mark). m.path) (marks_in lines) (marks_of t)

-- ---- a link that is added where it is new

pub link_with : (old new : Tree) → IsTree old → (link : Link) → Leads old link.parent link.step → new.names ≡ old.names → links_of new ≡ with_link (links_of old) link
    → WithPath (tree_paths old) (path_at (tree_paths old) link.parent ++ stride_in (names_of old) link.step ∷ []) (tree_paths new)
link_with old new tree link leads names links = by (cases_Bool (has_link (links_of old) link))
  where
    named : names_of new ≡ names_of old
    named = ap (λ n. names_in n.keys) names

    linked : (b : Bool) → has_link (links_of old) link ≡ b → links_of new ≡ (if b then links_of old else links_of old ++ link ∷ [])
    linked b e = links ∙ ap (λ (there : Bool). if there then links_of old else links_of old ++ link ∷ []) e

    by : ((has_link (links_of old) link ≡ true) ⊎ (has_link (links_of old) link ≡ false))
        → WithPath (tree_paths old) (path_at (tree_paths old) link.parent ++ stride_in (names_of old) link.step ∷ []) (tree_paths new)
    by (inl there) = inl (ap₂ paths_of named (linked true there))
    by (inr fresh) = inr (ap₂ paths_of named (linked false fresh) ∙ grown_paths (names_of old) (links_of old) tree.places link leads.within leads.told.0 leads.known fresh)

pub with_after : (old mid new : List Path) (path : Path) → mid ≡ old → WithPath mid path new → WithPath old path new
with_after old mid new path is (inl e) = inl (e ∙ is)
with_after old mid new path is (inr e) = inr (e ∙ ap (λ (paths : List Path). paths ++ path ∷ []) is)

-- ---- nodes are at places

sum_none : (number : PlaceCounts → ℕ) (test : Path → Bool) (paths : List Path) (places : List PlaceCounts) → list_any test paths ≡ false → sum_where number test paths places ≡ 0
sum_none number test [] places e = refl
sum_none number test (path ∷ paths) [] e = refl
sum_none number test (path ∷ paths) (place ∷ places) e =
    let parts = or_parts (test path) (list_any test paths) e in
    let first : cond (test path) (number place) 0 ≡ 0 = ap (λ (b : Bool). cond b (number place) 0) parts.0 in
    let rest = sum_none number test paths places parts.1 in
    omega (arith, first, rest)

abbrev one_where : Bool → ℕ
one_where b = cond b 1 0

some_count : {X : Type 0} (p : X → Bool) (xs : List X) (k : ℕ) (d : X) → k < length xs → p (get_or xs k d) ≡ true → 0 < count_by p xs
some_count p [] k d l e = absurd (omega (arith, l))
some_count p (x ∷ xs) zero d l e =
    let both = sum_by-cons (λ y. cond (p y) 1 0) x xs in
    let first : one_where (p x) ≡ 1 = ap one_where e in
    omega (arith, both, first)
some_count p (x ∷ xs) (suc k) d l e =
    let both = sum_by-cons (λ y. cond (p y) 1 0) x xs in
    let rest = some_count p xs k d (omega (arith, l)) e in
    omega (arith, both, rest)

-- each node that was counted is at the place of its path
pub counted_placed : (shown : Path → Path) (lines : List Line) (newest : ℕ) (paths : List Path) (places : List PlaceCounts) → Counted shown lines newest paths places
    → All (λ path. has_path paths (shown path) ≡ true) (paths_in lines)
counted_placed shown lines newest paths places h k d l = by (cases_Bool (has_path paths (shown mark.path)))
  where
    mark : Mark
    mark = get_or (marks_in lines) k (record { path = d; kind = kinds.Null })

    within : k < length (marks_in lines)
    within = let many = length-map (marks_in lines) (λ (m : Mark). m.path) in omega (arith, many, l)

    is : get_or (paths_in lines) k d ≡ mark.path
    is = get_or-map (λ (m : Mark). m.path) (marks_in lines) k (record { path = d; kind = kinds.Null }) d within

    some : 0 < count_by (passes shown (path_equal (shown mark.path)) mark.kind) (marks_in lines)
    some = some_count (passes shown (path_equal (shown mark.path)) mark.kind) (marks_in lines) k (record { path = d; kind = kinds.Null }) within
        (and_from (path_equal (shown mark.path) (shown mark.path)) (same_kind mark.kind mark.kind) (path_itself (shown mark.path)) (eq-eqb (kind_number mark.kind) (kind_number mark.kind) refl))

    by : ((has_path paths (shown mark.path) ≡ true) ⊎ (has_path paths (shown mark.path) ≡ false)) → has_path paths (shown (get_or (paths_in lines) k d)) ≡ true
    by (inl e) = ap (λ (path : Path). has_path paths (shown path)) is ∙ e
    by (inr e) =
        let none = sum_none (nodes_of mark.kind) (path_equal (shown mark.path)) paths places e in
        let all = h.nodes (path_equal (shown mark.path)) mark.kind in
        let more = some in
        absurd (omega (arith, none, all, more))

-- ---- nodes with paths that are shown alike

-- no path of a node goes through an object that is folded
pub plain_node : (location : List Step) → is_folded (strides_of location) ≡ false
plain_node [] = refl
plain_node (name_step scalars ∷ location) = plain_node location
plain_node (index_step index ∷ location) = plain_node location

any_alike : (p q : Mark → Bool) → ((n : Node) → p (mark_of n) ≡ q (mark_of n)) → (nodes : List Node) → list_any p (map mark_of nodes) ≡ list_any q (map mark_of nodes)
any_alike p q same [] = refl
any_alike p q same (n ∷ nodes) = ap₂ (λ (a b : Bool). a || b) (same n) (any_alike p q same nodes)

count_alike : (p q : Mark → Bool) → ((n : Node) → p (mark_of n) ≡ q (mark_of n)) → (nodes : List Node) → count_by p (map mark_of nodes) ≡ count_by q (map mark_of nodes)
count_alike p q same [] = refl
count_alike p q same (n ∷ nodes) =
    sum_by-cons (λ (m : Mark). cond (p m) 1 0) (mark_of n) (map mark_of nodes)
    ∙ (ap₂ (λ (b : Bool) (rest : ℕ). cond b 1 0 + rest) (same n) (count_alike p q same nodes)
    ∙ sym (sum_by-cons (λ (m : Mark). cond (q m) 1 0) (mark_of n) (map mark_of nodes)))

count_all : (p q : Mark → Bool) → ((n : Node) → p (mark_of n) ≡ q (mark_of n)) → (lines : List Line) → count_by p (marks_in lines) ≡ count_by q (marks_in lines)
count_all p q same [] = refl
count_all p q same (t ∷ lines) =
    sum_by-append (λ (m : Mark). cond (p m) 1 0) (marks_of t) (marks_in lines)
    ∙ (ap₂ (λ (m n : ℕ). m + n) (count_alike p q same (flat_map subtree t)) (count_all p q same lines)
    ∙ sym (sum_by-append (λ (m : Mark). cond (q m) 1 0) (marks_of t) (marks_in lines)))

pub counted_alike : (shown other : Path → Path) → ((path : Path) → is_folded path ≡ false → shown path ≡ other path) → (lines : List Line) (newest : ℕ) (paths : List Path) (places : List PlaceCounts)
    → Counted shown lines newest paths places → Counted other lines newest paths places
counted_alike shown other same lines newest paths places h = record {
  nodes = λ test kind. h.nodes test kind
      ∙ count_all (passes shown test kind) (passes other test kind) (λ n. ap (λ (path : Path). test path && same_kind kind (mark_of n).kind) (at n)) lines;
  in_lines = λ path kind plain. h.in_lines path kind plain
      ∙ (λ j. count_by (λ (t : Line). any_alike (is_at shown path kind) (is_at other path kind)
      (λ n. ap (λ (p : Path). path_equal path p && same_kind kind (mark_of n).kind) (at n)) (flat_map subtree t) j) lines);
  last = h.last;
}
  where
    at : (n : Node) → shown (strides_of n.location) ≡ other (strides_of n.location)
    at n = same (strides_of n.location) (plain_node n.location)

-- ---- in the end

module _ (limit : ℕ) (names : List (List ℕ)) (links : List Link) (h : ArePlaces names links) (apart : AreApart names links)
    (none : (place : ℕ) → place < length links → is_over limit links place ≡ false) (lines : List Line) (newest : ℕ) (places : List PlaceCounts)
    (counted : Counted (folded_by (folds_of names links)) lines newest (paths_of names links) places)
    (was : IsJustified limit (paths_in lines) (paths_of names links) (folds_of names links)) where
  pub counted_folds : AreFolds limit (paths_in lines) (folds_of names links)
  counted_folds = are_folds names links h limit apart none (paths_in lines) (counted_placed (folded_by (folds_of names links)) lines newest (paths_of names links) places counted) was

  -- the nodes are counted at the places of their paths, as these are folded from the top down
  pub counted_folded : Counted (folded limit (paths_in lines)) lines newest (paths_of names links) places
  counted_folded =
      counted_alike (folded_by (folds_of names links)) (folded limit (paths_in lines)) (folded_is limit (paths_in lines) (folds_of names links) counted_folds)
      lines newest (paths_of names links) places counted

-- and so they are once no object of a tree is to be folded any more
pub seen_counted : (limit : ℕ) (lines : List Line) (tree : Tree) → IsTree tree → HasSeen limit lines tree → ((place : ℕ) → place < length (links_of tree) → is_over tree.fold (links_of tree) place ≡ false)
    → HasCounted limit (names_of tree) lines (folded_of tree)
seen_counted limit lines tree is seen none = record {
  places = is.places;
  newest = tree.lines;
  counted = counted_folded limit (names_of tree) (links_of tree) is.places is.apart (subst (λ (n : ℕ). (place : ℕ) → place < length (links_of tree) → is_over n (links_of tree) place ≡ false) seen.limit none) lines tree.lines
      tree.counts.places.items seen.counted seen.justified;
}
