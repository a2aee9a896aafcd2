-- Trees of paths that grow.
use Rattle.std.proofs.Common.{◌≡◌, ◌∙◌, ℕ, ◌+◌, ◌<◌, ◌≤◌, ◌⊎◌, inl, inr, List, [], ◌∷◌, ◌++◌, length, get_or, replicate, Bool, true, false, ap, ap₂, sym, subst, arith, append-nil, append_assoc, length-append}
use Rattle.std.specs.Prelude.{Some, if◌then◌else◌, slice_get}
use Rattle.std.proofs.lemmas.Bool.{cases_Bool, cases_lt}
use Rattle.std.proofs.lemmas.List.{map-append, get_or_append_left, get_or_push, replicate-append-replicate, length_push}
use Rattle.std.proofs.lemmas.Option.{same_Some}
use Rattle.jp_model.specs.Meaning.Nodes.{Node, root_node, step_to, subtree}
use Rattle.jp_model.specs.Steps.{Step}
use Rattle.jp_nodes.specs.Cursors.{index_of, line_of, name_of, node_of, place_of, root_of}
use Rattle.jp_nodes.specs.Tapes.{spelled}
use Rattle.jp_nodes.specs.declared.cursor.Cursor.{Cursor}
use Rattle.jp_survey.specs.Counts.{no_counts}
use Rattle.jp_survey.specs.Foldings.{folded_by, longer}
use Rattle.jp_survey.specs.Paths.{Path, stride_of, strides_of}
use Rattle.jp_survey.specs.Places.{AreApart, AreLinked, ArePlaces, folds_of, has_link, link_at, names_in, path_at, paths_of, stride_in, with_link}
use Rattle.jp_survey.specs.Trees.{AreKnown, Grows, IsPlaceAt, IsTree, Leads, links_of, names_of, stride_to, tree_folds, tree_paths}
use Rattle.jp_survey.specs.declared.links.Link.{Link}
use Rattle.jp_survey.specs.declared.tree.Tree.{Tree}
use Rattle.jp_survey.proofs.Folded.{folded_push}
use Rattle.jp_survey.proofs.Names.{path_of_link}
use Rattle.jp_survey.proofs.Places.{grown, grown_apart, grown_paths, many_paths, same_folds}

-- a tree where nothing of this changes
pub stays : (old new : Tree) → new.names ≡ old.names → new.links ≡ old.links → new.counts ≡ old.counts → new.places ≡ old.places → new.lines ≡ old.lines → new.fold ≡ old.fold → Grows old new
stays old new names links counts places lines fold = record {
  more = [];
  added = 0;
  paths = ap₂ paths_of (ap (λ n. names_in n.keys) names) (ap (λ l. l.links.keys) links) ∙ sym (append-nil (tree_paths old));
  folds = ap₂ folds_of (ap (λ n. names_in n.keys) names) (ap (λ l. l.links.keys) links);
  counts = ap (λ c. c.places.items) counts ∙ sym (append-nil old.counts.places.items);
  places = places;
  lines = lines;
  fold = fold;
}

pub grows_on : (a b c : Tree) → Grows a b → Grows b c → Grows a c
grows_on a b c g h = record {
  more = g.more ++ h.more;
  added = g.added + h.added;
  paths = h.paths ∙ (ap (λ (p : List Path). p ++ h.more) g.paths ∙ append_assoc (tree_paths a) g.more h.more);
  folds = h.folds ∙ g.folds;
  counts = h.counts ∙ (ap (λ c. c ++ replicate h.added no_counts) g.counts ∙ (append_assoc a.counts.places.items (replicate g.added no_counts) (replicate h.added no_counts)
      ∙ ap (λ r. a.counts.places.items ++ r) (replicate-append-replicate g.added h.added no_counts)));
  places = h.places ∙ g.places;
  lines = h.lines ∙ g.lines;
  fold = h.fold ∙ g.fold;
}

-- the path of a place stays
pub path_stays : (old new : Tree) → IsTree old → Grows old new → (place : ℕ) → place < length (links_of old) → path_at (tree_paths new) place ≡ path_at (tree_paths old) place
path_stays old new tree g place l =
    let many = many_paths (names_of old) (links_of old) tree.places in
    ap (λ (p : List Path). path_at p place) g.paths ∙ get_or_append_left (tree_paths old) g.more [] place (omega (arith, many, l))

-- a place stays that of its path
pub place_stays : (old new : Tree) → IsTree old → IsTree new → Grows old new → (place : ℕ) (path : Path) → IsPlaceAt old place path → IsPlaceAt new place path
place_stays old new tree now g place path h =
    let before = many_paths (names_of old) (links_of old) tree.places in
    let after = many_paths (names_of new) (links_of new) now.places in
    let long = ap length g.paths ∙ length-append (tree_paths old) g.more in
    (omega (arith, before, after, long, h.0), path_stays old new tree g place h.0 ∙ h.1)

-- a link is added where it is new
module _ (old new : Tree) (tree : IsTree old) (link : Link) (leads : Leads old link.parent link.step) (names : new.names ≡ old.names)
    (links : links_of new ≡ with_link (links_of old) link)
    (counts : ((length (links_of new) ≤ length (links_of old)) × (new.counts.places.items ≡ old.counts.places.items))
    ⊎ ((length (links_of old) < length (links_of new)) × (new.counts.places.items ≡ old.counts.places.items ++ no_counts ∷ [])))
    (places : new.places ≡ old.places) (lines : new.lines ≡ old.lines) (fold : new.fold ≡ old.fold) (linked : AreLinked new.links) where
  same : length (links_of new) ≤ length (links_of old) → new.counts.places.items ≡ old.counts.places.items
  same short = by counts
    where
      by : (((length (links_of new) ≤ length (links_of old)) × (new.counts.places.items ≡ old.counts.places.items))
          ⊎ ((length (links_of old) < length (links_of new)) × (new.counts.places.items ≡ old.counts.places.items ++ no_counts ∷ [])))
          → new.counts.places.items ≡ old.counts.places.items
      by (inl h) = h.1
      by (inr h) = absurd (omega (arith, h.0, short))

  one : length (links_of old) < length (links_of new) → new.counts.places.items ≡ old.counts.places.items ++ no_counts ∷ []
  one long = by counts
    where
      by : (((length (links_of new) ≤ length (links_of old)) × (new.counts.places.items ≡ old.counts.places.items))
          ⊎ ((length (links_of old) < length (links_of new)) × (new.counts.places.items ≡ old.counts.places.items ++ no_counts ∷ [])))
          → new.counts.places.items ≡ old.counts.places.items ++ no_counts ∷ []
      by (inl h) = absurd (omega (arith, h.0, long))
      by (inr h) = h.1

  pub link_grows : IsTree new × Grows old new
  link_grows = by (cases_Bool (has_link (links_of old) link))
    where
      by : ((has_link (links_of old) link ≡ true) ⊎ (has_link (links_of old) link ≡ false)) → IsTree new × Grows old new
      by (inl there) =
          let is : links_of new ≡ links_of old = links ∙ ap (λ (b : Bool). if b then links_of old else links_of old ++ link ∷ []) there in
          let named : names_of new ≡ names_of old = ap (λ n. names_in n.keys) names in
          let kept = same (omega (arith, ap length is)) in (
            record {
              places = subst (λ n. ArePlaces n (links_of new)) (sym named) (subst (λ l. ArePlaces (names_of old) l) (sym is) tree.places);
              apart = subst (λ n. AreApart n (links_of new)) (sym named) (subst (λ l. AreApart (names_of old) l) (sym is) tree.apart);
              counted = ap length kept ∙ (tree.counted ∙ sym (ap length is));
              linked = linked;
            },
            record {
              more = [];
              added = 0;
              paths = ap₂ paths_of named is ∙ sym (append-nil (tree_paths old));
              folds = ap₂ folds_of named is;
              counts = kept ∙ sym (append-nil old.counts.places.items);
              places = places;
              lines = lines;
              fold = fold;
            },
          )
      by (inr fresh) =
          let is : links_of new ≡ links_of old ++ link ∷ [] = links ∙ ap (λ (b : Bool). if b then links_of old else links_of old ++ link ∷ []) fresh in
          let named : names_of new ≡ names_of old = ap (λ n. names_in n.keys) names in
          let longer = length_push (links_of old) link in
          let pushed = one (omega (arith, ap length is, longer)) in (
            record {
              places = subst (λ n. ArePlaces n (links_of new)) (sym named) (subst (λ l. ArePlaces (names_of old) l) (sym is)
                  (grown (names_of old) (links_of old) tree.places link leads.within leads.told.0 leads.known fresh));
              apart = subst (λ n. AreApart n (links_of new)) (sym named) (subst (λ l. AreApart (names_of old) l) (sym is)
                  (grown_apart (names_of old) (links_of old) tree.places link leads.within leads.told.0 leads.known fresh leads.told.1 tree.apart leads.apart));
              counted = ap length pushed ∙ (length_push old.counts.places.items no_counts ∙ (ap (λ (n : ℕ). n + 1) tree.counted ∙ (sym longer ∙ sym (ap length is))));
              linked = linked;
            },
            record {
              more = (path_at (tree_paths old) link.parent ++ stride_in (names_of old) link.step ∷ []) ∷ [];
              added = 1;
              paths = ap₂ paths_of named is ∙ grown_paths (names_of old) (links_of old) tree.places link leads.within leads.told.0 leads.known fresh;
              folds = ap₂ folds_of named is ∙ same_folds (names_of old) (links_of old) tree.places link leads.within leads.told.0 leads.known fresh leads.told.1;
              counts = pushed;
              places = places;
              lines = lines;
              fold = fold;
            },
          )

  pub link_leads : (place : ℕ) → place < length (links_of new) → link_at (links_of new) place ≡ link
      → IsPlaceAt new place (path_at (tree_paths old) link.parent ++ stride_in (names_of old) link.step ∷ [])
  link_leads place l is =
      let named : names_of new ≡ names_of old = ap (λ n. names_in n.keys) names in (
        l,
        path_of_link (names_of new) (links_of new) link_grows.0.places place link l is leads.told.0
            ∙ ap₂ (λ (p : Path) (n : List (List ℕ)). p ++ stride_in n link.step ∷ []) (path_stays old new tree link_grows.1 link.parent leads.within) named,
      )

-- ---- the places of nodes

pub known_more : (old mid : Tree) → IsTree old → IsTree mid → Grows old mid → (nodes : List Node) (first n : ℕ) → first + length old.places.items ≡ n → AreKnown old nodes first n
    → (node : Node) → slice_get nodes n ≡ Some node → (place : ℕ) → IsPlaceAt mid place (folded_by (tree_folds old) (strides_of node.location))
    → (places : List ℕ) → places ≡ old.places.items ++ place ∷ []
    → (k : ℕ) (other : Node) → first + k < n + 1 → slice_get nodes (first + k) ≡ Some other
    → (k < length places) × IsPlaceAt mid (get_or places k 0) (folded_by (tree_folds mid) (strides_of other.location))
known_more old mid tree now g nodes first n long known node at place is places pushed k other l here = by (cases_lt (first + k) n)
  where
    many : first + length places ≡ n + 1
    many = let one = length_push old.places.items place in let all = ap length pushed in omega (arith, one, all, long)

    -- the path of a node stays
    same_path : (location : List Step) → folded_by (tree_folds old) (strides_of location) ≡ folded_by (tree_folds mid) (strides_of location)
    same_path location = ap (λ (f : List Path). folded_by f (strides_of location)) (sym g.folds)

    by : ((first + k < n) ⊎ (n ≤ first + k)) → (k < length places) × IsPlaceAt mid (get_or places k 0) (folded_by (tree_folds mid) (strides_of other.location))
    by (inl s) =
        let was = known k other s here in
        let same : get_or places k 0 ≡ get_or old.places.items k 0 =
        ap (λ (p : List ℕ). get_or p k 0) pushed ∙ get_or_append_left old.places.items (place ∷ []) 0 k was.0 in
        let all = many in (
          omega (arith, all, s),
          subst (λ (p : ℕ). IsPlaceAt mid p (folded_by (tree_folds mid) (strides_of other.location))) (sym same)
              (subst (λ (p : Path). IsPlaceAt mid (get_or old.places.items k 0) p) (same_path other.location)
              (place_stays old mid tree now g (get_or old.places.items k 0) (folded_by (tree_folds old) (strides_of other.location)) was.1)),
        )
    by (inr s) =
        let last : n ≡ first + k = omega (arith, l, s) in
        let it : node ≡ other = same_Some node other (sym at ∙ (ap (slice_get nodes) last ∙ here)) in
        let same : get_or places k 0 ≡ place = ap (λ (p : List ℕ). get_or p k 0) pushed ∙ get_or_push old.places.items place 0 k (omega (arith, long, last)) in
        let all = many in (
          omega (arith, all, l),
          subst (λ (p : ℕ). IsPlaceAt mid p (folded_by (tree_folds mid) (strides_of other.location))) (sym same)
              (subst (λ (p : Path). IsPlaceAt mid place p) (same_path other.location)
              (subst (λ (m : Node). IsPlaceAt mid place (folded_by (tree_folds old) (strides_of m.location))) it is)),
        )

-- a tree where nothing of this changes is one
pub stays_tree : (old new : Tree) → new.names ≡ old.names → new.links ≡ old.links → new.counts ≡ old.counts → IsTree old → IsTree new
stays_tree old new names links counts tree =
    let named : names_of new ≡ names_of old = ap (λ n. names_in n.keys) names in
    let linked : links_of new ≡ links_of old = ap (λ l. l.links.keys) links in
    record {
      places = subst (λ n. ArePlaces n (links_of new)) (sym named) (subst (λ l. ArePlaces (names_of old) l) (sym linked) tree.places);
      apart = subst (λ n. AreApart n (links_of new)) (sym named) (subst (λ l. AreApart (names_of old) l) (sym linked) tree.apart);
      counted = ap (λ c. length c.places.items) counts ∙ (tree.counted ∙ sym (ap length linked));
      linked = subst AreLinked (sym links) tree.linked;
    }

-- ---- the place of a node

-- a node has the path of its parent, and a stride more
pub child_below : (folds : List Path) (node parent : Cursor) → (node_of node).location ≡ (node_of parent).location ++ step_to (index_of node) (name_of node) ∷ []
    → longer folds (folded_by folds (strides_of (node_of parent).location)) (stride_to node) ≡ folded_by folds (strides_of (node_of node).location)
child_below folds node parent is =
    sym (ap (λ l. folded_by folds (strides_of l)) is
    ∙ (ap (folded_by folds) (map-append stride_of (node_of parent).location (step_to (index_of node) (name_of node) ∷ []))
    ∙ folded_push folds (strides_of (node_of parent).location) (stride_to node)))

-- the place of its parent is known, where those of the nodes before it are
pub parent_known : (tree : Tree) (node parent : Cursor) (first number place : ℕ) → AreKnown tree (subtree (root_node (root_of node))) first (place_of node) → line_of parent ≡ line_of node
    → place_of parent < place_of node → place ≡ place_of parent → slice_get (subtree (root_node (root_of parent))) place ≡ Some (node_of parent) → first + number ≡ place
    → (number < length tree.places.items) × IsPlaceAt tree (get_or tree.places.items number 0) (folded_by (tree_folds tree) (strides_of (node_of parent).location))
parent_known tree node parent first number place known line before own at is =
    known number (node_of parent) (omega (arith, is, own, before))
    (ap (slice_get (subtree (root_node (root_of node)))) is ∙ (ap (λ (l : List ℕ). slice_get (subtree (root_node (spelled l))) place) (sym line) ∙ at))
