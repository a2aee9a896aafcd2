-- What is counted, once more objects are folded.
use Rattle.std.proofs.Common.{◌≡◌, ◌∙◌, ℕ, ◌<◌, ◌⊎◌, inl, inr, List, [], ◌∷◌, ◌++◌, length, map, take, take_all, Bool, true, false, ◌&&◌, ap, ap₂, refl, sym, arith, append-nil, append_assoc}
use Rattle.std.specs.Prelude.{count_by, fold, if◌then◌else◌}
use Rattle.std.specs.List.{list_any}
use Rattle.std.proofs.lemmas.Bool.{cases_Bool, or_parts}
use Rattle.std.proofs.lemmas.List.{get_or-map, length-map}
use Rattle.std.proofs.lemmas.List.Folds.{list_any-append}
use Rattle.std.proofs.lemmas.List.Sums.{sum_by-cons}
use Rattle.jp_survey.specs.Counts.{Counted, Joined, lines_of, nodes_of, passes, sum_where, sums_of}
use Rattle.jp_survey.specs.Foldings.{Closed, Refolds, folded_by, longer}
use Rattle.jp_survey.specs.Movings.{HaveMoved}
use Rattle.jp_survey.specs.Paths.{Line, Mark, Path, Stride, element, marks_of, member, others, path_equal, same_kind}
use Rattle.jp_survey.specs.Places.{AreApart, ArePlaces, folds_of, has_path, path_at, paths_of}
use Rattle.jp_survey.specs.Surveys.{is_folded, is_others, lines_at, marks_in}
use Rattle.jp_survey.specs.declared.count.PlaceCounts.{PlaceCounts}
use Rattle.jp_survey.specs.declared.kind.NodeKind.{NodeKind}
use Rattle.jp_survey.specs.declared.links.Link.{Link}
use Rattle.jp_survey.proofs.Equalities.{path_itself, path_same}
use Rattle.jp_survey.proofs.Folded.{closed_itself, folded_itself, moved_closed, moved_same, refolded}
use Rattle.jp_survey.proofs.Joining.{sum_alike}
use Rattle.jp_survey.proofs.Places.{many_paths}

-- places that have moved, and whose counts have joined
pub refolds_from : (fold : ℕ) (names : List (List ℕ)) (links told next : List Link) (to : List ℕ) (old new : List PlaceCounts) → ArePlaces names links → HaveMoved fold names links told next to
    → Joined old new to (length old) → length old ≡ length links → length new ≡ length next → Refolds names links old next new
refolds_from fold names links told next to old new h moved joined before after = record {
  places = moved.places;
  closed = λ folds closed. moved_closed fold names links told next h to moved folds closed;
  sums = λ folds closed lines kind test.
      let many = many_paths names links h in let more = many_paths names next moved.places in
      let all = joined.sums lines kind (λ (path : Path). test (folded_by folds path)) (paths_of names next) (omega (arith, more, after)) in
      let mapped = length-map to (path_at (paths_of names next)) in
      let whole : sum_where (sums_of lines kind) (λ (path : Path). test (folded_by folds path)) (map (path_at (paths_of names next)) (take (length old) to)) (take (length old) old)
      ≡ sum_where (sums_of lines kind) (λ (path : Path). test (folded_by folds path)) (map (path_at (paths_of names next)) to) old =
      ap₂ (λ (t : List ℕ) (o : List PlaceCounts). sum_where (sums_of lines kind) (λ (path : Path). test (folded_by folds path)) (map (path_at (paths_of names next)) t) o)
      (take_all (length old) to (omega (arith, moved.many, before))) (take_all (length old) old (omega arith)) in
      all ∙ (whole ∙ sum_alike (sums_of lines kind) (λ (path : Path). test (folded_by folds path)) (λ (path : Path). test (folded_by folds path)) (map (path_at (paths_of names next)) to) (paths_of names links) old
      (omega (arith, mapped, moved.many, many))
      (λ k s. let l : k < length to = omega (arith, mapped, s) in
      ap test (ap (folded_by folds) (get_or-map (path_at (paths_of names next)) to k 0 [] l)
      ∙ moved_same fold names links told next h to moved folds closed k (omega (arith, moved.many, l)))));
  last = joined.last;
}

-- ---- a path in which no object is folded

plain_from : (folds : List Path) (a path : Path) → is_folded (fold (longer folds) a path) ≡ false → fold (longer folds) a path ≡ a ++ path
plain_from folds a [] e = sym (append-nil a)
plain_from folds a (s ∷ path) e = by s e (plain_from folds (longer folds a s) path e)
  where
    by : (s : Stride) → is_folded (fold (longer folds) (longer folds a s) path) ≡ false → fold (longer folds) (longer folds a s) path ≡ longer folds a s ++ path
        → fold (longer folds) (longer folds a s) path ≡ a ++ s ∷ path
    by element e is = is ∙ append_assoc a (element ∷ []) path
    by others e is = is ∙ append_assoc a (others ∷ []) path
    by (member x) e is = named (has_path folds a) e is
      where
        named : (b : Bool) → is_folded (fold (longer folds) (a ++ (if b then others else member x) ∷ []) path) ≡ false
            → fold (longer folds) (a ++ (if b then others else member x) ∷ []) path ≡ (a ++ (if b then others else member x) ∷ []) ++ path
            → fold (longer folds) (a ++ (if b then others else member x) ∷ []) path ≡ a ++ member x ∷ path
        named false e is = is ∙ append_assoc a (member x ∷ []) path
        named true e is =
            let whole = sym (ap is_folded is) ∙ e in
            let first = or_parts (list_any is_others (a ++ others ∷ [])) (list_any is_others path) (sym (list_any-append is_others (a ++ others ∷ []) path) ∙ whole) in
            let last = or_parts (list_any is_others a) (list_any is_others (others ∷ [])) (sym (list_any-append is_others a (others ∷ [])) ∙ first.0) in
            absurd (let wrong = last.1 in cc)

plain_itself : (folds : List Path) (path : Path) → is_folded (folded_by folds path) ≡ false → folded_by folds path ≡ path
plain_itself folds path e = plain_from folds [] path e

-- a path in which none is folded is that of a path exactly where it is the same, and nothing of it is folded
plain_same : (folds : List Path) (path other : Path) → is_folded path ≡ false
    → path_equal path (folded_by folds other) ≡ (path_equal path other && path_equal path (folded_by folds path))
plain_same folds path other plain = by (cases_Bool (path_equal path (folded_by folds other))) (cases_Bool (path_equal path other))
  where
    by : ((path_equal path (folded_by folds other) ≡ true) ⊎ (path_equal path (folded_by folds other) ≡ false)) → ((path_equal path other ≡ true) ⊎ (path_equal path other ≡ false))
        → path_equal path (folded_by folds other) ≡ (path_equal path other && path_equal path (folded_by folds path))
    by (inl e) f =
        let is = path_same path (folded_by folds other) e in
        let same : path ≡ other = is ∙ plain_itself folds other (ap is_folded (sym is) ∙ plain) in
        e ∙ sym (ap₂ (λ (a b : Bool). a && b) (ap (path_equal path) (sym same) ∙ path_itself path) (ap (λ (p : Path). path_equal path (folded_by folds p)) same ∙ e))
    by (inr e) (inl f) =
        let same = path_same path other f in
        e ∙ sym (ap₂ (λ (a b : Bool). a && b) f (ap (λ (p : Path). path_equal path (folded_by folds p)) same ∙ e))
    by (inr e) (inr f) = e ∙ sym (ap (λ (b : Bool). b && path_equal path (folded_by folds path)) f)

and_true : (b : Bool) → (b && true) ≡ b
and_true true = refl
and_true false = refl

and_false : (b : Bool) → (b && false) ≡ false
and_false true = refl
and_false false = refl

none_of_all : (number : PlaceCounts → ℕ) (paths : List Path) (places : List PlaceCounts) → sum_where number (λ path. false) paths places ≡ 0
none_of_all number [] places = refl
none_of_all number (p ∷ paths) [] = refl
none_of_all number (p ∷ paths) (c ∷ places) = let rest = none_of_all number paths places in omega (arith, rest)

none_any : {X : Type 0} (xs : List X) → list_any (λ x. false) xs ≡ false
none_any [] = refl
none_any (x ∷ xs) = none_any xs

none_count : {X : Type 0} (xs : List X) → count_by (λ x. false) xs ≡ 0
none_count [] = refl
none_count (x ∷ xs) = let rest = none_count xs in let both = sum_by-cons (λ y. 0) x xs in omega (arith, rest, both)

-- ---- what was counted is counted

module _ (names : List (List ℕ)) (links next : List Link) (old new : List PlaceCounts) (lines : List Line) (newest : ℕ) (h : Refolds names links old next new) (apart : AreApart names next)
    (was : Counted (folded_by (folds_of names links)) lines newest (paths_of names links) old) where
  closed_now : Closed (folds_of names next) (folds_of names next)
  closed_now = closed_itself names next h.places apart

  closed_was : Closed (folds_of names next) (folds_of names links)
  closed_was = h.closed (folds_of names next) (closed_itself names next h.places apart)

  twice : (path : Path) → folded_by (folds_of names next) (folded_by (folds_of names links) path) ≡ folded_by (folds_of names next) path
  twice path = refolded (folds_of names links) (folds_of names next) closed_was path

  moved_sums : (in_lines : Bool) (kind : NodeKind) (test : Path → Bool)
      → sum_where (sums_of in_lines kind) test (paths_of names next) new ≡ sum_where (sums_of in_lines kind) (λ path. test (folded_by (folds_of names next) path)) (paths_of names links) old
  moved_sums in_lines kind test =
      let many = many_paths names next h.places in
      sum_alike (sums_of in_lines kind) test (λ (path : Path). test (folded_by (folds_of names next) path)) (paths_of names next) (paths_of names next) new refl
      (λ k s. ap test (sym (folded_itself names next h.places apart k (omega (arith, many, s)))))
      ∙ h.sums (folds_of names next) closed_now in_lines kind test

  refolded_nodes : (test : Path → Bool) (kind : NodeKind) → sum_where (nodes_of kind) test (paths_of names next) new ≡ count_by (passes (folded_by (folds_of names next)) test kind) (marks_in lines)
  refolded_nodes test kind =
      moved_sums false kind test ∙ (was.nodes (λ path. test (folded_by (folds_of names next) path)) kind
      ∙ (λ j. count_by (λ (mark : Mark). test (twice mark.path j) && same_kind kind mark.kind) (marks_in lines)))

  lines_by : (b : Bool) (path : Path) (kind : NodeKind) → is_folded path ≡ false
      → sum_where (lines_of kind) (λ other. path_equal path other && b) (paths_of names links) old
      ≡ count_by (λ t. list_any (λ (mark : Mark). (path_equal path (folded_by (folds_of names links) mark.path) && b) && same_kind kind mark.kind) (marks_of t)) lines
  lines_by true path kind plain =
      (λ j. sum_where (lines_of kind) (λ other. and_true (path_equal path other) j) (paths_of names links) old)
      ∙ (was.in_lines path kind plain
      ∙ sym (λ j. count_by (λ (t : Line). list_any (λ (mark : Mark). and_true (path_equal path (folded_by (folds_of names links) mark.path)) j && same_kind kind mark.kind) (marks_of t)) lines))
  lines_by false path kind plain =
      (λ j. sum_where (lines_of kind) (λ other. and_false (path_equal path other) j) (paths_of names links) old)
      ∙ (none_of_all (lines_of kind) (paths_of names links) old
      ∙ sym ((λ j. count_by (λ (t : Line). list_any (λ (mark : Mark). and_false (path_equal path (folded_by (folds_of names links) mark.path)) j && same_kind kind mark.kind) (marks_of t)) lines)
      ∙ ((λ j. count_by (λ (t : Line). none_any (marks_of t) j) lines) ∙ none_count lines)))

  refolded_lines : (path : Path) (kind : NodeKind) → is_folded path ≡ false
      → sum_where (lines_of kind) (path_equal path) (paths_of names next) new ≡ lines_at (folded_by (folds_of names next)) lines path kind
  refolded_lines path kind plain =
      let b = path_equal path (folded_by (folds_of names next) path) in
      moved_sums true kind (path_equal path)
      ∙ ((λ j. sum_where (lines_of kind) (λ other. plain_same (folds_of names next) path other plain j) (paths_of names links) old)
      ∙ (lines_by b path kind plain
      ∙ (sym (λ j. count_by (λ (t : Line). list_any (λ (mark : Mark). plain_same (folds_of names next) path (folded_by (folds_of names links) mark.path) plain j && same_kind kind mark.kind) (marks_of t)) lines)
      ∙ (λ j. count_by (λ (t : Line). list_any (λ (mark : Mark). path_equal path (twice mark.path j) && same_kind kind mark.kind) (marks_of t)) lines))))

  pub refolded_counted : Counted (folded_by (folds_of names next)) lines newest (paths_of names next) new
  refolded_counted = record {
    nodes = refolded_nodes;
    in_lines = refolded_lines;
    last = λ k kind l. let none = h.last k kind l in omega (arith, none);
  }
