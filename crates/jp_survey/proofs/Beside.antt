-- How nodes are counted at places.
use Rattle.std.proofs.Common.{◌≡◌, ◌∙◌, ℕ, zero, suc, ◌+◌, ◌-◌, ◌<◌, ◌≤◌, ◌⊎◌, inl, inr, List, [], ◌∷◌, ◌++◌, length, get_or, set, replicate, Bool, true, false, ◌&&◌, ◌||◌, cond, eqb, ap, ap₂, refl, sym, subst, arith, append-nil, length-append}
use Rattle.std.specs.Prelude.{Any, count_by, if◌then◌else◌}
use Rattle.std.specs.List.{list_any}
use Rattle.std.proofs.lemmas.Bool.{and_left, and_right, cases_eq, cases_lt, cases_Bool, eq-eqb, eqb-true, false_from_ne_true, ne_eqb}
use Rattle.std.proofs.lemmas.List.{get_or-append_right, get_or-replicate, get_or-set_other, get_or-set_same, get_or_append_left, get_or_default, get_or_push, length-replicate, length-set, length_push}
use Rattle.std.proofs.lemmas.List.Concat.{flat_map-append}
use Rattle.std.proofs.lemmas.List.Folds.{Any-from_list_any, list_any-append, list_any_at, list_any_none}
use Rattle.std.proofs.lemmas.List.Sums.{sum_by-append, sum_by_push}
use Rattle.jp_survey.specs.Counts.{Counted, CountedBeside, count_of, counts_at, last_of, lines_of, more_of, no_counts, nodes_of, passes, sum_where, with_count, with_node}
use Rattle.jp_survey.specs.Paths.{Line, Mark, Path, kind_number, marks_of, path_equal, same_kind}
use Rattle.jp_survey.specs.Places.{has_path, path_at}
use Rattle.jp_survey.specs.Surveys.{is_at, is_folded, lines_at, marks_in}
use Rattle.jp_survey.specs.declared.count.Count.{Count}
use Rattle.jp_survey.specs.declared.count.PlaceCounts.{PlaceCounts}
use Rattle.jp_survey.specs.declared.kind.NodeKind.{NodeKind}
use Rattle.jp_survey.specs.declared.kind.NodeKind.TheVariants as kinds
use Rattle.jp_survey.proofs.Equalities.{path_itself, path_same}
use Rattle.jp_survey.proofs.Pushed.{each_pushed}

-- ---- kinds

kind_by : ℕ → NodeKind
kind_by n =
    if eqb n 0 then kinds.Null
    else if eqb n 1 then kinds.Boolean
    else if eqb n 2 then kinds.Number
    else if eqb n 3 then kinds.String
    else if eqb n 4 then kinds.Array
    else kinds.Object

kind_back : (kind : NodeKind) → kind_by (kind_number kind) ≡ kind
unfolding kind_by
kind_back kinds.Null = refl
kind_back kinds.Boolean = refl
kind_back kinds.Number = refl
kind_back kinds.String = refl
kind_back kinds.Array = refl
kind_back kinds.Object = refl

pub kind_same : (x y : NodeKind) → same_kind x y ≡ true → x ≡ y
kind_same x y e = sym (kind_back x) ∙ (ap kind_by (eqb-true (kind_number x) (kind_number y) e) ∙ kind_back y)

-- what holds of each of them
pub each_kind : (P : NodeKind → Type 0) → P kinds.Null → P kinds.Boolean → P kinds.Number → P kinds.String → P kinds.Array → P kinds.Object → (kind : NodeKind) → P kind
each_kind P a b c d e f kinds.Null = a
each_kind P a b c d e f kinds.Boolean = b
each_kind P a b c d e f kinds.Number = c
each_kind P a b c d e f kinds.String = d
each_kind P a b c d e f kinds.Array = e
each_kind P a b c d e f kinds.Object = f

-- ---- the counts of a place

with_same : (counts : PlaceCounts) (kind : NodeKind) (count : Count) → count_of (with_count counts kind count) kind ≡ count
with_same counts kinds.Null count = refl
with_same counts kinds.Boolean count = refl
with_same counts kinds.Number count = refl
with_same counts kinds.String count = refl
with_same counts kinds.Array count = refl
with_same counts kinds.Object count = refl

with_other : (counts : PlaceCounts) (asked kind : NodeKind) (count : Count) → same_kind asked kind ≡ false → count_of (with_count counts kind count) asked ≡ count_of counts asked
with_other counts kinds.Null kinds.Null count e = absurd (cc)
with_other counts kinds.Null kinds.Boolean count e = refl
with_other counts kinds.Null kinds.Number count e = refl
with_other counts kinds.Null kinds.String count e = refl
with_other counts kinds.Null kinds.Array count e = refl
with_other counts kinds.Null kinds.Object count e = refl
with_other counts kinds.Boolean kinds.Null count e = refl
with_other counts kinds.Boolean kinds.Boolean count e = absurd (cc)
with_other counts kinds.Boolean kinds.Number count e = refl
with_other counts kinds.Boolean kinds.String count e = refl
with_other counts kinds.Boolean kinds.Array count e = refl
with_other counts kinds.Boolean kinds.Object count e = refl
with_other counts kinds.Number kinds.Null count e = refl
with_other counts kinds.Number kinds.Boolean count e = refl
with_other counts kinds.Number kinds.Number count e = absurd (cc)
with_other counts kinds.Number kinds.String count e = refl
with_other counts kinds.Number kinds.Array count e = refl
with_other counts kinds.Number kinds.Object count e = refl
with_other counts kinds.String kinds.Null count e = refl
with_other counts kinds.String kinds.Boolean count e = refl
with_other counts kinds.String kinds.Number count e = refl
with_other counts kinds.String kinds.String count e = absurd (cc)
with_other counts kinds.String kinds.Array count e = refl
with_other counts kinds.String kinds.Object count e = refl
with_other counts kinds.Array kinds.Null count e = refl
with_other counts kinds.Array kinds.Boolean count e = refl
with_other counts kinds.Array kinds.Number count e = refl
with_other counts kinds.Array kinds.String count e = refl
with_other counts kinds.Array kinds.Array count e = absurd (cc)
with_other counts kinds.Array kinds.Object count e = refl
with_other counts kinds.Object kinds.Null count e = refl
with_other counts kinds.Object kinds.Boolean count e = refl
with_other counts kinds.Object kinds.Number count e = refl
with_other counts kinds.Object kinds.String count e = refl
with_other counts kinds.Object kinds.Array count e = refl
with_other counts kinds.Object kinds.Object count e = absurd (cc)

pub no_last : (kind : NodeKind) → last_of kind no_counts ≡ 0
no_last kinds.Null = refl
no_last kinds.Boolean = refl
no_last kinds.Number = refl
no_last kinds.String = refl
no_last kinds.Array = refl
no_last kinds.Object = refl

pub no_nodes : (kind : NodeKind) → nodes_of kind no_counts ≡ 0
no_nodes kinds.Null = refl
no_nodes kinds.Boolean = refl
no_nodes kinds.Number = refl
no_nodes kinds.String = refl
no_nodes kinds.Array = refl
no_nodes kinds.Object = refl

pub no_lines : (kind : NodeKind) → lines_of kind no_counts ≡ 0
no_lines kinds.Null = refl
no_lines kinds.Boolean = refl
no_lines kinds.Number = refl
no_lines kinds.String = refl
no_lines kinds.Array = refl
no_lines kinds.Object = refl

-- one node more: what changes of a number of a kind
changed : (number : Count → ℕ) (counts : PlaceCounts) (asked kind : NodeKind) (line : ℕ)
    → number (count_of (with_count counts kind (more_of line (count_of counts kind))) asked) ≡ cond (same_kind asked kind) (number (more_of line (count_of counts asked))) (number (count_of counts asked))
changed number counts asked kind line = by (cases_Bool (same_kind asked kind))
  where
    new : Count
    new = more_of line (count_of counts kind)

    by : ((same_kind asked kind ≡ true) ⊎ (same_kind asked kind ≡ false))
        → number (count_of (with_count counts kind (more_of line (count_of counts kind))) asked) ≡ cond (same_kind asked kind) (number (more_of line (count_of counts asked))) (number (count_of counts asked))
    by (inl e) =
        let is = kind_same asked kind e in
        ap (λ (k : NodeKind). number (count_of (with_count counts kind (more_of line (count_of counts kind))) k)) is
        ∙ (ap number (with_same counts kind (more_of line (count_of counts kind)))
        ∙ (ap (λ (k : NodeKind). number (more_of line (count_of counts k))) (sym is)
        ∙ sym (ap (λ (b : Bool). cond b (number (more_of line (count_of counts asked))) (number (count_of counts asked))) e)))
    by (inr e) =
        ap number (with_other counts asked kind (more_of line (count_of counts kind)) e)
        ∙ sym (ap (λ (b : Bool). cond b (number (more_of line (count_of counts asked))) (number (count_of counts asked))) e)

-- ---- sums over places

module _ (number : PlaceCounts → ℕ) (test : Path → Bool) where
  pub none_where : number no_counts ≡ 0 → (more : List Path) (n : ℕ) → sum_where number test more (replicate n no_counts) ≡ 0
  none_where e [] n = refl
  none_where e (path ∷ more) zero = refl
  none_where e (path ∷ more) (suc n) = by (test path) (none_where e more n)
    where
      by : (b : Bool) → sum_where number test more (replicate n no_counts) ≡ 0 → cond b (number no_counts) 0 + sum_where number test more (replicate n no_counts) ≡ 0
      by true rest = omega (arith, rest, e)
      by false rest = omega (arith, rest)

  sum_grown : number no_counts ≡ 0 → (paths more : List Path) (places : List PlaceCounts) (n : ℕ) → length paths ≡ length places
      → sum_where number test (paths ++ more) (places ++ replicate n no_counts) ≡ sum_where number test paths places
  sum_grown e [] more [] n long = none_where e more n
  sum_grown e [] more (c ∷ places) n long = absurd (omega (arith, long))
  sum_grown e (path ∷ paths) more [] n long = absurd (omega (arith, long))
  sum_grown e (path ∷ paths) more (c ∷ places) n long = ap (λ (s : ℕ). cond (test path) (number c) 0 + s) (sum_grown e paths more places n (omega (arith, long)))

  pub sum_set : (paths : List Path) (places : List PlaceCounts) (k : ℕ) (new : PlaceCounts) → length paths ≡ length places → k < length paths
      → sum_where number test paths (set places k new) + cond (test (path_at paths k)) (number (counts_at places k)) 0
      ≡ sum_where number test paths places + cond (test (path_at paths k)) (number new) 0
  sum_set [] places k new long l = absurd (omega (arith, l))
  sum_set (path ∷ paths) [] k new long l = absurd (omega (arith, long))
  sum_set (path ∷ paths) (c ∷ places) zero new long l = omega arith
  sum_set (path ∷ paths) (c ∷ places) (suc k) new long l = let rest = sum_set paths places k new (omega (arith, long)) (omega (arith, l)) in omega (arith, rest)

-- ---- one node more

abbrev one_where : Bool → ℕ
one_where b = cond b 1 0

nodes_step : (q b : Bool) (after before old new seen : ℕ) → after + cond q old 0 ≡ before + cond q new 0 → new ≡ cond b (old + 1) old → before ≡ seen → after ≡ seen + cond (q && b) 1 0
nodes_step true true after before old new seen s e h = omega (arith, s, e, h)
nodes_step true false after before old new seen s e h = omega (arith, s, e, h)
nodes_step false b after before old new seen s e h = omega (arith, s, h)

lines_step : (q b found last : Bool) (after before old new seen : ℕ) → after + cond q old 0 ≡ before + cond q new 0 → new ≡ cond b (old + cond last 0 1) old → (q ≡ true → last ≡ found)
    → before ≡ seen + cond found 1 0 → after ≡ seen + cond (found || ((q && b) || false)) 1 0
lines_step true true true true after before old new seen s e same h = omega (arith, s, e, h)
lines_step true true false false after before old new seen s e same h = omega (arith, s, e, h)
lines_step true true true false after before old new seen s e same h = absurd (let no = same refl in cc)
lines_step true true false true after before old new seen s e same h = absurd (let no = same refl in cc)
lines_step true false true last after before old new seen s e same h = omega (arith, s, e, h)
lines_step true false false last after before old new seen s e same h = omega (arith, s, e, h)
lines_step false b true last after before old new seen s e same h = omega (arith, s, h)
lines_step false b false last after before old new seen s e same h = omega (arith, s, h)

module _ (shown : Path → Path) (lines : List Line) (line : ℕ) (marks : List Mark) (paths : List Path) (places : List PlaceCounts)
    (h : CountedBeside shown lines line marks paths places) (long : length paths ≡ length places)
    (once : (j k : ℕ) → j < length paths → k < length paths → path_at paths j ≡ path_at paths k → j ≡ k)
    (mark : Mark) (place : ℕ) (inside : place < length paths) (is : path_at paths place ≡ shown mark.path) where
  counted_nodes : (test : Path → Bool) (kind : NodeKind)
      → sum_where (nodes_of kind) test paths (with_node places place mark.kind line) ≡ count_by (passes shown test kind) (marks_in lines) + count_by (passes shown test kind) (marks ++ mark ∷ [])
  counted_nodes test kind =
      let old = counts_at places place in
      let new = with_count old mark.kind (more_of line (count_of old mark.kind)) in
      let step = nodes_step (test (path_at paths place)) (same_kind kind mark.kind) (sum_where (nodes_of kind) test paths (with_node places place mark.kind line)) (sum_where (nodes_of kind) test paths places)
      (nodes_of kind old) (nodes_of kind new) (count_by (passes shown test kind) (marks_in lines) + count_by (passes shown test kind) marks)
      (sum_set (nodes_of kind) test paths places place new long inside) (changed (λ (c : Count). c.nodes) old kind mark.kind line) (h.nodes test kind) in
      let same : one_where (test (path_at paths place) && same_kind kind mark.kind) ≡ one_where (passes shown test kind mark) =
      ap (λ (p : Path). one_where (test p && same_kind kind mark.kind)) is in
      let pushed = sum_by_push (λ (m : Mark). cond (passes shown test kind m) 1 0) marks mark in
      omega (arith, step, same, pushed)

  counted_lines : (path : Path) (kind : NodeKind) → is_folded path ≡ false
      → sum_where (lines_of kind) (path_equal path) paths (with_node places place mark.kind line) ≡ lines_at shown lines path kind + cond (list_any (is_at shown path kind) (marks ++ mark ∷ [])) 1 0
  counted_lines path kind plain =
      let old = counts_at places place in
      let new = with_count old mark.kind (more_of line (count_of old mark.kind)) in
      let found = list_any (is_at shown path kind) marks in
      let step = lines_step (path_equal path (path_at paths place)) (same_kind kind mark.kind) found (eqb (last_of kind old) line)
      (sum_where (lines_of kind) (path_equal path) paths (with_node places place mark.kind line)) (sum_where (lines_of kind) (path_equal path) paths places)
      (lines_of kind old) (lines_of kind new) (lines_at shown lines path kind)
      (sum_set (lines_of kind) (path_equal path) paths places place new long inside) (changed (λ (c : Count). c.lines) old kind mark.kind line)
      (λ e. (h.last place kind (omega (arith, long, inside))).1 ∙ ap (λ (p : Path). list_any (is_at shown p kind) marks) (sym (path_same path (path_at paths place) e))) (h.in_lines path kind plain) in
      step ∙ ap (λ (b : Bool). lines_at shown lines path kind + cond b 1 0)
      (ap (λ (p : Path). found || ((path_equal path p && same_kind kind mark.kind) || false)) is ∙ sym (list_any-append (is_at shown path kind) marks (mark ∷ [])))

  -- where the new node is not of this path and kind
  other_last : (counts : PlaceCounts) (path : Path) (kind : NodeKind) → (last_of kind counts ≤ line) × (eqb (last_of kind counts) line ≡ list_any (is_at shown path kind) marks)
      → is_at shown path kind mark ≡ false → (last_of kind counts ≤ line) × (eqb (last_of kind counts) line ≡ list_any (is_at shown path kind) (marks ++ mark ∷ []))
  other_last counts path kind was apart =
      let found = list_any (is_at shown path kind) marks in (
        was.0,
        was.1 ∙ (by found ∙ (ap (λ (b : Bool). found || (b || false)) (sym apart) ∙ sym (list_any-append (is_at shown path kind) marks (mark ∷ [])))),
      )
    where
      by : (b : Bool) → b ≡ (b || (false || false))
      by true = refl
      by false = refl

  counted_last : (k : ℕ) (kind : NodeKind) → k < length (with_node places place mark.kind line)
      → (last_of kind (counts_at (with_node places place mark.kind line) k) ≤ line)
      × (eqb (last_of kind (counts_at (with_node places place mark.kind line) k)) line ≡ list_any (is_at shown (path_at paths k) kind) (marks ++ mark ∷ []))
  counted_last k kind l = by (cases_eq k place)
    where
      old : PlaceCounts
      old = counts_at places place

      new : PlaceCounts
      new = with_count (counts_at places place) mark.kind (more_of line (count_of (counts_at places place) mark.kind))

      same_length : length (with_node places place mark.kind line) ≡ length places
      same_length = length-set places place (with_count (counts_at places place) mark.kind (more_of line (count_of (counts_at places place) mark.kind)))

      goal : PlaceCounts → Path → Type 0
      goal counts path = (last_of kind counts ≤ line) × (eqb (last_of kind counts) line ≡ list_any (is_at shown path kind) (marks ++ mark ∷ []))

      here : ((same_kind kind mark.kind ≡ true) ⊎ (same_kind kind mark.kind ≡ false))
          → (last_of kind (with_count (counts_at places place) mark.kind (more_of line (count_of (counts_at places place) mark.kind))) ≤ line)
          × (eqb (last_of kind (with_count (counts_at places place) mark.kind (more_of line (count_of (counts_at places place) mark.kind)))) line ≡ list_any (is_at shown (path_at paths place) kind) (marks ++ mark ∷ []))
      here (inl e) =
          let last : last_of kind (with_count (counts_at places place) mark.kind (more_of line (count_of (counts_at places place) mark.kind))) ≡ line =
          changed (λ (c : Count). c.last) (counts_at places place) kind mark.kind line
          ∙ ap (λ (b : Bool). cond b line (last_of kind (counts_at places place))) e in
          let it : is_at shown (path_at paths place) kind mark ≡ true =
          ap₂ (λ (a b : Bool). a && b) (ap (path_equal (path_at paths place)) (sym is) ∙ path_itself (path_at paths place)) e in (
            omega (arith, last),
            eq-eqb (last_of kind (with_count (counts_at places place) mark.kind (more_of line (count_of (counts_at places place) mark.kind)))) line last
                ∙ sym (list_any_at (is_at shown (path_at paths place) kind) (marks ++ mark ∷ []) (length marks) mark (let one = length_push marks mark in omega (arith, one))
                (ap (is_at shown (path_at paths place) kind) (get_or_push marks mark mark (length marks) refl) ∙ it)),
          )
      here (inr e) =
          let last : last_of kind (counts_at places place) ≡ last_of kind (with_count (counts_at places place) mark.kind (more_of line (count_of (counts_at places place) mark.kind))) =
          sym (changed (λ (c : Count). c.last) (counts_at places place) kind mark.kind line
          ∙ ap (λ (b : Bool). cond b line (last_of kind (counts_at places place))) e) in
          let was = other_last (counts_at places place) (path_at paths place) kind (h.last place kind (omega (arith, long, inside))) (and_right (path_equal (path_at paths place) (shown mark.path)) (same_kind kind mark.kind) e) in (
            omega (arith, last, was.0),
            ap (λ (n : ℕ). eqb n line) (sym last) ∙ was.1,
          )

      by : ((k ≡ place) ⊎ (k ≡ place → ⊥))
          → (last_of kind (counts_at (with_node places place mark.kind line) k) ≤ line)
          × (eqb (last_of kind (counts_at (with_node places place mark.kind line) k)) line ≡ list_any (is_at shown (path_at paths k) kind) (marks ++ mark ∷ []))
      by (inl e) =
          subst (λ (n : ℕ). (last_of kind (counts_at (with_node places place mark.kind line) n) ≤ line)
          × (eqb (last_of kind (counts_at (with_node places place mark.kind line) n)) line ≡ list_any (is_at shown (path_at paths n) kind) (marks ++ mark ∷ []))) (sym e)
          (subst (λ (c : PlaceCounts). (last_of kind c ≤ line) × (eqb (last_of kind c) line ≡ list_any (is_at shown (path_at paths place) kind) (marks ++ mark ∷ [])))
          (sym (get_or-set_same places place (with_count (counts_at places place) mark.kind (more_of line (count_of (counts_at places place) mark.kind))) no_counts (omega (arith, long, inside))))
          (here (cases_Bool (same_kind kind mark.kind))))
      by (inr ne) =
          subst (λ (c : PlaceCounts). (last_of kind c ≤ line) × (eqb (last_of kind c) line ≡ list_any (is_at shown (path_at paths k) kind) (marks ++ mark ∷ [])))
          (sym (get_or-set_other places place k (with_count (counts_at places place) mark.kind (more_of line (count_of (counts_at places place) mark.kind))) no_counts ne))
          (let s : k < length places = omega (arith, same_length, l) in
          other_last (counts_at places k) (path_at paths k) kind (h.last k kind s)
          (and_left (path_equal (path_at paths k) (shown mark.path)) (same_kind kind mark.kind)
          (false_from_ne_true (path_equal (path_at paths k) (shown mark.path)) (λ e. ne (once k place (omega (arith, long, s)) inside (path_same (path_at paths k) (shown mark.path) e ∙ sym is))))))

  pub one_counted : CountedBeside shown lines line (marks ++ mark ∷ []) paths (with_node places place mark.kind line)
  one_counted = record {
    nodes = counted_nodes;
    in_lines = counted_lines;
    last = counted_last;
    placed = λ k d l. each_pushed marks mark d (λ (n : ℕ) (m : Mark). has_path paths (shown m.path) ≡ true) (λ n s. h.placed n d s)
        (list_any_at (path_equal (shown mark.path)) paths place [] inside (ap (path_equal (shown mark.path)) is ∙ path_itself (shown mark.path))) k l;
  }

-- ---- more places

module _ (shown : Path → Path) (lines : List Line) (line : ℕ) (marks : List Mark) (paths : List Path) (places : List PlaceCounts)
    (h : CountedBeside shown lines line marks paths places) (long : length paths ≡ length places) (more : List Path) (n : ℕ) (some : 0 < line)
    (all : length (paths ++ more) ≡ length (places ++ replicate n no_counts))
    (once : (j k : ℕ) → j < length (paths ++ more) → k < length (paths ++ more) → path_at (paths ++ more) j ≡ path_at (paths ++ more) k → j ≡ k) where
  -- no node has the path of a new place
  none_there : (k : ℕ) → length paths ≤ k → k < length (paths ++ more) → (kind : NodeKind) → list_any (is_at shown (path_at (paths ++ more) k) kind) marks ≡ false
  none_there k past l kind = list_any_none (is_at shown (path_at (paths ++ more) k) kind) marks (λ i d s. let mark = get_or marks i d in
      and_left (path_equal (path_at (paths ++ more) k) (shown mark.path)) (same_kind kind mark.kind)
      (false_from_ne_true (path_equal (path_at (paths ++ more) k) (shown mark.path)) (λ e. none_has mark (path_same (path_at (paths ++ more) k) (shown mark.path) e)
      (Any-from_list_any (path_equal (shown mark.path)) paths (h.placed i d s)))))
    where
      none_has : (mark : Mark) → path_at (paths ++ more) k ≡ shown mark.path → Any (λ (p : Path). path_equal (shown mark.path) p ≡ true) paths → ⊥
      none_has mark e found =
          let i = found.0 in let l' = found.2 in
          let here : path_at (paths ++ more) i ≡ shown mark.path =
          get_or_append_left paths more [] i l' ∙ (get_or_default paths i [] found.1 l' ∙ (found.3 ∙ sym (path_same (shown mark.path) found.1 found.4))) in
          let is = once k i l (let many = length-append paths more in omega (arith, many, l')) (e ∙ sym here) in
          omega (arith, is, past, l')

  grown_last : (k : ℕ) (kind : NodeKind) → k < length (places ++ replicate n no_counts)
      → (last_of kind (counts_at (places ++ replicate n no_counts) k) ≤ line)
      × (eqb (last_of kind (counts_at (places ++ replicate n no_counts) k)) line ≡ list_any (is_at shown (path_at (paths ++ more) k) kind) marks)
  grown_last k kind l = by (cases_lt k (length places))
    where
      by : ((k < length places) ⊎ (length places ≤ k))
          → (last_of kind (counts_at (places ++ replicate n no_counts) k) ≤ line)
          × (eqb (last_of kind (counts_at (places ++ replicate n no_counts) k)) line ≡ list_any (is_at shown (path_at (paths ++ more) k) kind) marks)
      by (inl s) =
          subst (λ (c : PlaceCounts). (last_of kind c ≤ line) × (eqb (last_of kind c) line ≡ list_any (is_at shown (path_at (paths ++ more) k) kind) marks))
          (sym (get_or_append_left places (replicate n no_counts) no_counts k s))
          (subst (λ (p : Path). (last_of kind (counts_at places k) ≤ line) × (eqb (last_of kind (counts_at places k)) line ≡ list_any (is_at shown p kind) marks))
          (sym (get_or_append_left paths more [] k (omega (arith, long, s)))) (h.last k kind s))
      by (inr s) =
          let many = length-append places (replicate n no_counts) in let some_more = length-replicate n no_counts in
          subst (λ (c : PlaceCounts). (last_of kind c ≤ line) × (eqb (last_of kind c) line ≡ list_any (is_at shown (path_at (paths ++ more) k) kind) marks))
          (sym (get_or-append_right places (replicate n no_counts) (length places) k no_counts refl s
          ∙ get_or-replicate n (k - length places) no_counts no_counts (omega (arith, many, some_more, l, s))))
          (let none = no_last kind in (
            omega (arith, none),
            ne_eqb (last_of kind no_counts) line (λ e. omega (arith, none, e, some)) ∙ sym (none_there k (omega (arith, long, s)) (omega (arith, all, l)) kind),
          ))

  pub more_counted : CountedBeside shown lines line marks (paths ++ more) (places ++ replicate n no_counts)
  more_counted = record {
    nodes = λ test kind. sum_grown (nodes_of kind) test (no_nodes kind) paths more places n long ∙ h.nodes test kind;
    in_lines = λ path kind plain. sum_grown (lines_of kind) (path_equal path) (no_lines kind) paths more places n long ∙ h.in_lines path kind plain;
    last = grown_last;
    placed = λ k d l. let mark = get_or marks k d in list_any-append (path_equal (shown mark.path)) paths more ∙ ap (λ (b : Bool). b || list_any (path_equal (shown mark.path)) more) (h.placed k d l);
  }

-- ---- a text begins, and ends

module _ (shown : Path → Path) (lines : List Line) (paths : List Path) (places : List PlaceCounts) where
  pub text_begins : (newest : ℕ) → Counted shown lines newest paths places → CountedBeside shown lines (newest + 1) [] paths places
  text_begins newest h = record {
    nodes = λ test kind. let was = h.nodes test kind in omega (arith, was);
    in_lines = λ path kind plain. let was = h.in_lines path kind plain in omega (arith, was);
    last = λ k kind l. let was = h.last k kind l in (omega (arith, was), ne_eqb (last_of kind (counts_at places k)) (newest + 1) (λ e. omega (arith, was, e)));
    placed = λ k d l. absurd (omega (arith, l));
  }

  pub text_ends : (line : ℕ) (t : Line) → CountedBeside shown lines line (marks_of t) paths places → Counted shown (lines ++ t ∷ []) line paths places
  text_ends line t h = record {
    nodes = λ test kind. let one = λ (m : Mark). cond (passes shown test kind m) 1 0 in
        h.nodes test kind ∙ sym (ap (count_by (passes shown test kind)) (flat_map-append marks_of lines (t ∷ []) ∙ ap (λ (l : List Mark). marks_in lines ++ l) (append-nil (marks_of t)))
        ∙ sum_by-append one (marks_in lines) (marks_of t));
    in_lines = λ path kind plain. h.in_lines path kind plain ∙ sym (sum_by_push (λ (t : Line). cond (list_any (is_at shown path kind) (marks_of t)) 1 0) lines t);
    last = λ k kind l. (h.last k kind l).0;
  }
