-- Lines that are opened and lines that are refused, in turn.
use Rattle.std.proofs.Common.{◌≡◌, ℕ, zero, suc, ◌+◌, ◌-◌, ◌≤◌, List, [], ◌∷◌, ◌++◌, drop, map, Bool, true, false, Some, if◌then◌else◌, slice_get, refl, sym, ap, subst, ◌∙◌, arith, append_assoc, append-nil}
use Rattle.jp_model.specs.Json.Status.{LineStatus, blank, refused, parsed}
use Rattle.jp_model.specs.Steps.{Step}
use Rattle.jp_model.specs.Query.Syntax.{Segments}
use Rattle.jp_model.specs.Numbered.{numbers_where}
use Rattle.jp_model.specs.Plans.{is_opened}
use Rattle.jp_model.specs.Rows.{Row, node_row, status_rows, rows_from, rows}
use Rattle.jp_model.specs.Script.Machine.{is_refused_status}
use Rattle.jp_model.proofs.Opened.{unopened_has_none}
use Rattle.jp_plan.specs.Turns.{AtLeast, IsLeft}

-- the numbers are not below that of the first line
pub above : (p : LineStatus → Bool) (ss : List LineStatus) (n o : ℕ) (os : List ℕ) → numbers_where p n ss ≡ o ∷ os → n ≤ o
above p [] n o os e = absurd (cc)
above p (s ∷ ss) n o os e = pick (p s) e (above p ss (n + 1) o os)
  where
    pick : (b : Bool) → (if b then n ∷ numbers_where p (n + 1) ss else numbers_where p (n + 1) ss) ≡ o ∷ os → (numbers_where p (n + 1) ss ≡ o ∷ os → n + 1 ≤ o) → n ≤ o
    pick true k again = let same : n ≡ o = cc in omega arith
    pick false k again = let next = again k in omega arith

-- what comes next, of some lines of which the first has number n
pub record Turn (q : Segments) (p r : LineStatus → Bool) (n : ℕ) (ss : List LineStatus) (o : ℕ) (os rs : List ℕ) : Type 0 where
  pub k : ℕ
  pub s : LineStatus
  pub at : o ≡ n + k
  pub here : slice_get ss k ≡ Some s
  pub passes : p s ≡ true
  pub mine : numbers_where p (o + 1) (drop (suc k) ss) ≡ os
  pub others : numbers_where r (o + 1) (drop (suc k) ss) ≡ rs
  pub found : rows_from q n ss ≡ status_rows q o s ++ rows_from q (o + 1) (drop (suc k) ss)

module _ (q : Segments) (p r : LineStatus → Bool) (none : (n : ℕ) (s : LineStatus) → p s ≡ false → r s ≡ false → status_rows q n s ≡ []) (apart : (s : LineStatus) → p s ≡ true → r s ≡ true → ⊥) where
  -- the first line of those that are left
  taken : (s : LineStatus) (ss : List LineStatus) (n o : ℕ) (os rs : List ℕ) → p s ≡ true → n ∷ numbers_where p (n + 1) ss ≡ o ∷ os → numbers_where r (n + 1) ss ≡ rs → Turn q p r n (s ∷ ss) o os rs
  taken s ss n o os rs h e f =
      let same : n ≡ o = cc in
      let rest : numbers_where p (n + 1) ss ≡ os = cc in
      record {
        k = zero;
        s = s;
        at = omega arith;
        here = refl;
        passes = h;
        mine = ap (λ m. numbers_where p (m + 1) ss) (sym same) ∙ rest;
        others = ap (λ m. numbers_where r (m + 1) ss) (sym same) ∙ f;
        found = ap (λ m. status_rows q m s ++ rows_from q (m + 1) ss) same;
      }

  -- a line that is neither
  passed : (s : LineStatus) (ss : List LineStatus) (n o : ℕ) (os rs : List ℕ) → status_rows q n s ≡ [] → Turn q p r (n + 1) ss o os rs → Turn q p r n (s ∷ ss) o os rs
  passed s ss n o os rs h t = record {
    k = suc t.k;
    s = t.s;
    at = let e = t.at in omega arith;
    here = t.here;
    passes = t.passes;
    mine = t.mine;
    others = t.others;
    found = ap (λ rows. rows ++ rows_from q (n + 1) ss) h ∙ t.found;
  }

  pub turn : (ss : List LineStatus) (n o : ℕ) (os rs : List ℕ) → numbers_where p n ss ≡ o ∷ os → numbers_where r n ss ≡ rs → AtLeast o rs → Turn q p r n ss o os rs
  turn [] n o os rs e f l = absurd (cc)
  turn (s ∷ ss) n o os rs e f l = pick (p s) (r s) refl refl e f l (turn ss (n + 1) o os rs)
    where
      low : (ms : List ℕ) → n ∷ ms ≡ rs → AtLeast o rs → o ≤ n
      low ms e l = subst (AtLeast o) (sym e) l

      pick : (b c : Bool) → p s ≡ b → r s ≡ c → (if b then n ∷ numbers_where p (n + 1) ss else numbers_where p (n + 1) ss) ≡ o ∷ os → (if c then n ∷ numbers_where r (n + 1) ss else numbers_where r (n + 1) ss) ≡ rs → AtLeast o rs
          → (numbers_where p (n + 1) ss ≡ o ∷ os → numbers_where r (n + 1) ss ≡ rs → AtLeast o rs → Turn q p r (n + 1) ss o os rs) → Turn q p r n (s ∷ ss) o os rs
      pick true true h k e f l again = absurd (apart s h k)
      pick true false h k e f l again = taken s ss n o os rs h e f
      pick false true h k e f l again =
          let high : n + 1 ≤ o = above p ss (n + 1) o os e in
          let below : o ≤ n = low (numbers_where r (n + 1) ss) f l in
          absurd (omega arith)
      pick false false h k e f l again = passed s ss n o os rs (none n s h k) (again e f l)

  -- no line is left
  pub ended : (ss : List LineStatus) (n : ℕ) → numbers_where p n ss ≡ [] → numbers_where r n ss ≡ [] → rows_from q n ss ≡ []
  ended [] n e f = refl
  ended (s ∷ ss) n e f = pick (p s) (r s) refl refl e f (ended ss (n + 1))
    where
      pick : (b c : Bool) → p s ≡ b → r s ≡ c → (if b then n ∷ numbers_where p (n + 1) ss else numbers_where p (n + 1) ss) ≡ [] → (if c then n ∷ numbers_where r (n + 1) ss else numbers_where r (n + 1) ss) ≡ []
          → (numbers_where p (n + 1) ss ≡ [] → numbers_where r (n + 1) ss ≡ [] → rows_from q (n + 1) ss ≡ []) → rows_from q n (s ∷ ss) ≡ []
      pick true c h k e f again = absurd (cc)
      pick false true h k e f again = absurd (cc)
      pick false false h k e f again = ap (λ rows. rows ++ rows_from q (n + 1) ss) (none n s h k) ∙ again e f

-- a line that is neither opened nor refused has no row
pub neither : (q : Segments) (paths : List (List Step)) (n : ℕ) (s : LineStatus) → is_opened q paths s ≡ false → is_refused_status s ≡ false → status_rows q n s ≡ []
neither q paths n blank h k = refl
neither q paths n (refused fault) h k = absurd (cc)
neither q paths n (parsed t) h k = ap (map (node_row n)) (unopened_has_none q paths t h)

pub apart : (q : Segments) (paths : List (List Step)) (s : LineStatus) → is_opened q paths s ≡ true → is_refused_status s ≡ true → ⊥
apart q paths blank h k = cc
apart q paths (refused fault) h k = cc
apart q paths (parsed t) h k = cc

-- one among those that are left
behind_first : {A : Type 0} (xs : List A) (m k j : ℕ) → j ≡ m + k → slice_get (drop m xs) k ≡ slice_get xs j
behind_first xs zero k j e = let same : k ≡ j = omega arith in ap (slice_get xs) same
behind_first [] (suc m) k j e = refl
behind_first (x ∷ xs) (suc m) k zero e = absurd (omega arith)
behind_first (x ∷ xs) (suc m) k (suc j) e = behind_first xs m k j (omega arith)

nothing : {A : Type 0} (k : ℕ) → drop {A = A} k [] ≡ []
nothing zero = refl
nothing (suc k) = refl

drop_behind : {A : Type 0} (xs : List A) (m k j : ℕ) → j ≡ m + k → drop k (drop m xs) ≡ drop j xs
drop_behind xs zero k j e = let same : k ≡ j = omega arith in ap (λ i. drop i xs) same
drop_behind [] (suc m) k j e = nothing k ∙ sym (nothing j)
drop_behind (x ∷ xs) (suc m) k zero e = absurd (omega arith)
drop_behind (x ∷ xs) (suc m) k (suc j) e = drop_behind xs m k j (omega arith)

-- a line is told, and what is left is after it
pub record Told (q : Segments) (ss : List LineStatus) (p r : LineStatus → Bool) (o : ℕ) (os rs : List ℕ) (done : List Row) : Type 0 where
  pub s : LineStatus
  pub first : 1 ≤ o
  pub is : slice_get ss (o - 1) ≡ Some s
  pub passes : p s ≡ true
  pub mine : numbers_where p (o + 1) (drop o ss) ≡ os
  pub others : numbers_where r (o + 1) (drop o ss) ≡ rs
  pub so_far : (done ++ status_rows q o s) ++ rows_from q (o + 1) (drop o ss) ≡ rows q ss

module _ (q : Segments) (ss : List LineStatus) (o : ℕ) (os rs : List ℕ) (done : List Row) where
  after : (m k : ℕ) (s : LineStatus) → o ≡ (m + 1) + k → rows_from q (m + 1) (drop m ss) ≡ status_rows q o s ++ rows_from q (o + 1) (drop (suc k) (drop m ss))
      → done ++ rows_from q (m + 1) (drop m ss) ≡ rows q ss → (done ++ status_rows q o s) ++ rows_from q (o + 1) (drop o ss) ≡ rows q ss
  after m k s e found so_far =
      let rest : drop (suc k) (drop m ss) ≡ drop o ss = drop_behind ss m (suc k) o (omega arith) in
      append_assoc done (status_rows q o s) (rows_from q (o + 1) (drop o ss))
      ∙ (ap (λ ls. done ++ (status_rows q o s ++ rows_from q (o + 1) ls)) (sym rest)
      ∙ (ap (λ rows. done ++ rows) (sym found) ∙ so_far))

  told : (p r : LineStatus → Bool) (m : ℕ) → Turn q p r (m + 1) (drop m ss) o os rs → done ++ rows_from q (m + 1) (drop m ss) ≡ rows q ss → Told q ss p r o os rs done
  told p r m t so_far =
      let e = t.at in
      let rest : drop (suc t.k) (drop m ss) ≡ drop o ss = drop_behind ss m (suc t.k) o (omega arith) in
      record {
        s = t.s;
        first = omega arith;
        is = sym (behind_first ss m t.k (o - 1) (omega arith)) ∙ t.here;
        passes = t.passes;
        mine = ap (numbers_where p (o + 1)) (sym rest) ∙ t.mine;
        others = ap (numbers_where r (o + 1)) (sym rest) ∙ t.others;
        so_far = after m t.k t.s t.at t.found so_far;
      }

  module _ (paths : List (List Step)) where
    pub opens : IsLeft q paths ss (o ∷ os) rs done → AtLeast o rs → Told q ss (is_opened q paths) is_refused_status o os rs done
    opens left l =
        let m = left.before in
        told (is_opened q paths) is_refused_status m
        (turn q (is_opened q paths) is_refused_status (neither q paths) (apart q paths) (drop m ss) (m + 1) o os rs left.to_open left.to_refuse l)
        left.so_far

    pub refuses : IsLeft q paths ss rs (o ∷ os) done → AtLeast o rs → Told q ss is_refused_status (is_opened q paths) o os rs done
    refuses left l =
        let m = left.before in
        told is_refused_status (is_opened q paths) m
        (turn q is_refused_status (is_opened q paths) (λ n s h k. neither q paths n s k h) (λ s h k. apart q paths s k h) (drop m ss) (m + 1) o os rs left.to_refuse left.to_open l)
        left.so_far

-- nothing is left
pub none_left : (q : Segments) (paths : List (List Step)) (ss : List LineStatus) (done : List Row) → IsLeft q paths ss [] [] done → done ≡ rows q ss
none_left q paths ss done left =
    let m = left.before in
    let e = ended q (is_opened q paths) is_refused_status (neither q paths) (apart q paths) (drop m ss) (m + 1) left.to_open left.to_refuse in
    sym (append-nil done) ∙ (ap (λ rows. done ++ rows) (sym e) ∙ left.so_far)
