-- Tables of ends, and one turn by them.
use Rattle.std.proofs.Common.{◌≡◌, ℕ, zero, suc, ◌+◌, ◌<◌, ◌≤◌, ◌⊎◌, inl, inr, List, [], ◌∷◌, ◌++◌, length, get_or, arith, refl, sym, ◌∙◌, ap, subst, length-append}
use Rattle.std.proofs.lemmas.List.{get_or_append_left, get_or_push}
use Rattle.jp_iregexp.specs.declared.positions.PositionSet.{PositionSet}
use Rattle.jp_iregexp.specs.Positions.{Has, IsSetOver, Reach, AreEnds}
use Rattle.jp_iregexp.specs.Tables.{AreEndsFrom, AreInRows, EndsInRow, IsTable}
use Rattle.jp_iregexp.proofs.Bits.{below_or_not}

-- the ends of a set of one start
pub from_one : (Member : List ℕ → Type 0) (text : List ℕ) (starts ends : PositionSet) (p : ℕ) → Has starts p → ((q : ℕ) → Has starts q → q ≡ p) → AreEnds Member text starts ends → AreEndsFrom Member text p ends
from_one Member text starts ends p has only a = record {
  over = a.over;
  sound = λ q h. (let s = a.sound q h in subst (λ x. Reach Member text x q) (only s.start s.has) s.reach);
  complete = λ q r. a.complete p q has r;
}

-- the set holds what is in the rows of the starts below n
pub record InRowsBelow (n : ℕ) (rows : List PositionSet) (starts set : PositionSet) : Type 0 where
  pub sound : (q : ℕ) → Has set q → EndsInRow rows starts q
  pub complete : (q : ℕ) (e : EndsInRow rows starts q) → e.start < n → Has set q

pub rows_start : (n : ℕ) (rows : List PositionSet) (starts set : PositionSet) → ((p : ℕ) → Has starts p → n ≤ p) → ((p : ℕ) → Has set p → ⊥) → InRowsBelow n rows starts set
rows_start n rows starts set low none = record {
  sound = λ q h. absurd (none q h);
  complete = λ q e l. (let above = low e.start e.has in absurd (omega (arith, l, above)));
}

pub row_skip : (rows : List PositionSet) (starts set : PositionSet) (n : ℕ) → InRowsBelow n rows starts set → (Has starts n → ⊥) → InRowsBelow (n + 1) rows starts set
row_skip rows starts set n b not = record {
  sound = b.sound;
  complete = λ q e l.
      elim (below_or_not e.start n) [
        | inl k ↦ b.complete q e k
        | inr k ↦ (let same : e.start ≡ n = omega arith in absurd (not (subst (λ x. Has starts x) same e.has)))
      ];
}

same_row : (rows : List PositionSet) (p : ℕ) (one other : PositionSet) → p < length rows → get_or rows p one ≡ get_or rows p other
same_row [] p one other l = absurd (omega (arith, l))
same_row (r ∷ rows) zero one other l = refl
same_row (r ∷ rows) (suc p) one other l = same_row rows p one other (omega (arith, l))

pub row_add : (rows : List PositionSet) (starts set row more : PositionSet) (n : ℕ) → InRowsBelow n rows starts set → Has starts n → n < length rows → row ≡ get_or rows n row → ((q : ℕ) → Has set q → Has more q) → ((q : ℕ) → Has row q → Has more q) → ((q : ℕ) → Has more q → Has set q ⊎ Has row q) → InRowsBelow (n + 1) rows starts more
row_add rows starts set row more n b has inside is old added new = record {
  sound = λ q h.
      elim (new q h) [
        | inl i ↦ b.sound q i
        | inr i ↦ (let t : EndsInRow rows starts q = record { start = n; row = row; has = has; inside = inside; is = is; ends = i } in t)
      ];
  complete = λ q e l.
      elim (below_or_not e.start n) [
        | inl k ↦ old q (b.complete q e k)
        | inr k ↦ (let at : e.start ≡ n = omega arith in
            let same : e.row ≡ row = e.is ∙ ap (λ i. get_or rows i e.row) at ∙ same_row rows n e.row row inside ∙ sym is in
            added q (subst (λ (r : PositionSet). Has r q) same e.ends))
      ];
}

-- no start is left
pub rows_all : (rows : List PositionSet) (starts set : PositionSet) (n : ℕ) → ((p : ℕ) → Has starts p → p < length rows → p < n) → InRowsBelow n rows starts set → AreInRows rows starts set
rows_all rows starts set n past b = record { sound = b.sound; complete = λ q e. b.complete q e (past e.start e.has e.inside) }

row_at : (rows : List PositionSet) (p : ℕ) → p < length rows → (row : PositionSet) × (row ≡ get_or rows p row)
row_at [] p l = absurd (omega (arith, l))
row_at (r ∷ rows) zero l = (r, refl)
row_at (r ∷ rows) (suc p) l = row_at rows p (omega (arith, l))

-- what is in the rows of a table
pub table_ends : (Member : List ℕ → Type 0) (text : List ℕ) (rows : List PositionSet) (starts set : PositionSet) → IsTable Member text rows → IsSetOver (length text) starts → AreInRows rows starts set → AreEnds Member text starts set
table_ends Member text rows starts set t over a = record {
  over = record { within = λ q h. (let e = a.sound q h in (t.each e.start e.row e.inside e.is).over.within q e.ends) };
  sound = λ q h. (let e = a.sound q h in record { start = e.start; has = e.has; reach = (t.each e.start e.row e.inside e.is).sound q e.ends });
  complete = λ p q h r.
      (let within = over.within p h in
      let size = t.size in
      let inside : p < length rows = omega (arith, within, size) in
      let row = row_at rows p inside in
      a.complete q (record { start = p; row = row.0; has = h; inside = inside; is = row.1; ends = (t.each p row.0 inside row.1).complete q r }));
}

-- the rows so far
pub record RowsBelow (Member : List ℕ → Type 0) (text : List ℕ) (n : ℕ) (rows : List PositionSet) : Type 0 where
  pub size : length rows ≡ n
  pub each : (p : ℕ) (row : PositionSet) → p < length rows → row ≡ get_or rows p row → AreEndsFrom Member text p row

pub rows_push : (Member : List ℕ → Type 0) (text : List ℕ) (n : ℕ) (rows more : List PositionSet) (row : PositionSet) → RowsBelow Member text n rows → more ≡ rows ++ row ∷ [] → AreEndsFrom Member text n row → RowsBelow Member text (n + 1) more
rows_push Member text n rows more row b e a =
    let size = b.size in
    let lengths : length more ≡ length rows + 1 = ap length e ∙ length-append rows (row ∷ []) in
    record {
      size = omega arith;
      each = λ p r l is.
          elim (below_or_not p (length rows)) [
            | inl k ↦ b.each p r k (is ∙ ap (λ x. get_or x p r) e ∙ get_or_append_left rows (row ∷ []) r p k)
            | inr k ↦ (let at : length rows ≡ p = omega arith in
                let same : row ≡ r = sym (get_or_push rows row r p at) ∙ ap (λ x. get_or x p r) (sym e) ∙ sym is in
                let position : n ≡ p = omega arith in
                subst (λ i. AreEndsFrom Member text i r) position (subst (λ (x : PositionSet). AreEndsFrom Member text n x) same a))
          ];
    }
