-- Items read one after the other, as a loop reads them.
use Rattle.std.proofs.Common.{◌≡◌, ℕ, suc, ◌-◌, ◌+◌, ◌≤◌, ◌<◌, List, [], ◌∷◌, ◌++◌, length, Option, Some, None, refl, sym, ap, subst, ◌∙◌, append_assoc, append-nil, arith}
use Rattle.jp_query.specs.Reading.Scalars.{Read, Item, ◌>>=◌, many, all_of, with_front}
use Rattle.jp_query.proofs.LawTools.{some_same}
use Rattle.jp_query.specs.Parsing.{Fails, with_last}
use Rattle.jp_query.specs.declared.parser.failure.Failure.{Failure}
use Rattle.jp_query.specs.declared.parser.failure.Failure.TheVariants as failures

regroup : {A : Type 0} (front : List A) (a : A) (read : Read (List A)) → with_front front (read >>= λ r. Some (a ∷ r.0, r.1)) ≡ with_front (front ++ a ∷ []) read
regroup {A} front a (Some r) = ap (λ (all : List A). Some (all, r.1)) (simp append_assoc)
regroup front a None = refl

-- nothing stands in front of what is read
pub front_empty : {A : Type 0} (read : Read (List A)) → with_front [] read ≡ read
front_empty (Some r) = refl
front_empty None = refl

-- nothing was read so far
pub begun : {A : Type 0} (item : Item A) (x : List ℕ) → with_front [] (many item (length x - 0) x) ≡ all_of item x
begun item x = let n : length x - 0 ≡ length x = omega arith in rw n (front_empty (all_of item x))

-- what fails behind items that were read fails
pub fails_behind : {A : Type 0} (front : List A) (read : Read (List A)) (e : Failure) → Fails e (with_front front read) → Fails e read
fails_behind front None e h = h
fails_behind front (Some r) failures.Memory h = tt
fails_behind front (Some r) (failures.Syntax stop) h = absurd (cc)

-- what was put after the others was read
pub item_added : {A : Type 0} (front all : List A) (y : List ℕ) (one : Option (Read A)) → (one >>= with_last front) ≡ Some (all, y) → (a : A) × (one ≡ Some (Some (a, y))) × (all ≡ front ++ a ∷ [])
item_added front all y None h = absurd (cc)
item_added front all y (Some None) h = absurd (cc)
item_added {A} front all y (Some (Some (a, z))) h =
    let same : (front ++ a ∷ [], z) ≡ (all, y) = some_same _ _ h in
    (a, ap (λ (p : List A × List ℕ). Some (Some (a, p.1))) same, sym (ap (λ (p : List A × List ℕ). p.0) same))

module _ {A : Type 0} (item : Item A) (front : List A) (count i : ℕ) (x : List ℕ) (total : Read (List A)) where
  pub goes_on : (a : A) (y : List ℕ) → i < count → item x ≡ Some (Some (a, y)) → with_front front (many item (count - i) x) ≡ total
      → with_front (front ++ a ∷ []) (many item (count - (i + 1)) y) ≡ total
  unfolding many
  goes_on a y lt h so_far =
      let k : count - i ≡ suc (count - (i + 1)) = omega arith in
      let one : with_front front (many item (count - i) x) ≡ with_front (front ++ a ∷ []) (many item (count - (i + 1)) y) = rw (k, h) (regroup front a (many item (count - (i + 1)) y)) in
      sym one ∙ so_far

  pub adds : (all : List A) (y : List ℕ) → i < count → (item x >>= with_last front) ≡ Some (all, y) → with_front front (many item (count - i) x) ≡ total
      → with_front all (many item (count - (i + 1)) y) ≡ total
  adds all y lt h so_far =
      let one = item_added front all y (item x) h in
      subst (λ (f : List A). with_front f (many item (count - (i + 1)) y) ≡ total) (sym one.2) (goes_on one.0 y lt one.1 so_far)

  pub refused : i < count → item x ≡ None → with_front front (many item (count - i) x) ≡ total → total ≡ None
  unfolding many
  refused lt h so_far =
      let k : count - i ≡ suc (count - (i + 1)) = omega arith in
      let one : with_front front (many item (count - i) x) ≡ None = rw (k, h) refl in
      sym so_far ∙ one

  pub fails : (e : Failure) → i < count → Fails e (item x) → with_front front (many item (count - i) x) ≡ total → Fails e total
  fails failures.Memory lt h so_far = tt
  fails (failures.Syntax stop) lt h so_far = refused lt h so_far

  pub stops : i < count → item x ≡ Some None → with_front front (many item (count - i) x) ≡ total → total ≡ Some (front, x)
  unfolding many
  stops lt h so_far =
      let k : count - i ≡ suc (count - (i + 1)) = omega arith in
      let one : with_front front (many item (count - i) x) ≡ Some (front, x) = rw (k, h) (ap (λ (all : List A). Some (all, x)) (append-nil front)) in
      sym so_far ∙ one

  pub is_done : count ≤ i → with_front front (many item (count - i) x) ≡ total → total ≡ Some (front, x)
  unfolding many
  is_done le so_far =
      let k : count - i ≡ 0 = omega arith in
      let one : with_front front (many item (count - i) x) ≡ Some (front, x) = rw k (ap (λ (all : List A). Some (all, x)) (append-nil front)) in
      sym so_far ∙ one
