-- Rows that are joined in order ascend.
use Rattle.std.proofs.Common.{◌≡◌, ◌∙◌, ℕ, List, [], ◌∷◌, ◌+◌, ap, refl, sym, subst, arith, Bool, true, false, if◌then◌else◌}
use Rattle.std.specs.Prelude.{◌&&◌, not}
use Rattle.std.specs.Str.{bytes_eq}
use Rattle.std.specs.Cmp.Lexicographic.{same_text, slice_cmp}
use Rattle.std.specs.Ordering.{is_eq, is_lt, nat_cmp, ordering_reverse}
use Rattle.std.specs.declared.cmp.Ordering.{Ordering}
use Rattle.std.specs.declared.cmp.Ordering.TheVariants.{Less, Equal, Greater}
use Rattle.std.proofs.lemmas.Cmp.{nat_list_cmp_total}
use Rattle.std.proofs.lemmas.Map.Text.{is_eq-slice_cmp}
use Rattle.jp_tally.specs.Counting.{ascends, is_below, joined, lead}
use Rattle.jp_tally.specs.Tallies.{Entry}
use Rattle.jp_tally.proofs.Joining.{entry}

abbrev pub order : List ℕ → List ℕ → Ordering
order = slice_cmp nat_cmp

pub both : (a b : Bool) → (a && b) ≡ true → (a ≡ true) × (b ≡ true)
both true b h = (refl, h)
both false b h = absurd (grind arith)

pub and_true : (a b : Bool) → a ≡ true → b ≡ true → (a && b) ≡ true
and_true a b h g = ap (λ t. t && b) h ∙ g

-- the rows of entries do not fall
abbrev pub is_not_above : List ℕ → List Entry → Bool
is_not_above row [] = true
is_not_above row (next ∷ more) = not (is_lt (order next.row row))

abbrev pub rises : List Entry → Bool
rises [] = true
rises (e ∷ more) = is_not_above e.row more && rises more

below_by : (o : Ordering) → not (is_lt (ordering_reverse o)) ≡ true → is_eq o ≡ false → is_lt o ≡ true
below_by Less h g = refl
below_by Equal h g = absurd (grind arith)
below_by Greater h g = absurd (grind arith)

equal_back : (o : Ordering) → is_eq (ordering_reverse o) ≡ is_eq o
equal_back Less = refl
equal_back Equal = refl
equal_back Greater = refl

-- a row that is not below another and not the same is above it
above : (row other : List ℕ) → not (is_lt (order other row)) ≡ true → bytes_eq other row ≡ false → is_lt (order row other) ≡ true
above row other h other_row =
    let back = nat_list_cmp_total.antisymm other row in
    below_by (order row other) (ap (λ o. not (is_lt o)) (sym back) ∙ h)
    (sym (equal_back (order row other)) ∙ (ap is_eq (sym back) ∙ (is_eq-slice_cmp other row ∙ other_row)))

-- an entry in front of others that ascend, of which the first is not below it
lead_ascends : (e : Entry) (more : List Entry) → is_not_above e.row more ≡ true → ascends more ≡ true → ascends (lead e more) ≡ true
lead_ascends e [] h up = refl
lead_ascends e (next ∷ more) h up =
    elim (bytes_eq next.row e.row) as (λ t. bytes_eq next.row e.row ≡ t → ascends (if t then entry e.row (e.count + next.count) ∷ more else e ∷ next ∷ more) ≡ true) [
      | true ↦ λ same. subst (λ row. (is_below row more && ascends more) ≡ true) (same_text next.row e.row (sym same)) up
      | false ↦ λ other. and_true (is_lt (order e.row next.row)) (ascends (next ∷ more)) (above e.row next.row h other) up
    ] refl

-- what stands in front of others has the row of the first, however they are joined
lead_first : (row : List ℕ) (next : Entry) (more : List Entry) → is_not_above row (lead next more) ≡ not (is_lt (order next.row row))
lead_first row next [] = refl
lead_first row next (third ∷ more) =
    elim (bytes_eq third.row next.row) as (λ t. is_not_above row (if t then entry next.row (next.count + third.count) ∷ more else next ∷ third ∷ more) ≡ not (is_lt (order next.row row))) [
      | true ↦ refl
      | false ↦ refl
    ]

joined_first : (row : List ℕ) (more : List Entry) → is_not_above row (joined more) ≡ is_not_above row more
joined_first row [] = refl
joined_first row (next ∷ more) = lead_first row next (joined more)

-- rows that do not fall ascend once they are joined
pub joined_ascends : (entries : List Entry) → rises entries ≡ true → ascends (joined entries) ≡ true
joined_ascends [] h = refl
joined_ascends (e ∷ more) h =
    let parts = both (is_not_above e.row more) (rises more) h in
    lead_ascends e (joined more) (joined_first e.row more ∙ parts.0) (joined_ascends more parts.1)
