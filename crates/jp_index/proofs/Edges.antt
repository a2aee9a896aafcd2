-- The keys that compare so with a key are those between two positions in the order of keys.
use Rattle.std.proofs.Common.{◌≡◌, ◌∙◌, ℕ, ◌<◌, ◌≤◌, ◌==◌, Bool, true, false, not, ◌&&◌, ◌||◌, nat_lt, nat_le, Option, Some, None, refl, sym, ap, ap₂, arith, ◌⊎◌, inl, inr, Ordering, Less, Equal, Greater}
use Rattle.std.specs.Cmp.Lexicographic.{slice_cmp}
use Rattle.std.specs.Option.{option_cmp}
use Rattle.std.specs.Ordering.{is_lt, is_le, is_gt, is_eq, nat_cmp, ordering_then, ordering_reverse}
use Rattle.std.proofs.lemmas.Bool.Decides.{nat_tests}
use Rattle.std.proofs.lemmas.Cmp.{ranked, by_ranked, upto}
use Rattle.std.proofs.lemmas.Map.Keys.{le_from_not_gt}
use Rattle.jp_model.specs.Json.Tree.{Value, null, boolean, number, string, container}
use Rattle.jp_model.specs.Meaning.Compare.{compared, value_less, values_equal}
use Rattle.jp_model.specs.Query.Syntax.{CompareOp, equal, not_equal, less, less_equal, greater, greater_equal}
use Rattle.jp_values.specs.Keys.{IsKeyOf, key_order, key_rank, value_order, rank}
use Rattle.jp_values.specs.declared.key.Key.{Key}
use Rattle.jp_values.specs.declared.key.Key.TheVariants as keys
use Rattle.jp_values.proofs.KeyOrder.{keys_in_order, values_tie}
use Rattle.jp_values.proofs.Leaves.{text_less_is}
use Rattle.jp_index.specs.Edges.{key_in_front, in_front, is_between}
use Rattle.jp_index.specs.ByKey.{line_order}
use Rattle.jp_index.specs.declared.edge.Edge.{Edge}
use Rattle.jp_index.specs.declared.edge.Edge.TheVariants.{BeforeKey, BehindKey, BeforeKind, BehindKind}
use Rattle.jp_values.specs.KeyLaws.{keys_total, parts_are}

-- ---- values of one kind

less_is : (x y : Value) → value_less x y ≡ ((rank x == rank y) && is_lt (value_order x y))
less_is null null = refl
less_is null (boolean false) = refl
less_is null (boolean true) = refl
less_is null (number n f) = refl
less_is null (string t) = refl
less_is null (container d ys) = refl
less_is (boolean false) null = refl
less_is (boolean false) (boolean false) = refl
less_is (boolean false) (boolean true) = refl
less_is (boolean false) (number n f) = refl
less_is (boolean false) (string t) = refl
less_is (boolean false) (container d ys) = refl
less_is (boolean true) null = refl
less_is (boolean true) (boolean false) = refl
less_is (boolean true) (boolean true) = refl
less_is (boolean true) (number n f) = refl
less_is (boolean true) (string t) = refl
less_is (boolean true) (container d ys) = refl
less_is (number m e) null = refl
less_is (number m e) (boolean false) = refl
less_is (number m e) (boolean true) = refl
less_is (number m e) (number n f) = refl
less_is (number m e) (string t) = refl
less_is (number m e) (container d ys) = refl
less_is (string s) null = refl
less_is (string s) (boolean false) = refl
less_is (string s) (boolean true) = refl
less_is (string s) (number n f) = refl
less_is (string s) (string t) = sym (text_less_is s t (slice_cmp nat_cmp s t) refl)
less_is (string s) (container d ys) = refl
less_is (container c xs) null = refl
less_is (container c xs) (boolean false) = refl
less_is (container c xs) (boolean true) = refl
less_is (container c xs) (number n f) = refl
less_is (container c xs) (string t) = refl
less_is (container c xs) (container d ys) = refl

rank_is : (k : Key) (x : Value) → IsKeyOf k x → rank x ≡ key_rank k
rank_is keys.Null x h = ap rank h
rank_is keys.False x h = ap rank h
rank_is keys.True x h = ap rank h
rank_is (keys.Number k) x h = ap rank h.1
rank_is (keys.Text s) x h = ap rank h

-- ---- keys by their kinds

not_greater : (o p : Ordering) → is_gt (ordering_then o p) ≡ false → is_gt o ≡ false
not_greater Less p e = refl
not_greater Equal p e = refl
not_greater Greater p e = e

pub ranks_rise : (k l : Key) → is_gt (key_order k l) ≡ false → key_rank k ≤ key_rank l
ranks_rise k l e = le_from_not_gt (key_rank k) (key_rank l) (not_greater (nat_cmp (key_rank k) (key_rank l)) _ (ap is_gt (parts_are k l) ∙ e))

-- keys of other kinds are in the order of the kinds
abbrev Kinds : ℕ → ℕ → Ordering → Type 0
Kinds a b o = (a ≡ b) ⊎ ((a < b) × (o ≡ Less)) ⊎ ((b < a) × (o ≡ Greater))

by_then : (a b : ℕ) (o p : Ordering) → o ≡ ordering_then (nat_cmp a b) p → Kinds a b o
by_then a b o p e =
    by_ranked (a < b) (a ≡ b) (b < a) (nat_cmp a b) (ranked a b (nat_cmp a b) refl)
    (λ f h. inr (inl (h, e ∙ ap (λ q. ordering_then q p) f)))
    (λ f h. inl h)
    (λ f h. inr (inr (h, e ∙ ap (λ q. ordering_then q p) f)))

kinds : (k l : Key) → Kinds (key_rank k) (key_rank l) (key_order k l)
kinds k l = by_then (key_rank k) (key_rank l) (key_order k l) _ (sym (parts_are k l))

kept : (b : Bool) → (b ≡ true) ⊎ (b ≡ false)
kept true = inl refl
kept false = inr refl

-- ---- what is between

between_equal : (o : Ordering) → (not (is_lt o) && is_le o) ≡ is_eq o
between_equal Less = refl
between_equal Equal = refl
between_equal Greater = refl

between_less : (a b : ℕ) (o : Ordering) → Kinds a b o → (not (nat_lt a b) && is_lt o) ≡ ((a == b) && is_lt o)
between_less a b o (inl e) = grind (arith, nat_tests)
between_less a b o (inr (inl h)) = grind (arith, nat_tests)
between_less a b o (inr (inr h)) = grind (arith, nat_tests)

between_less_equal : (a b : ℕ) (o : Ordering) → Kinds a b o → (not (nat_lt a b) && is_le o) ≡ (((a == b) && is_lt o) || is_eq o)
between_less_equal a b Less (inl e) = grind (arith, nat_tests)
between_less_equal a b Equal (inl e) = grind (arith, nat_tests)
between_less_equal a b Greater (inl e) = grind (arith, nat_tests)
between_less_equal a b o (inr (inl h)) = grind (arith, nat_tests)
between_less_equal a b o (inr (inr h)) = grind (arith, nat_tests)

between_greater : (a b : ℕ) (o : Ordering) → Kinds a b o → (not (is_le o) && nat_le a b) ≡ ((b == a) && is_lt (ordering_reverse o))
between_greater a b Less (inl e) = grind (arith, nat_tests)
between_greater a b Equal (inl e) = grind (arith, nat_tests)
between_greater a b Greater (inl e) = grind (arith, nat_tests)
between_greater a b o (inr (inl h)) = grind (arith, nat_tests)
between_greater a b o (inr (inr h)) = grind (arith, nat_tests)

between_greater_equal : (a b : ℕ) (o : Ordering) → Kinds a b o → (not (is_lt o) && nat_le a b) ≡ (((b == a) && is_lt (ordering_reverse o)) || is_eq o)
between_greater_equal a b Less (inl e) = grind (arith, nat_tests)
between_greater_equal a b Equal (inl e) = grind (arith, nat_tests)
between_greater_equal a b Greater (inl e) = grind (arith, nat_tests)
between_greater_equal a b o (inr (inl h)) = grind (arith, nat_tests)
between_greater_equal a b o (inr (inr h)) = grind (arith, nat_tests)

-- in the words of values
module _ (k l : Key) (x y : Value) (f : IsKeyOf k x) (g : IsKeyOf l y) where
  ties : is_eq (key_order k l) ≡ values_equal x y
  ties = ap is_eq (keys_in_order k l x y f g) ∙ values_tie k l x y f g

  below : ((key_rank k == key_rank l) && is_lt (key_order k l)) ≡ value_less x y
  below =
      ap₂ (λ (a b : ℕ). (a == b) && is_lt (key_order k l)) (sym (rank_is k x f)) (sym (rank_is l y g))
      ∙ (ap (λ o. (rank x == rank y) && is_lt o) (keys_in_order k l x y f g) ∙ sym (less_is x y))

  above : ((key_rank l == key_rank k) && is_lt (ordering_reverse (key_order k l))) ≡ value_less y x
  above =
      ap₂ (λ (a b : ℕ). (a == b) && is_lt (ordering_reverse (key_order k l))) (sym (rank_is l y g)) (sym (rank_is k x f))
      ∙ (ap (λ o. (rank y == rank x) && is_lt o) (sym (keys_total.antisymm l k) ∙ keys_in_order l k y x g f) ∙ sym (less_is y x))

  pub between_is : (op : CompareOp) → (op ≡ not_equal → ⊥) → is_between op (Some k) l ≡ compared op (Some x) (Some y)
  between_is equal n = between_equal (key_order k l) ∙ ties
  between_is not_equal n = absurd (n refl)
  between_is less n = between_less (key_rank k) (key_rank l) (key_order k l) (kinds k l) ∙ below
  between_is less_equal n = between_less_equal (key_rank k) (key_rank l) (key_order k l) (kinds k l) ∙ ap₂ (λ (a b : Bool). a || b) below ties
  between_is greater n = between_greater (key_rank k) (key_rank l) (key_order k l) (kinds k l) ∙ above
  between_is greater_equal n = between_greater_equal (key_rank k) (key_rank l) (key_order k l) (kinds k l) ∙ ap₂ (λ (a b : Bool). a || b) above ties

-- ---- what stands before a key in front of an edge stands in front of it

le_is : (o : Ordering) → is_le o ≡ not (is_gt o)
le_is Less = refl
le_is Equal = refl
le_is Greater = refl

back : (o : Ordering) → is_gt (ordering_reverse o) ≡ is_lt o
back Less = refl
back Equal = refl
back Greater = refl

not_false : (b : Bool) → not b ≡ true → b ≡ false
not_false true e = sym e
not_false false e = refl

-- a ≤ b < c
less_through : (k l m : Key) → is_gt (key_order k l) ≡ false → is_lt (key_order l m) ≡ true → is_lt (key_order k m) ≡ true
less_through k l m e f =
    elim (kept (is_lt (key_order k m))) [
      | inl holds ↦ holds
      | inr fails ↦
          let back_m : is_gt (key_order m k) ≡ false = ap is_gt (keys_total.antisymm m k) ∙ (back (key_order k m) ∙ fails) in
          let there : is_gt (key_order m l) ≡ false = upto keys_total m k l back_m e in
          let over : is_gt (key_order m l) ≡ true = ap is_gt (keys_total.antisymm m l) ∙ (back (key_order l m) ∙ f) in
          absurd (cc)
    ]

up_to_through : (k l m : Key) → is_gt (key_order k l) ≡ false → is_le (key_order l m) ≡ true → is_le (key_order k m) ≡ true
up_to_through k l m e f =
    le_is (key_order k m) ∙ ap not (upto keys_total k l m e (not_false (is_gt (key_order l m)) (sym (le_is (key_order l m)) ∙ f)))

key_falls : (edge : Edge) (k l m : Key) → is_gt (key_order k l) ≡ false → key_in_front edge l m ≡ true → key_in_front edge k m ≡ true
key_falls BeforeKey k l m e f = less_through k l m e f
key_falls BehindKey k l m e f = up_to_through k l m e f
key_falls BeforeKind k l m e f = let h = ranks_rise k l e in grind (arith, nat_tests)
key_falls BehindKind k l m e f = let h = ranks_rise k l e in grind (arith, nat_tests)

falls : (edge : Edge) (k l : Option Key) (m : Key) → is_gt (option_cmp key_order k l) ≡ false → in_front edge l m ≡ true → in_front edge k m ≡ true
falls edge None l m e f = refl
falls edge (Some k) None m e f = absurd (cc)
falls edge (Some k) (Some l) m e f = key_falls edge k l m e f

no_greater : (o p : Ordering) → ordering_then o p ≡ Less → is_gt o ≡ false
no_greater Less p e = refl
no_greater Equal p e = refl
no_greater Greater p e = absurd (cc)

pub front_falls : (lines : ℕ → Option Key) (edge : Edge) (m : Key) (a b : ℕ) → line_order lines a b ≡ Less → in_front edge (lines b) m ≡ true → in_front edge (lines a) m ≡ true
front_falls lines edge m a b e f = falls edge (lines a) (lines b) m (no_greater (option_cmp key_order (lines a) (lines b)) (nat_cmp a b) e) f
