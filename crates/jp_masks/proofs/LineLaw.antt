-- Within one line, what a scan knows is what the definition of its marks says.
use Rattle.std.proofs.Common.{◌≡◌, ℕ, zero, suc, ◌%◌, ◌<◌, ◌==◌, Bool, true, false, not, ◌&&◌, ◌||◌, cond, List, Option, get_or, refl, sym, ap, ap₂, ◌∙◌, arith, mod-lt, zero-lt-suc}
use Rattle.jp_model.specs.Characters.{is_white, is_structural, is_backslash, is_quote}
use Rattle.jp_model.specs.Json.Marks.{backslashes_before, is_escaped, is_unescaped_quote, quotes_before, is_inside, may_begin, is_mark}
use Rattle.jp_model.specs.declared.Framing.{Framing}
use Rattle.jp_masks.specs.Ends.{is_end}
use Rattle.jp_masks.specs.Machine.{xor, start, opens, is_marked, before}

odd-suc : (n : ℕ) → (suc n % 2 == 1) ≡ not (n % 2 == 1)
odd-suc n = go (n % 2) (mod-lt n (zero-lt-suc 1)) refl
  where
    go : (r : ℕ) → r < 2 → n % 2 ≡ r → (suc n % 2 == 1) ≡ not (n % 2 == 1)
    go zero small e = let next : suc n % 2 ≡ 1 = omega arith in ap (λ x. x == 1) next ∙ sym (ap (λ x. not (x == 1)) e)
    go (suc zero) small e = let next : suc n % 2 ≡ 0 = omega arith in ap (λ x. x == 1) next ∙ sym (ap (λ x. not (x == 1)) e)
    go (suc (suc r)) small e = let none : ⊥ = omega arith in absurd none

-- a run goes on or ends
run_next : (b : Bool) (n : ℕ) → (cond b (suc n) 0 % 2 == 1) ≡ (b && not (n % 2 == 1))
run_next true n = odd-suc n
run_next false n = refl

-- one more, or as many
count_next : (b : Bool) (n : ℕ) → (cond b (suc n) n % 2 == 1) ≡ xor (n % 2 == 1) b
count_next true n = odd-suc n ∙ flip (n % 2 == 1)
  where
    flip : (x : Bool) → not x ≡ xor x true
    flip true = refl
    flip false = refl
count_next false n = same (n % 2 == 1)
  where
    same : (x : Bool) → x ≡ xor x false
    same true = refl
    same false = refl

or-false : (a : Bool) → (a || false) ≡ a
or-false true = refl
or-false false = refl

-- no byte before byte i ends a line
abbrev pub NoEnd : Option Framing → List ℕ → ℕ → Type 0
NoEnd framing line n = (i : ℕ) → i < n → is_end framing (get_or line i 0) ≡ false

module _ (framing : Option Framing) (line : List ℕ) where
  pub escaped_law : (i : ℕ) → (before framing start line i).escaped ≡ is_escaped line i
  unfolding before backslashes_before
  escaped_law zero = refl
  escaped_law (suc i) =
      ap (λ x. is_backslash (get_or line i 0) && not x) (escaped_law i) ∙ sym (run_next (is_backslash (get_or line i 0)) (backslashes_before line i))

  pub opens_law : (i : ℕ) → opens (before framing start line i) (get_or line i 0) ≡ is_unescaped_quote line i
  opens_law i = ap (λ x. is_quote (get_or line i 0) && not x) (escaped_law i)

  pub inside_law : (i : ℕ) → NoEnd framing line i → (before framing start line i).inside ≡ is_inside line i
  unfolding before quotes_before
  inside_law zero none = refl
  inside_law (suc i) none =
      ap₂ (λ x y. not x && y) (none i (omega arith)) (ap₂ xor (inside_law i (λ j below. none j (omega arith))) (opens_law i))
      ∙ sym (count_next (is_unescaped_quote line i) (quotes_before line i))

  pub may_begin_law : (i : ℕ) → NoEnd framing line i → (before framing start line i).may_begin ≡ may_begin line i
  unfolding before may_begin
  may_begin_law zero none = refl
  may_begin_law (suc i) none =
      ap₂ (λ x y. is_white (get_or line i 0) || is_structural (get_or line i 0) || x || y) (opens_law i) (none i (omega arith))
      ∙ or-false (is_white (get_or line i 0) || is_structural (get_or line i 0) || is_unescaped_quote line i)

  pub mark_law : (i : ℕ) → NoEnd framing line i → is_marked (before framing start line i) (get_or line i 0) ≡ is_mark line i
  mark_law i none =
      let marked : Bool → Bool → Bool → Bool = λ opened inside begins. opened
      || (not inside && (is_structural (get_or line i 0) || (begins && not (is_white (get_or line i 0) || is_quote (get_or line i 0))))) in
      λ t. marked (opens_law i t) (inside_law i none t) (may_begin_law i none t)
