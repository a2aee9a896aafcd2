-- The value of digits, kept near the exact integers.
use Rattle.std.proofs.Common.{◌≡◌, ℕ, ◌+◌, ◌-◌, ◌*◌, ◌<◌, ◌≤◌, List, [], ◌∷◌, length, drop, get_or, cond, nat_lt, sym, ap, ◌∙◌, arith}
use Rattle.std.proofs.lemmas.Bool.{cond-false, le-ltb}
use Rattle.std.proofs.lemmas.List.{drop_more}
use Rattle.jp_model.specs.Characters.{value_behind}

-- a number, or the limit where it is no less
abbrev pub capped : ℕ → ℕ
capped n = cond (nat_lt n 9007199254740992) n 9007199254740992

value_grows : (ds : List ℕ) (n : ℕ) → n ≤ value_behind n ds
value_grows [] n = omega arith
value_grows (d ∷ ds) n = let h = value_grows ds (n * 10 + (d - 0x30)) in omega arith

capped_at : (n : ℕ) → 9007199254740992 ≤ n → capped n ≡ 9007199254740992
capped_at n h = cond-false (nat_lt n 9007199254740992) n 9007199254740992 (le-ltb n 9007199254740992 h)

module _ (digits : List ℕ) (i v item total : ℕ) (lt : i < length digits) (is : item ≡ get_or digits i item) (so_far : capped (value_behind v (drop i digits)) ≡ total) where
  one_more : value_behind v (drop i digits) ≡ value_behind (v * 10 + (item - 0x30)) (drop (i + 1) digits)
  one_more =
      let d : drop i digits ≡ get_or digits i item ∷ drop (i + 1) digits = drop_more digits i item lt in
      ap (λ (ds : List ℕ). value_behind v ds) (d ∙ ap (λ (c : ℕ). c ∷ drop (i + 1) digits) (sym is))

  pub below : v * 10 + (item - 0x30) < 9007199254740992 → (capped (value_behind (v * 10 + (item - 0x30)) (drop (i + 1) digits)) ≡ total) × (v * 10 + (item - 0x30) ≤ 9007199254740992)
  below h = (ap capped (sym one_more) ∙ so_far, omega arith)

  pub above : 9007199254740992 ≤ v * 10 + (item - 0x30) → (capped (value_behind 9007199254740992 (drop (i + 1) digits)) ≡ total) × (9007199254740992 ≤ 9007199254740992)
  above h =
      let a = value_grows (drop (i + 1) digits) (v * 10 + (item - 0x30)) in
      let e : capped (value_behind (v * 10 + (item - 0x30)) (drop (i + 1) digits)) ≡ 9007199254740992 = capped_at (value_behind (v * 10 + (item - 0x30)) (drop (i + 1) digits)) (omega arith) in
      let f : capped (value_behind 9007199254740992 (drop (i + 1) digits)) ≡ 9007199254740992 = capped_at (value_behind 9007199254740992 (drop (i + 1) digits)) (value_grows (drop (i + 1) digits) 9007199254740992) in
      (f ∙ (sym e ∙ (ap capped (sym one_more) ∙ so_far)), omega arith)
