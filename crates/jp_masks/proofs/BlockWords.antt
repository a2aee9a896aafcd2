-- The words of one block against what is known before each of its bytes.
use Rattle.std.proofs.Common.{◌≡◌, ℕ, zero, suc, ◌+◌, ◌<◌, ◌≤◌, ◌^◌, Bool, true, false, not, ◌&&◌, List, Option, get_or, refl, ap, ap₂, ◌∙◌, arith, add-one}
use lib.Bits.{bit_and, bit_or}
use Rattle.jp_model.specs.Characters.{is_white, is_structural, is_backslash, is_quote}
use Rattle.jp_lanes.specs.Word.{bit, Says}
use Rattle.jp_masks.specs.Machine.{xor, opens, is_marked, before}
use Rattle.jp_masks.specs.Runs.{parity, restarted, carried, escaped_at}
use Rattle.jp_masks.specs.declared.block.Carry.{Carry}
use Rattle.jp_masks.proofs.Bits.{flipped, says_and, says_not}
use Rattle.jp_lanes.proofs.Cases.{of_three}
use Rattle.jp_lanes.proofs.Words.{says_or}
use Rattle.jp_model.specs.declared.Framing.{Framing}
use Rattle.jp_masks.specs.Ends.{is_end}

xor-comm : (a b : Bool) → xor a b ≡ xor b a
xor-comm true true = refl
xor-comm true false = refl
xor-comm false true = refl
xor-comm false false = refl

-- the change from one sum to the next, where both have `first` added
xor_step : (sum next first : Bool) → xor (xor sum first) (xor (xor sum next) first) ≡ next
xor_step = of_three (λ sum next first. xor (xor sum first) (xor (xor sum next) first) ≡ next) refl refl refl refl refl refl refl refl

module _ (framing : Option Framing) (bytes : List ℕ) (first : Carry) where
  abbrev byte : ℕ → ℕ
  byte i = get_or bytes i 0

  abbrev known : ℕ → Carry
  known i = before framing first bytes i

  pub escaped_along : (backslash : ℕ) → Says backslash (λ i. is_backslash (byte i)) → (i : ℕ) → i ≤ 64 → escaped_at backslash first.escaped i ≡ (known i).escaped
  unfolding escaped_at before
  escaped_along backslash says zero within = refl
  escaped_along backslash says (suc i) within = ap₂ (λ x y. x && not y) (says i within) (escaped_along backslash says i (omega arith))

  module _ (backslash quote structural white ends escaped : ℕ) (small : escaped < 2 ^ 64)
      (at_backslash : Says backslash (λ i. is_backslash (byte i))) (at_quote : Says quote (λ i. is_quote (byte i)))
      (at_structural : Says structural (λ i. is_structural (byte i))) (at_white : Says white (λ i. is_white (byte i)))
      (at_ends : Says ends (λ i. is_end framing (byte i))) (at_escaped : Says escaped (escaped_at backslash first.escaped)) where
    abbrev quotes : ℕ
    quotes = bit_and quote (flipped escaped)

    known_escaped : Says escaped (λ i. (known i).escaped)
    known_escaped i within = at_escaped i within ∙ escaped_along backslash at_backslash i (omega arith)

    at_quotes : Says quotes (λ i. opens (known i) (byte i))
    at_quotes = says_and quote (flipped escaped) _ _ at_quote (says_not escaped _ small known_escaped)

    pub escaped_next : Says (bit_and backslash (flipped escaped)) (λ i. (known (suc i)).escaped)
    unfolding before
    escaped_next = says_and backslash (flipped escaped) _ _ at_backslash (says_not escaped _ small known_escaped)

    abbrev breaks : ℕ
    breaks = bit_or (bit_or (bit_or white structural) quotes) ends

    pub begin_next : Says breaks (λ i. (known (suc i)).may_begin)
    unfolding before
    begin_next = says_or (bit_or (bit_or white structural) quotes) ends _ _ (says_or (bit_or white structural) quotes _ _ (says_or white structural _ _ at_white at_structural) at_quotes) at_ends

    module _ (strings inside_after : ℕ) (at_strings : Says strings (λ i. xor (parity quotes (i + 1)) first.inside)) (at_inside_after : Says inside_after (restarted strings ends)) where
      abbrev sum : ℕ → Bool
      sum = parity quotes

      at_sum : (i : ℕ) → i < 64 → bit strings i ≡ xor (sum (suc i)) first.inside
      at_sum i within = at_strings i within ∙ ap (λ n. xor (sum n) first.inside) (add-one i)

      restarted_along : (i : ℕ) → i < 64 → restarted strings ends i ≡ (known (suc i)).inside
      unfolding restarted before parity
      restarted_along zero within =
          ap₂ (λ x y. not x && y) (at_ends 0 within) (at_sum 0 within ∙ ap (λ x. xor x first.inside) (at_quotes 0 within) ∙ xor-comm (opens first (byte 0)) first.inside)
      restarted_along (suc i) within =
          ap₂ (λ x y. not x && y) (at_ends (suc i) within)
          (ap₂ xor (restarted_along i (omega arith)) (ap₂ xor (at_sum i (omega arith)) (at_sum (suc i) within) ∙ xor_step (sum (suc i)) (bit quotes (suc i)) first.inside ∙ at_quotes (suc i) within))

      pub inside_next : Says inside_after (λ i. (known (suc i)).inside)
      inside_next i within = at_inside_after i within ∙ restarted_along i within

      module _ (inside may_begin : ℕ) (inside_small : inside < 2 ^ 64) (both_small : bit_or white quote < 2 ^ 64)
          (at_inside : Says inside (carried inside_after first.inside)) (at_may_begin : Says may_begin (carried breaks first.may_begin)) where
        known_inside : Says inside (λ i. (known i).inside)
        unfolding before
        known_inside zero within = at_inside 0 within
        known_inside (suc i) within = at_inside (suc i) within ∙ inside_next i (omega arith)

        known_may_begin : Says may_begin (λ i. (known i).may_begin)
        unfolding before
        known_may_begin zero within = at_may_begin 0 within
        known_may_begin (suc i) within = at_may_begin (suc i) within ∙ begin_next i (omega arith)

        pub marks_say : Says (bit_or quotes (bit_and (flipped inside) (bit_or structural (bit_and may_begin (flipped (bit_or white quote)))))) (λ i. is_marked (known i) (byte i))
        marks_say =
            says_or quotes _ _ _ at_quotes
            (says_and (flipped inside) _ _ _ (says_not inside _ inside_small known_inside)
            (says_or structural _ _ _ at_structural
            (says_and may_begin _ _ _ known_may_begin (says_not (bit_or white quote) _ both_small (says_or white quote _ _ at_white at_quote)))))

  -- what is known after byte i, by its three parts
  pub known_next : (i : ℕ) (e s m : Bool) → e ≡ (known (suc i)).escaped → s ≡ (known (suc i)).inside → m ≡ (known (suc i)).may_begin
      → (let next : Carry = record { escaped = e; inside = s; may_begin = m } in next) ≡ known (suc i)
  known_next i e s m p q r = λ t. record { escaped = p t; inside = q t; may_begin = r t }
