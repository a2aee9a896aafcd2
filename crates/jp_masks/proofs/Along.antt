-- The marks of a line that grows by a block, or by a part of one.
use Rattle.std.proofs.Common.{◌≡◌, ℕ, zero, suc, ◌+◌, ◌-◌, ◌<◌, ◌≤◌, Bool, true, false, cond, List, [], ◌∷◌, ◌++◌, length, take, drop, get_or, map, refl, sym, ap, ap₂, ◌∙◌, arith, append_assoc, zero-add, Option, None}
use Rattle.std.specs.List.{filter, range_with_len}
use Rattle.std.proofs.lemmas.List.{length-append, append-nil, length-take-le, take-append-drop, map-append}
use Rattle.std.proofs.lemmas.List.Elements.{filter-append}
use Rattle.std.proofs.Math.Seq.{take-suc}
use Rattle.jp_model.specs.declared.Framing.{Framing}
use Rattle.jp_model.specs.Json.Marks.{marks}
use Rattle.jp_lanes.specs.Word.{bit}
use Rattle.jp_masks.specs.Positions.{set_bits}
use Rattle.jp_masks.specs.Machine.{start, is_marked, before}
use Rattle.jp_masks.proofs.LineMore.{known_after, before-part, before-append, marks-push, range-push}

-- past a position none passes
pub filter_upto : (p : ℕ → Bool) (n k : ℕ) → ((i : ℕ) → n ≤ i → i < n + k → p i ≡ false) → filter p (range_with_len 0 (n + k)) ≡ filter p (range_with_len 0 n)
filter_upto p n zero none = ap (λ m. filter p (range_with_len 0 m)) (omega arith)
filter_upto p n (suc k) none =
    let next : n + suc k ≡ suc (n + k) = omega arith in
    let here : p (0 + (n + k)) ≡ false = none (0 + (n + k)) (omega arith) (omega arith) in
    ap (λ m. filter p (range_with_len 0 m)) next ∙ ap (filter p) (range-push 0 (n + k)) ∙ filter-append p (range_with_len 0 (n + k)) ((0 + (n + k)) ∷ [])
    ∙ ap₂ (λ x y. x ++ y) (filter_upto p n k (λ i low high. none i low (omega arith))) (ap (λ b. cond b ((0 + (n + k)) ∷ []) []) here) ∙ append-nil (filter p (range_with_len 0 n))

-- a word that has no bit from a position on
pub set_bits_upto : (word n : ℕ) → n ≤ 64 → ((i : ℕ) → n ≤ i → i < 64 → bit word i ≡ false) → set_bits word ≡ filter (bit word) (range_with_len 0 n)
unfolding set_bits
set_bits_upto word n within none =
    let rest = 64 - n in
    let all : 64 ≡ n + (64 - n) = omega arith in
    ap (λ m. filter (bit word) (range_with_len 0 m)) all ∙ filter_upto (bit word) n (64 - n) (λ i low high. none i low (omega arith))

module _ (framing : Option Framing) (text block : List ℕ) (long : length block ≡ 64) where
  abbrev pub done : ℕ → List ℕ
  done i = text ++ take i block

  pub length-done : (i : ℕ) → i ≤ 64 → length (done i) ≡ length text + i
  length-done i within = length-append text (take i block) ∙ ap (λ n. length text + n) (length-take-le i block (omega arith))

  pub known_done : (i : ℕ) → i ≤ 64 → known_after framing (done i) ≡ before framing (known_after framing text) block i
  known_done i within =
      let short : length (take i block) ≡ i = length-take-le i block (omega arith) in
      ap (before framing start (done i)) (length-append text (take i block)) ∙ before-part framing start text (take i block) (length (take i block))
      ∙ ap (before framing (known_after framing text) (take i block)) short
      ∙ sym (before-append framing (known_after framing text) (take i block) (drop i block) i (omega arith))
      ∙ ap (λ l. before framing (known_after framing text) l i) (take-append-drop i block)

  pub done-next : (i : ℕ) → i < 64 → done (suc i) ≡ done i ++ get_or block i 0 ∷ []
  done-next i within = ap (λ l. text ++ l) (take-suc block i 0 (omega arith)) ∙ sym (append_assoc text (take i block) (get_or block i 0 ∷ []))

module _ (text block : List ℕ) (word n : ℕ) (long : length block ≡ 64) (within : n ≤ 64)
    (says : (i : ℕ) → i < n → bit word i ≡ is_marked (before None (known_after None text) block i) (get_or block i 0)) where
  abbrev marked : ℕ → ℕ
  marked i = length text + i

  along : (i : ℕ) → i ≤ n → marks (text ++ take i block) ≡ marks text ++ map marked (filter (bit word) (range_with_len 0 i))
  along zero short = ap marks (append-nil text) ∙ sym (append-nil (marks text))
  along (suc i) short =
      ap marks (done-next None text block long i (omega arith)) ∙ marks-push None (text ++ take i block) (get_or block i 0) (λ j below. refl)
      ∙ ap₂ (λ x y. x ++ y) (along i (omega arith)) (one (bit word i) refl)
      ∙ append_assoc (marks text) (map marked (filter (bit word) (range_with_len 0 i))) (map marked (cond (bit word i) (i ∷ []) []))
      ∙ ap (λ l. marks text ++ l) (sym (map-append marked (filter (bit word) (range_with_len 0 i)) (cond (bit word i) (i ∷ []) [])))
      ∙ ap (λ l. marks text ++ map marked l) (sym (ap (filter (bit word)) (range-push 0 i ∙ ap (λ j. range_with_len 0 i ++ j ∷ []) (zero-add i)) ∙ filter-append (bit word) (range_with_len 0 i) (i ∷ [])))
    where
      one : (b : Bool) → bit word i ≡ b → cond (is_marked (known_after None (text ++ take i block)) (get_or block i 0)) (length (text ++ take i block) ∷ []) [] ≡ map marked (cond (bit word i) (i ∷ []) [])
      one b e =
          ap (λ v. cond v (length (text ++ take i block) ∷ []) []) (ap (λ k. is_marked k (get_or block i 0)) (known_done None text block long i (omega arith)) ∙ sym (says i (omega arith)))
          ∙ ap (λ m. cond (bit word i) (m ∷ []) []) (length-done None text block long i (omega arith))
          ∙ shown (bit word i)
        where
          shown : (v : Bool) → cond v (marked i ∷ []) [] ≡ map marked (cond v (i ∷ []) [])
          shown true = refl
          shown false = refl

  pub marks_grow : ((i : ℕ) → n ≤ i → i < 64 → bit word i ≡ false) → marks (text ++ take n block) ≡ marks text ++ map (λ i. length text + i) (set_bits word)
  marks_grow none = along n (omega arith) ∙ ap (λ l. marks text ++ map marked l) (sym (set_bits_upto word n within none))
