-- A command line around its first space.
use Rattle.std.proofs.Common.{◌≡◌, ◌∙◌, ℕ, zero, List, [], ◌∷◌, length, take, drop, sym, ap, refl, arith, true, false, Bool, if◌then◌else◌}
use Rattle.std.specs.Prelude.{◌==◌, suc, Some, None, codes}
use Rattle.std.proofs.lemmas.Bool.{eqb-false}
use Rattle.memchr.specs.Find.{IsFirstByte, is_byte}
use Rattle.jp_model.specs.Characters.{text_equal}
use Rattle.jp_model.specs.Script.Commands.{indexes_line, check_line, first_word, behind_word, command_with, command_of}

not_true : (b : Bool) → (b ≡ true → ⊥) → b ≡ false
not_true true h = absurd (h refl)
not_true false h = refl

-- no space, so no argument
pub no_argument : (line : List ℕ) → IsFirstByte (is_byte 32) line None → behind_word line ≡ None
no_argument [] h = refl
no_argument (c ∷ x) h =
    elim (c == 0x20) as (λ b. (c == 0x20) ≡ b → (if b then Some x else behind_word x) ≡ None) [
      | true ↦ λ e. absurd (h 0 (omega arith) (omega arith) e)
      | false ↦ λ e. no_argument x (λ k l m t. h (suc k) (omega arith) (omega arith) t)
    ] refl

at_space : (c : ℕ) (x : List ℕ) → (c == 0x20) ≡ true → (first_word (c ∷ x) ≡ []) × (behind_word (c ∷ x) ≡ Some x)
at_space c x e = (ap (λ b. if b then [] else c ∷ first_word x) e, ap (λ b. if b then Some x else behind_word x) e)

at_other : (c : ℕ) (x : List ℕ) → (c == 0x20) ≡ false → (first_word (c ∷ x) ≡ c ∷ first_word x) × (behind_word (c ∷ x) ≡ behind_word x)
at_other c x e = (ap (λ b. if b then [] else c ∷ first_word x) e, ap (λ b. if b then Some x else behind_word x) e)

-- the first space parts the word and its argument
pub parted : (line : List ℕ) (at : ℕ) → IsFirstByte (is_byte 32) line (Some at) → (first_word line ≡ take at line) × (behind_word line ≡ Some (drop (suc at) line))
parted [] at h = absurd (let l = h.0.high in omega arith)
parted (c ∷ x) zero h = at_space c x h.1
parted (c ∷ x) (suc at) h =
    let later = parted x at (record { low = omega arith; high = let l = h.0.high in omega arith; before = λ k l m t. h.0.before (suc k) (omega arith) (omega arith) t }, h.1) in
    let no_space : (c == 0x20) ≡ false = not_true (c == 0x20) (h.0.before 0 (omega arith) (omega arith)) in
    let here = at_other c x no_space in
    (here.0 ∙ ap (λ w. c ∷ w) later.0, here.1 ∙ later.1)

pub not_empty : (n : ℕ) (is_empty : Bool) → is_empty ≡ (n == 0) → is_empty ≡ false → n ≡ 0 → ⊥
not_empty n is_empty test no_test none = eqb-false n 0 (sym test ∙ no_test) none

-- a line that is none of the two words without an argument
pub asks_by_word : (line : List ℕ) → (length line ≡ 0 → ⊥) → text_equal line (codes "indexes") ≡ false → text_equal line (codes "check") ≡ false → command_of line ≡ command_with (first_word line) (behind_word line)
asks_by_word [] some i k = absurd (some refl)
asks_by_word (c ∷ x) some i k =
    let other = command_with (first_word (c ∷ x)) (behind_word (c ∷ x)) in
    ap (λ b. if b then indexes_line else if text_equal (c ∷ x) (codes "check") then check_line else other) i ∙ ap (λ b. if b then check_line else other) k
