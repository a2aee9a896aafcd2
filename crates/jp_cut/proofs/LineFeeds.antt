-- Line feeds are counted: none where none is, by the bits of a word, and part by part.
use Rattle.std.proofs.Common.{◌≡◌, ℕ, suc, ◌+◌, ◌^◌, ◌<◌, ◌≤◌, Bool, true, false, ◌==◌, cond, eqb, List, [], ◌∷◌, ◌++◌, length, take, drop, get_or, refl, sym, ap, ap₂, subst, ◌∙◌, arith}
use Rattle.std.proofs.Math.Seq.{take-add}
use Rattle.std.proofs.lemmas.List.{take-append-drop}
use Rattle.std.proofs.lemmas.List.Recursion.{is_count_by}
use lib.Count.{ones}
use Rattle.jp_lanes.specs.Word.{Says}
use Rattle.jp_cut.specs.Cuts.{line_feeds_in}
use Rattle.jp_cut.specs.Machine.{behind, nothing_open}
use Rattle.jp_cut.specs.declared.machine.Known.{Known}
use Rattle.jp_cut.specs.declared.machine.Place.TheVariants.{Between}
use Rattle.jp_cut.proofs.Blocks.{count, ones_are}

not_true : (b : Bool) → (b ≡ true → ⊥) → b ≡ false
not_true true none = absurd (none refl)
not_true false none = refl

abbrev counted : List ℕ → ℕ
counted [] = 0
counted (x ∷ xs) = cond (eqb x 0x0A) (1 + counted xs) (counted xs)

same : (xs : List ℕ) → counted xs ≡ line_feeds_in xs
same xs = is_count_by counted (λ x. eqb x 0x0A) refl (λ x rest. refl) xs

no_count : (xs : List ℕ) → ((k : ℕ) → k < length xs → eqb (get_or xs k 0) 0x0A ≡ true → ⊥) → 0 ≡ counted xs
no_count [] none = refl
no_count (x ∷ xs) none =
    no_count xs (λ k low e. none (suc k) (omega arith) e)
    ∙ ap (λ b. cond b (1 + counted xs) (counted xs)) (sym (not_true (eqb x 0x0A) (none 0 (omega arith))))

pub none_counted : (xs : List ℕ) → ((k : ℕ) → k < length xs → eqb (get_or xs k 0) 0x0A ≡ true → ⊥) → 0 ≡ line_feeds_in xs
none_counted xs none = no_count xs none ∙ same xs

-- ---- by the bits of a word

counted_as : (known : Known) (xs : List ℕ) → count (λ k byte. byte == 0x0A) known xs ≡ counted xs
unfolding count
counted_as known [] = refl
counted_as known (x ∷ xs) = ap (λ n. cond (eqb x 0x0A) 1 0 + n) (counted_as (behind known x) xs) ∙ one (eqb x 0x0A) (counted xs)
  where
    one : (b : Bool) (n : ℕ) → cond b 1 0 + n ≡ cond b (1 + n) n
    one true n = refl
    one false n = omega arith

pub of_block : (block : List ℕ) (word : ℕ) → length block ≡ 64 → word < 2 ^ 64 → Says word (λ i. get_or block i 0 == 0x0A) → ones word ≡ line_feeds_in block
of_block block word long small says =
    ones_are (λ k byte. byte == 0x0A) block word (nothing_open Between) (subst (λ n. word < 2 ^ n) (sym long) small) (λ i low. says i (omega (arith, low, long)))
    ∙ counted_as (nothing_open Between) block ∙ same block

-- ---- part by part

both : (xs ys : List ℕ) → counted (xs ++ ys) ≡ counted xs + counted ys
both [] ys = omega arith
both (x ∷ xs) ys = ap (λ n. cond (eqb x 0x0A) (1 + n) n) (both xs ys) ∙ more (eqb x 0x0A) (counted xs) (counted ys)
  where
    more : (b : Bool) (m n : ℕ) → cond b (1 + (m + n)) (m + n) ≡ cond b (1 + m) m + n
    more true m n = omega arith
    more false m n = refl

pub joined : (xs : List ℕ) (at n : ℕ) → line_feeds_in (take (at + n) xs) ≡ line_feeds_in (take at xs) + line_feeds_in (take n (drop at xs))
joined xs at n =
    ap line_feeds_in (take-add at n xs) ∙ sym (same (take at xs ++ take n (drop at xs))) ∙ both (take at xs) (take n (drop at xs))
    ∙ ap₂ (λ a b. a + b) (same (take at xs)) (same (take n (drop at xs)))

pub whole : (xs : List ℕ) (at : ℕ) → at ≤ length xs → line_feeds_in xs ≡ line_feeds_in (take at xs) + line_feeds_in (drop at xs)
whole xs at within =
    ap line_feeds_in (sym (take-append-drop at xs)) ∙ sym (same (take at xs ++ drop at xs)) ∙ both (take at xs) (drop at xs) ∙ ap₂ (λ a b. a + b) (same (take at xs)) (same (drop at xs))
