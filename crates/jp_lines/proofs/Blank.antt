-- A line of white space alone has no mark.
use Rattle.std.proofs.Common.{◌≡◌, ℕ, Bool, true, false, not, ◌||◌, ◌&&◌, ◌==◌, List, [], length, sym, ◌∙◌, subst, refl, arith, inl, inr}
use Rattle.std.proofs.lemmas.Bool.{or_cases, eqb-true, false_from_ne_true}
use Rattle.std.proofs.lemmas.List.Sums.{AllPass-from_list_all}
use Rattle.jp_model.specs.Characters.{is_white, is_structural, is_quote}
use Rattle.jp_model.specs.Lines.{is_blank}
use Rattle.jp_model.specs.Json.Places.{byte_at}
use Rattle.jp_model.specs.Json.Marks.{marks, is_mark, is_escaped, is_inside, may_begin}
use Rattle.jp_masks.proofs.Positions.{filter_none}

white_cases : (P : ℕ → Type 0) (b : ℕ) → is_white b ≡ true → P 0x20 → P 0x09 → P 0x0A → P 0x0D → P b
white_cases P b w space tab feed return =
    elim (or_cases ((b == 0x20) || (b == 0x09) || (b == 0x0A)) (b == 0x0D) w) [
      | inl e ↦
          elim (or_cases ((b == 0x20) || (b == 0x09)) (b == 0x0A) e) [
            | inl f ↦ elim (or_cases (b == 0x20) (b == 0x09) f) [ inl g ↦ subst P (sym (eqb-true b 0x20 g)) space | inr g ↦ subst P (sym (eqb-true b 0x09 g)) tab ]
            | inr f ↦ subst P (sym (eqb-true b 0x0A f)) feed
          ]
      | inr e ↦ subst P (sym (eqb-true b 0x0D e)) return
    ]

no_token : (quote structural white escaped inside begins : Bool) → quote ≡ false → structural ≡ false → white ≡ true →
    ((quote && not escaped) || (not inside && (structural || (begins && not (white || quote))))) ≡ false
no_token false false true escaped true begins q s w = refl
no_token false false true escaped false true q s w = refl
no_token false false true escaped false false q s w = refl
no_token true structural white escaped inside begins q s w = absurd (cc)
no_token false true white escaped inside begins q s w = absurd (cc)
no_token false false false escaped inside begins q s w = absurd (cc)

white_unmarked : (line : List ℕ) (i : ℕ) → is_white (byte_at line i) ≡ true → is_mark line i ≡ false
white_unmarked line i w =
    let other = white_cases (λ b. (is_quote b ≡ false) × (is_structural b ≡ false)) (byte_at line i) w (refl, refl) (refl, refl) (refl, refl) (refl, refl) in
    no_token (is_quote (byte_at line i)) (is_structural (byte_at line i)) (is_white (byte_at line i)) (is_escaped line i) (is_inside line i) (may_begin line i) other.0 other.1 w

pub blank_unmarked : (line : List ℕ) → is_blank line ≡ true → marks line ≡ []
unfolding marks
blank_unmarked line blank = filter_none (is_mark line) 0 (length line) (λ i low high. white_unmarked line i (AllPass-from_list_all is_white line blank i 0 (omega (arith, high))))

-- so a line with a mark is not one
pub marked_not_blank : (line found : List ℕ) → found ≡ marks line → (found ≡ [] → ⊥) → is_blank line ≡ false
marked_not_blank line found e some = false_from_ne_true _ (λ blank. some (e ∙ blank_unmarked line blank))
