-- One more byte at the end of a text: it ends the open piece, or goes on with it.
use Rattle.std.proofs.Common.{◌≡◌, ℕ, true, false, cond, List, [], ◌∷◌, ◌++◌, refl, ap, ◌∙◌, eqb-true}
use Rattle.jp_model.specs.Lines.{is_separator, closed_pieces, open_piece}
use Rattle.jp_model.proofs.Pieces.{closed-separator, open-separator, closed-other, open-other}

pub closed-push : (separator : ℕ) (text : List ℕ) (byte : ℕ)
    → closed_pieces separator (text ++ byte ∷ []) ≡ cond (is_separator separator byte) (closed_pieces separator text ++ open_piece separator text ∷ []) (closed_pieces separator text)
closed-push separator text byte =
    elim (is_separator separator byte) as (λ v. is_separator separator byte ≡ v → closed_pieces separator (text ++ byte ∷ []) ≡ cond v (closed_pieces separator text ++ open_piece separator text ∷ []) (closed_pieces separator text)) [
      | true ↦ λ e. ap (λ b. closed_pieces separator (text ++ b ∷ [])) (eqb-true byte separator e) ∙ closed-separator separator text
      | false ↦ λ e. closed-other separator text byte e
    ] refl

pub open-push : (separator : ℕ) (text : List ℕ) (byte : ℕ) → open_piece separator (text ++ byte ∷ []) ≡ cond (is_separator separator byte) [] (open_piece separator text ++ byte ∷ [])
open-push separator text byte =
    elim (is_separator separator byte) as (λ v. is_separator separator byte ≡ v → open_piece separator (text ++ byte ∷ []) ≡ cond v [] (open_piece separator text ++ byte ∷ [])) [
      | true ↦ λ e. ap (λ b. open_piece separator (text ++ b ∷ [])) (eqb-true byte separator e) ∙ open-separator separator text
      | false ↦ λ e. open-other separator text byte e
    ] refl
