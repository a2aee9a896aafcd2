-- A body without special bytes stands for itself.
use Rattle.std.proofs.Common.{◌≡◌, ℕ, ◌+◌, ◌-◌, ◌<◌, ◌≤◌, inl, inr, false, ◌||◌, List, ◌∷◌, length, drop, get_or, ◌∙◌, ap, refl, arith, get_or-drop, length-drop}
use Rattle.std.specs.Str.{IsUtf8}
use Rattle.std.proofs.lemmas.Str.{IsUtf8-take, IsUtf8-drop, IsCharBoundary-after_ascii, IsCharBoundary-before_ascii}
use Rattle.std.proofs.lemmas.List.{get_or-take, length-take-le}
use Rattle.std.proofs.lemmas.Bool.{cases_lt, false_from_ne_true}
use Rattle.jp_model.proofs.Reader.Lexical.{clash}
use Rattle.jp_lanes.specs.Search.{is_special}
use Rattle.jp_model.specs.Characters.{is_surrogate, is_high_surrogate}
use Rattle.jp_model.specs.Json.Places.{byte_at, bytes_between, Has}
use Rattle.jp_model.specs.Json.Strings.{SpellsBody, has_lone_surrogate}
use Rattle.jp_strings.specs.Halves.{differ, alone, alone_behind}
use Rattle.jp_strings.specs.Plain.{ArePlain}
use Rattle.jp_strings.proofs.Answers.{reached}
use Rattle.jp_strings.proofs.Halves.{low_is_surrogate, high_is_surrogate}
use Rattle.jp_strings.proofs.Runs.{run_advances}
use Rattle.jp_strings.proofs.Slices.{body_in_line}

-- a scalar after scalars tells nothing new of halves
takes_scalars : (unit : ℕ) (units : List ℕ) → is_surrogate unit ≡ false → alone_behind (record { after_high = false; is_lone = false }) (unit ∷ units) ≡ alone_behind (record { after_high = false; is_lone = false }) units
takes_scalars unit units s =
    let low = false_from_ne_true _ (λ t. clash _ (low_is_surrogate unit t) s) in
    let high = false_from_ne_true _ (λ t. clash _ (high_is_surrogate unit t) s) in
    ap (λ b. false || (differ false b || alone (is_high_surrogate unit) units)) low ∙ ap (λ b. false || (differ false false || alone b units)) high

-- a plain body by itself
plain_alone : (body : List ℕ) → IsUtf8 body → ArePlain body 0 (length body) → (points : List ℕ) × SpellsBody body 0 (length body) points × (has_lone_surrogate points ≡ false)
plain_alone body u p =
    elim (cases_lt 0 (length body)) [
      | inl some ↦ (
          let run = run_advances body 0 (length body) (record { after_high = false; is_lone = false }) (record { after_high = false; is_lone = false }) some (omega arith) u p (λ l. absurd (omega (arith, l))) refl takes_scalars in
          reached body (length body) (record { after_high = false; is_lone = false }) false run.same refl refl
          )
      | inr none ↦ (let end : 0 ≡ length body = omega (arith, none) in reached body 0 (record { after_high = false; is_lone = false }) false refl end refl)
    ]

-- what stands between two quotes is UTF-8
pub between_quotes : (line : List ℕ) (from last : ℕ) → IsUtf8 line → Has line from 0x22 → from < last → Has line last 0x22 → IsUtf8 (bytes_between line (from + 1) last)
between_quotes line from last u o l c =
    let f = o.is in
    let g = c.is in
    let i = c.inside in
    let rest = IsUtf8-drop line (from + 1) u (IsCharBoundary-after_ascii line from u o.inside (omega (arith, f))) in
    let d = length-drop (from + 1) line in
    let e : get_or (drop (from + 1) line) (last - (from + 1)) 0 ≡ byte_at line last = get_or-drop (from + 1) line (last - (from + 1)) 0 ∙ ap (byte_at line) (let k : from + 1 + (last - (from + 1)) ≡ last = omega (arith, l) in k) in
    IsUtf8-take (drop (from + 1) line) (last - (from + 1)) rest (IsCharBoundary-before_ascii (drop (from + 1) line) (last - (from + 1)) (omega (arith, d, i, l)) (omega (arith, e, g)))

pub plain_between : (line : List ℕ) (from to : ℕ) → from ≤ to → to ≤ length line → ((k : ℕ) → from ≤ k → k < to → is_special (byte_at line k) ≡ false) → ArePlain (bytes_between line from to) 0 (length (bytes_between line from to))
plain_between line from to o w p k a b =
    let d = length-drop from line in
    let size : length (bytes_between line from to) ≡ to - from = length-take-le (to - from) (drop from line) (omega (arith, d, w)) in
    let there : byte_at (bytes_between line from to) k ≡ byte_at line (from + k) = get_or-take (to - from) (drop from line) k 0 (omega (arith, size, b)) ∙ get_or-drop from line k 0 in
    ap is_special there ∙ p (from + k) (omega arith) (omega (arith, size, b, o))

pub plain_body : (line : List ℕ) (from last : ℕ) → IsUtf8 line → Has line from 0x22 → from < last → Has line last 0x22 → ((k : ℕ) → from + 1 ≤ k → k < last → is_special (byte_at line k) ≡ false) → (points : List ℕ) × SpellsBody line (from + 1) last points × (has_lone_surrogate points ≡ false)
plain_body line from last u o l c p =
    let i = c.inside in
    let found = plain_alone (bytes_between line (from + 1) last) (between_quotes line from last u o l c) (plain_between line (from + 1) last (omega (arith, l)) (omega (arith, i)) p) in
    (found.0, body_in_line line found.0 (from + 1) last (omega (arith, l)) (omega (arith, i)) found.1, found.2)
