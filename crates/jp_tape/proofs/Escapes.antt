-- Before the first escape of a line: which of its bytes stand for themselves.
use Rattle.std.proofs.Common.{◌≡◌, ℕ, ◌+◌, ◌-◌, ◌<◌, ◌≤◌, Bool, true, false, not, ◌&&◌, List, length, take, get_or-take, length-take, sym, ◌∙◌, ap, subst, refl, arith}
use Rattle.std.proofs.lemmas.Bool.Decides.{nat_tests}
use Rattle.jp_lanes.specs.First.{is_escape, IsFirst}
use Rattle.jp_lanes.specs.Search.{is_special}
use Rattle.jp_model.specs.Characters.{is_quote, is_backslash}
use Rattle.jp_model.specs.Json.Places.{byte_at}
use Rattle.jp_model.specs.Json.Marks.{is_escaped}
use Rattle.jp_strings.specs.Plain.{ArePlain}
use Rattle.jp_tape.specs.Places.{IsUnescaped, IsUnquoted}
use Rattle.jp_tape.proofs.Ahead.{free_next}

-- ---- all bytes but the last

front_byte : (line : List ℕ) (k : ℕ) → k + 1 < length line → byte_at (take (length line - 1) line) k ≡ byte_at line k
front_byte line k l = get_or-take (length line - 1) line k 0 (omega (arith, l))

pub unescaped_front : (line : List ℕ) (at : ℕ) → IsFirst is_escape (take (length line - 1) line) 0 at → IsUnescaped line at
unfolding IsUnescaped
unescaped_front line at f k l =
    let size = length-take (length line - 1) line in
    let end = f.within in
    sym (ap is_escape (front_byte line k (omega (arith, size, l, end)))) ∙ f.before k (omega arith) l

pub escape_in_front : (line : List ℕ) (at : ℕ) → IsFirst is_escape (take (length line - 1) line) 0 at → at + 1 < length line → is_escape (byte_at line at) ≡ true
escape_in_front line at f inside =
    let size = length-take (length line - 1) line in
    ap is_escape (sym (front_byte line at inside)) ∙ f.stops (omega (arith, size, inside))

-- ---- strings

no_special : (b : ℕ) → is_escape b ≡ false → is_quote b ≡ false → is_special b ≡ false
no_special b e q = grind (arith, nat_tests, e, q)

no_backslash : (b : ℕ) → is_escape b ≡ false → is_backslash b ≡ false
no_backslash b e = grind (arith, nat_tests, e)

no_quote : (q e : Bool) → e ≡ false → (q && not e) ≡ false → q ≡ false
no_quote false e f h = refl
no_quote true e f h = absurd (cc)

never_escaped : (line : List ℕ) (k j end : ℕ) → k ≡ j + 1 → IsUnescaped line end → k ≤ end → is_escaped line k ≡ false
unfolding IsUnescaped
never_escaped line k j end e p l = subst (λ n. is_escaped line n ≡ false) (sym e) (free_next line j (no_backslash (byte_at line j) (p j (omega (arith, e, l)))))

-- between two quotes before the first escape each byte stands for itself
pub plain_before_escape : (line : List ℕ) (from last escape : ℕ) → last ≤ escape → IsUnescaped line escape → IsUnquoted line (from + 1) last → ArePlain line (from + 1) last
unfolding IsUnescaped IsUnquoted
plain_before_escape line from last escape l p u k a b =
    no_special (byte_at line k) (p k (omega (arith, b, l))) (no_quote (is_quote (byte_at line k)) (is_escaped line k) (never_escaped line k (k - 1) escape (omega (arith, a)) p (omega (arith, b, l))) (u k a b))
