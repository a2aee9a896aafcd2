-- Where the last mark closes an array or an object, more marks follow any other one.
use Rattle.std.proofs.Common.{◌≡◌, ℕ, ◌+◌, ◌-◌, ◌<◌, ◌≤◌, inl, inr, true, false, List, length, drop, get_or, sym, ◌∙◌, ap, refl, arith, subst}
use Rattle.std.proofs.lemmas.List.{length-drop, get_or-drop}
use Rattle.std.proofs.lemmas.Bool.{cases_lt, true≢false}
use Rattle.std.proofs.lemmas.Bool.Decides.{nat_tests}
use Rattle.jp_model.specs.Characters.{is_structural}
use Rattle.jp_model.specs.Json.Places.{byte_at, White}
use Rattle.jp_model.specs.Json.Tree.{Container, array, object}
use Rattle.jp_model.specs.Json.Spelling.{opening}
use Rattle.jp_model.specs.Json.Marks.{may_begin}
use Rattle.jp_tape.specs.Places.{Stops}
use Rattle.jp_tape.specs.Ahead.{IsAhead, IsNext, IsClosed, first_or, is_closing, in_token}
use Rattle.jp_tape.specs.Reader.{MayBegin}
use Rattle.jp_tape.proofs.Ahead.{skips_to_mark, goes_on, some_is_first, passes_structural, structural_begins, structural_first}

-- after a mark that closes nothing there is another one
pub more_after : (line ms : List ℕ) (k : ℕ) → IsClosed line ms → k < length ms → is_closing (byte_at line (get_or ms k 0)) ≡ false → k + 1 < length ms
more_after line ms k c l n =
    elim (cases_lt (k + 1) (length ms)) [
      | inl more ↦ more
      | inr last ↦ (
          let same : length ms - 1 ≡ k = omega (arith, l, last) in
          let closes = c (omega (arith, l)) in
          absurd (true≢false (sym closes ∙ (ap (λ i. is_closing (byte_at line (get_or ms i 0))) same ∙ n)))
          )
    ]

pub drop_closed : (line ms : List ℕ) (n : ℕ) → IsClosed line ms → IsClosed line (drop n ms)
drop_closed line ms n c some =
    let d = length-drop n ms in
    let place : n + (length (drop n ms) - 1) ≡ length ms - 1 = omega (arith, d, some) in
    ap (λ x. is_closing (byte_at line x)) (get_or-drop n ms (length (drop n ms) - 1) 0 ∙ ap (λ i. get_or ms i 0) place) ∙ c (omega (arith, d, some))

pub mark_at : (line ms : List ℕ) (n to : ℕ) → n < length ms → to ≡ first_or (drop n ms) (length line) → get_or ms n 0 ≡ to
mark_at line ms n to l e =
    let d = length-drop n ms in
    let place : n ≡ n + 0 = omega arith in
    ap (λ i. get_or ms i 0) place ∙ (sym (get_or-drop n ms 0 0) ∙ (some_is_first (drop n ms) (length line) 0 (omega (arith, d, l)) ∙ sym e))

pub more_behind : (line ms : List ℕ) (n to b : ℕ) → IsClosed line ms → n < length ms → to ≡ first_or (drop n ms) (length line) → byte_at line to ≡ b → is_closing b ≡ false → n + 1 < length ms
more_behind line ms n to b c l e h k = more_after line ms n c l (ap (λ x. is_closing (byte_at line x)) (mark_at line ms n to l e) ∙ (ap is_closing h ∙ k))

pub opening_open : (kind : Container) → is_closing (opening kind) ≡ false
opening_open array = refl
opening_open object = refl

pub token_open : (b : ℕ) → in_token b ≡ true → is_closing b ≡ false
token_open b h = grind (arith, nat_tests, h)

-- inside of an array or an object a value may begin with any mark
pub begins_inside : (line ms : List ℕ) (at : ℕ) → IsNext line at ms → 0 < length ms → IsClosed line ms → MayBegin line at ms
begins_inside line ms at n some c = record {
  some = some;
  quoted = λ e. (let two = more_behind line ms 0 at 0x22 c some n.first e refl in omega (arith, two));
  closed = λ kind e. c;
}

-- the token of a mark
pub record IsThere (line ms : List ℕ) (from to : ℕ) : Type 0 where
  pub white : White line from to
  pub stops : Stops line to
  pub inside : to < length line
  pub next : IsNext line to ms

pub there : (line ms : List ℕ) (from to : ℕ) → from ≤ length line → may_begin line from ≡ true → IsAhead line from ms → 0 < length ms → to ≡ first_or ms (length line) → IsThere line ms from to
there line ms from to w b a some e = let s = skips_to_mark line ms from to w b a e in record { white = s.white; stops = s.stops; inside = goes_on line ms to s.ahead some; next = record { ahead = s.ahead; first = e } }

pub there_behind : (line ms rest : List ℕ) (n from to : ℕ) → from ≤ length line → may_begin line from ≡ true → IsAhead line from (drop n ms) → n < length ms → rest ≡ drop n ms → to ≡ first_or rest (length line) → IsThere line (drop n ms) from to
there_behind line ms rest n from to w b a l e v = let d = length-drop n ms in there line (drop n ms) from to w b a (omega (arith, d, l)) (v ∙ ap (λ (xs : List ℕ). first_or xs (length line)) e)

-- a comma or an opening bracket is passed
pub record PassedOn (line ms rest : List ℕ) (at to : ℕ) : Type 0 where
  pub white : White line (at + 1) to
  pub stops : Stops line to
  pub inside : to < length line
  pub next : IsNext line to rest
  pub some : 0 < length rest
  pub fewer : length rest < length ms
  pub closed : IsClosed line rest

pub more_on : (line ms : List ℕ) (at b : ℕ) → IsClosed line ms → IsAhead line at ms → at < length line → byte_at line at ≡ b → is_structural b ≡ true → is_closing b ≡ false → 1 < length ms
more_on line ms at b c a i e s o =
    let first = structural_first line ms at i (ap is_structural e ∙ s) a in
    let n = ap length first in
    more_behind line ms 0 at b c (omega (arith, n)) (sym (ap (λ (xs : List ℕ). first_or xs (length line)) first)) e o

pub passes_on : (line ms rest : List ℕ) (at to b : ℕ) → IsClosed line ms → IsAhead line at ms → at < length line → byte_at line at ≡ b → is_structural b ≡ true → is_closing b ≡ false → rest ≡ drop 1 ms → to ≡ first_or rest (length line) → PassedOn line ms rest at to
passes_on line ms rest at to b c a i e s o d v =
    let p = passes_structural line ms at i (ap is_structural e ∙ s) a in
    let more = more_on line ms at b c a i e s o in
    let t = there_behind line ms rest 1 (at + 1) to (omega (arith, i)) (structural_begins line at (ap is_structural e ∙ s)) p.ahead more d v in
    let n = length-drop 1 ms in
    let r = ap length d in
    record {
      white = t.white;
      stops = t.stops;
      inside = t.inside;
      next = subst (λ (xs : List ℕ). IsNext line to xs) (sym d) t.next;
      some = omega (arith, n, r, more);
      fewer = omega (arith, n, r, more);
      closed = subst (λ (xs : List ℕ). IsClosed line xs) (sym d) (drop_closed line ms 1 c);
    }
