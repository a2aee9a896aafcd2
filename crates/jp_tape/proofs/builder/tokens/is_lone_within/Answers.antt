use Rattle.std.proofs.Common.{◌≡◌, ap, ℕ, ◌+◌, ◌≤◌, Bool, List, length, refl, arith}
use Rattle.jp_model.specs.Json.Places.{Has, bytes_between}
use Rattle.jp_model.specs.Json.Strings.{SpellsBody, has_lone_surrogate}
use Rattle.jp_model.specs.Json.Spelling.{SpellsString}
use Rattle.jp_lanes.specs.Search.{is_special}
use Rattle.jp_strings.proofs.Slices.{body_of_slice, body_in_line}
use Rattle.jp_tape.proofs.Bodies.{between_quotes}
use Rattle.jp_tape.proofs.builder.tokens.is_lone_within.Goals as goal

string_of : (line : List ℕ) (from last : ℕ) (b : Bool) (points : List ℕ) → Has line from 0x22 → Has line last 0x22 → from + 1 ≤ last → SpellsBody (bytes_between line (from + 1) last) 0 (length (bytes_between line (from + 1) last)) points → has_lone_surrogate points ≡ b →
    (x : List ℕ) × SpellsString line from (last + 1) x × (has_lone_surrogate x ≡ b)
string_of line from last b points o c l body lone =
    let i = c.inside in
    (points, record { last = last; opens = o; body = body_in_line line points (from + 1) last l (omega (arith, i)) body; closes = c; end = refl }, lone)

pub returns-in-Ok-clause-found : goal.returns-in-Ok-clause-found
returns-in-Ok-clause-found c =
    let t = c.in-Ok.ensures in
    string_of c.args.line.now c.args.from c.args.last _ t.points c.requires.opens c.requires.closes (omega arith) t.spelled t.is_whole

pub returns-in-Err-Surrogate-clause-found : goal.returns-in-Err-Surrogate-clause-found
returns-in-Err-Surrogate-clause-found c =
    let t = rw c.in-Err-Surrogate.field-0-is at c.in-Err-Surrogate.ensures in
    string_of c.args.line.now c.args.from c.args.last _ t.0 c.requires.opens c.requires.closes (omega arith) t.1 t.2

pub returns-in-Err-Shape-clause-none : goal.returns-in-Err-Shape-clause-none
returns-in-Err-Shape-clause-none c points h =
    let t = rw c.in-Err-Shape.field-0-is at c.in-Err-Shape.ensures in
    let i = c.requires.closes.inside in
    t points (body_of_slice c.args.line.now points (c.args.from + 1) c.args.last (omega (arith, i)) h)

pub test_utf8_within-requires : goal.test_utf8_within-requires
test_utf8_within-requires c =
    let l = c.requires.closes in
    let inside = l.inside in
    record {
      order = omega (arith, c.requires.order);
      within = omega (arith, inside);
      closes = λ more. ap is_special l.is;
      utf8 = between_quotes c.args.line.now c.args.from c.args.last c.requires.utf8 c.requires.opens c.requires.order l;
    }
