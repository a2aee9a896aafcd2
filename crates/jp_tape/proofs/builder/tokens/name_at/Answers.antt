use Rattle.std.proofs.Common.{◌≡◌, ℕ, ◌+◌, ◌-◌, ◌<◌, ◌≤◌, true, List, length-drop, length, drop, ap, refl, arith}
use Rattle.jp_model.specs.Characters.{is_structural}
use Rattle.jp_model.specs.Json.Places.{byte_at, Has}
use Rattle.jp_model.specs.Json.Marks.{may_begin}
use Rattle.jp_tape.specs.Ahead.{IsPassed, IsClosed, first_or}
use Rattle.jp_tape.proofs.Ahead.{passes_colon, structural_begins}
use Rattle.jp_tape.proofs.More.{IsThere, there_behind, more_behind}
use Rattle.jp_tape.proofs.Labels.{found_name, no_string_no_name, no_quote_no_name, no_colon_no_name}
use Rattle.jp_tape.proofs.builder.tokens.name_at.Goals as goal

-- the colon is there, and the value after it
record Colon (line ms : List ℕ) (end colon : ℕ) : Type 0 where
  there : IsThere line (drop 2 ms) end colon
  has : Has line colon 0x3A
  passed : IsPassed line ms 3 (colon + 1)
  more : 3 < length ms

colon_at : (line ms rest : List ℕ) (end colon : ℕ) → IsClosed line ms → 2 < length ms → IsPassed line ms 2 end → end ≤ length line → may_begin line end ≡ true → rest ≡ drop 2 ms → colon ≡ first_or rest (length line) → byte_at line colon ≡ 0x3A → Colon line ms end colon
colon_at line ms rest end colon c two p w b e v is =
    let t = there_behind line ms rest 2 end colon w b p.ahead two e v in
    let has : Has line colon 0x3A = record { inside = t.inside; is = is } in
    record {
      there = t;
      has = has;
      passed = passes_colon line ms (drop 2 ms) end colon p refl t.next.ahead has;
      more = more_behind line ms 2 colon 0x3A c two t.next.first is refl;
    }

value_at : (line ms rest : List ℕ) (end colon value : ℕ) → Colon line ms end colon → rest ≡ drop 3 ms → value ≡ first_or rest (length line) → IsThere line (drop 3 ms) (colon + 1) value
value_at line ms rest end colon value c e v =
    let inside = c.has.inside in
    there_behind line ms rest 3 (colon + 1) value (omega (arith, inside)) (structural_begins line colon (ap is_structural c.has.is)) c.passed.ahead c.more e v

pub string_end-requires-clause-two : goal.string_end-requires-clause-two
string_end-requires-clause-two c =
    let two = more_behind c.args.line.now c.args.marks.now 0 c.args.from 0x22 c.requires.closed c.requires.some c.requires.ahead.first (c.is_byte.ensures.yes c.if-not-is_byte.false).is refl in
    omega (arith, two)

pub next_mark-colon-requires : goal.next_mark-colon-requires
next_mark-colon-requires c =
    let more = c.in-Some.ensures.more c.requires.closed in
    let rest = ap (λ (xs : List ℕ). length xs) c.marks_behind.ensures in
    let count = length-drop 2 c.args.marks.now in
    record { some = omega (arith, more, rest, count) }

pub bounds-line-colon : goal.bounds-line-colon
bounds-line-colon c =
    let e = c.in-Some.ensures in
    (there_behind c.args.line.now c.args.marks.now c.marks_behind.result.now 2 c.in-Some.name.end c.next_mark-colon.result e.within.1 e.begins e.ahead.ahead (e.more c.requires.closed) c.marks_behind.ensures (c.next_mark-colon.ensures.value (length c.args.line.now))).inside

pub next_mark-requires : goal.next_mark-requires
next_mark-requires c =
    let line = c.args.line.now in
    let ms = c.args.marks.now in
    let e = c.in-Some.ensures in
    let k = colon_at line ms c.marks_behind.result.now c.in-Some.name.end c.next_mark-colon.result c.requires.closed (e.more c.requires.closed) e.ahead e.within.1 e.begins c.marks_behind.ensures (c.next_mark-colon.ensures.value (length line)) c.if-line-colon-ne58.false in
    let more = k.more in
    let rest = ap (λ (xs : List ℕ). length xs) c.marks_behind-2.ensures in
    let count = length-drop 3 ms in
    record { some = omega (arith, more, rest, count) }

pub returns : goal.returns
returns c =
    let line = c.args.line.now in
    let ms = c.args.marks.now in
    let e = c.in-Some.ensures in
    let end = c.in-Some.name.end in
    let colon = c.next_mark-colon.result in
    let k = colon_at line ms c.marks_behind.result.now end colon c.requires.closed (e.more c.requires.closed) e.ahead e.within.1 e.begins c.marks_behind.ensures (c.next_mark-colon.ensures.value (length line)) c.if-line-colon-ne58.false in
    let v = value_at line ms c.marks_behind-2.result.now end colon c.next_mark.result k c.marks_behind-2.ensures (c.next_mark.ensures.value (length line)) in
    let f = e.found in
    let from = e.within.0 in
    let before = k.there.white.order in
    let after = v.white.order in
    record {
      within = (omega (arith, from, before, after), v.inside);
      marks = k.more;
      stops = v.stops;
      ahead = record { within = k.passed.within; ahead = v.next.ahead };
      first = v.next.first;
      plain = e.plain;
      found = found_name line c.args.from end colon c.next_mark.result c.in-Some.name.is_lone c.in-Some.name.is_plain f.0 f.1 f.2 k.there.white k.has v.white v.stops (end - 1) (omega (arith, from));
      none = tt;
    }

pub returns-then-not-is_byte-clause-none : goal.returns-then-not-is_byte-clause-none
returns-then-not-is_byte-clause-none c = no_quote_no_name c.args.line.now c.args.from (c.is_byte.ensures.no c.if-not-is_byte.true)

pub returns-in_default-clause-none : goal.returns-in_default-clause-none
returns-in_default-clause-none c = no_string_no_name c.args.line.now c.args.from c.in_default.ensures.none

pub returns-then-line-colon-ne58-clause-none : goal.returns-then-line-colon-ne58-clause-none
returns-then-line-colon-ne58-clause-none c =
    let e = c.in-Some.ensures in
    let t = there_behind c.args.line.now c.args.marks.now c.marks_behind.result.now 2 c.in-Some.name.end c.next_mark-colon.result e.within.1 e.begins e.ahead.ahead (e.more c.requires.closed) c.marks_behind.ensures (c.next_mark-colon.ensures.value (length c.args.line.now)) in
    let f = e.found in
    no_colon_no_name c.args.line.now c.args.from c.in-Some.name.end c.next_mark-colon.result f.0 f.1 t.white t.stops (λ h. c.if-line-colon-ne58.true h.is)
