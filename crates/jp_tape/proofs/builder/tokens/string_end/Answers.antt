use Rattle.std.proofs.Common.{◌≡◌, ℕ, ◌+◌, ◌<◌, ◌≤◌, Bool, false, List, length, subst, refl, arith}
use Rattle.jp_model.specs.Json.Places.{Has}
use Rattle.jp_model.specs.Json.Strings.{SpellsBody, has_lone_surrogate}
use Rattle.jp_model.specs.Json.Spelling.{SpellsString}
use Rattle.jp_tape.specs.Reading.{Closes}
use Rattle.jp_tape.proofs.Bodies.{plain_body}
use Rattle.jp_tape.proofs.builder.tokens.string_end.Goals as goal

spelled_string : (line : List ℕ) (from last : ℕ) (b : Bool) (points : List ℕ) → Has line from 0x22 → Has line last 0x22 → SpellsBody line (from + 1) last points → has_lone_surrogate points ≡ b → (x : List ℕ) × SpellsString line from (last + 1) x × (has_lone_surrogate x ≡ b)
spelled_string line from last b points o c body lone = (points, record { last = last; opens = o; body = body; closes = c; end = refl }, lone)

within : (line ms : List ℕ) (from last : ℕ) → Closes line ms from last → (from + 1 < last + 1) × (last + 1 ≤ length line)
within line ms from last e = let o = e.order in let i = e.quote.inside in (omega (arith, o), omega (arith, i))

pub is_plain_between-requires-clause-order : goal.is_plain_between-requires-clause-order
is_plain_between-requires-clause-order c = (c.closing_quote-last.ensures c.args.line.now c.args.from c.requires.opens c.requires.ahead).order

pub is_plain_between-requires-clause-within : goal.is_plain_between-requires-clause-within
is_plain_between-requires-clause-within c = (c.closing_quote-last.ensures c.args.line.now c.args.from c.requires.opens c.requires.ahead).quote.inside

pub is_plain_between-requires-clause-first : goal.is_plain_between-requires-clause-first
is_plain_between-requires-clause-first c = (c.closing_quote-last.ensures c.args.line.now c.args.from c.requires.opens c.requires.ahead).first

pub is_lone_within-requires-clause-order : goal.is_lone_within-requires-clause-order
is_lone_within-requires-clause-order c = (c.closing_quote-last.ensures c.args.line.now c.args.from c.requires.opens c.requires.ahead).order

pub is_lone_within-requires-clause-closes : goal.is_lone_within-requires-clause-closes
is_lone_within-requires-clause-closes c = (c.closing_quote-last.ensures c.args.line.now c.args.from c.requires.opens c.requires.ahead).quote

pub returns-then-is_plain_between-clause-within : goal.returns-then-is_plain_between-clause-within
returns-then-is_plain_between-clause-within c = within c.args.line.now c.args.marks.now c.args.from c.closing_quote-last.result (c.closing_quote-last.ensures c.args.line.now c.args.from c.requires.opens c.requires.ahead)

pub returns-then-is_plain_between-clause-found : goal.returns-then-is_plain_between-clause-found
returns-then-is_plain_between-clause-found c =
    let e = c.closing_quote-last.ensures c.args.line.now c.args.from c.requires.opens c.requires.ahead in
    let plain = c.is_plain_between.ensures c.if-is_plain_between.true in
    let t = plain_body c.args.line.now c.args.from c.closing_quote-last.result c.requires.line.utf8 c.requires.opens e.order e.quote plain in
    spelled_string c.args.line.now c.args.from c.closing_quote-last.result false t.0 c.requires.opens e.quote t.1 t.2

pub returns-then-is_plain_between-clause-ahead : goal.returns-then-is_plain_between-clause-ahead
returns-then-is_plain_between-clause-ahead c = (c.closing_quote-last.ensures c.args.line.now c.args.from c.requires.opens c.requires.ahead).ahead

pub returns-then-is_plain_between-clause-begins : goal.returns-then-is_plain_between-clause-begins
returns-then-is_plain_between-clause-begins c = (c.closing_quote-last.ensures c.args.line.now c.args.from c.requires.opens c.requires.ahead).begins

pub returns-then-is_plain_between-clause-more : goal.returns-then-is_plain_between-clause-more
returns-then-is_plain_between-clause-more c closed =
    (c.closing_quote-last.ensures c.args.line.now c.args.from c.requires.opens c.requires.ahead).more closed

pub returns-in-Some-clause-within : goal.returns-in-Some-clause-within
returns-in-Some-clause-within c = within c.args.line.now c.args.marks.now c.args.from c.closing_quote-last.result (c.closing_quote-last.ensures c.args.line.now c.args.from c.requires.opens c.requires.ahead)

pub returns-in-Some-clause-ahead : goal.returns-in-Some-clause-ahead
returns-in-Some-clause-ahead c = (c.closing_quote-last.ensures c.args.line.now c.args.from c.requires.opens c.requires.ahead).ahead

pub returns-in-Some-clause-begins : goal.returns-in-Some-clause-begins
returns-in-Some-clause-begins c = (c.closing_quote-last.ensures c.args.line.now c.args.from c.requires.opens c.requires.ahead).begins

pub returns-in-Some-clause-more : goal.returns-in-Some-clause-more
returns-in-Some-clause-more c closed =
    (c.closing_quote-last.ensures c.args.line.now c.args.from c.requires.opens c.requires.ahead).more closed

pub returns-in-None-clause-none : goal.returns-in-None-clause-none
returns-in-None-clause-none c to points h =
    let e = c.closing_quote-last.ensures c.args.line.now c.args.from c.requires.opens c.requires.ahead in
    let last : h.last ≡ c.closing_quote-last.result = e.only h.last points h.body h.closes in
    c.in-None.ensures.none points (subst (λ x. SpellsBody c.args.line.now (c.args.from + 1) x points) last h.body)
