use Rattle.std.proofs.Common.{rules, ◌≡◌, ◌∙◌, sym, ap, ◌+◌, Some, None}
use Rattle.jp_model.specs.Json.Places.{byte_at}
use Rattle.jp_strings.proofs.Escapes.{unicode_escape_at, short_escape_at}
use Rattle.jp_model.specs.Json.Strings.{short_escape}
use Rattle.jp_strings.proofs.escape.read_escape.Goals as goal

pub returns-in_err-unit : goal.returns-in_err-unit
returns-in_err-unit c =
    let letter : byte_at c.args.body.now (c.args.at + 1) ≡ 0x75 = search rules in
    c.from_residual-in_err-unit.ensures ∙ unicode_escape_at c.args.body.now c.args.at None c.requires letter c.in_err-unit.ensures

pub returns-then-letter-eq117 : goal.returns-then-letter-eq117
returns-then-letter-eq117 c =
    let letter : byte_at c.args.body.now (c.args.at + 1) ≡ 0x75 = search rules in
    unicode_escape_at c.args.body.now c.args.at (Some c.in_ok-unit.unit) c.requires letter c.in_ok-unit.ensures

pub returns-in_err-unit-2 : goal.returns-in_err-unit-2
returns-in_err-unit-2 c =
    let letter : byte_at c.args.body.now (c.args.at + 1) ≡ c.in_ok-letter.field-0.now = search rules in
    c.from_residual-in_err-unit-2.ensures
    ∙ short_escape_at c.args.body.now c.args.at None c.requires (λ e. c.if-letter-eq117.false (sym letter ∙ e)) (c.in_err-unit-2.ensures ∙ ap short_escape (sym letter))

pub returns : goal.returns
returns c =
    let letter : byte_at c.args.body.now (c.args.at + 1) ≡ c.in_ok-letter.field-0.now = search rules in
    short_escape_at c.args.body.now c.args.at (Some c.in_ok-unit-2.unit) c.requires (λ e. c.if-letter-eq117.false (sym letter ∙ e)) (c.in_ok-unit-2.ensures ∙ ap short_escape (sym letter))
