use Rattle.std.proofs.Common.{◌≡◌, subst, sym, ◌∙◌, ap, Some, is_some, true, false}
use Rattle.std.specs.Char as char
use Rattle.jp_model.specs.Json.Reader.{character_at}
use Rattle.jp_model.specs.Characters.{is_high_surrogate, pair_value}
use Rattle.jp_strings.specs.Points.{GoesOn}
use Rattle.jp_strings.proofs.Texts.{has_character, next_single, next_pair, second_half, single_in_range, pair_in_range, some_value}
use Rattle.jp_strings.proofs.scalars.escaped_scalar_at.Goals as goal

pub unwrap-unit-requires : goal.unwrap-unit-requires
unwrap-unit-requires c = let h = has_character c.args.body.now c.args.at c.requires.text c.requires.inside in ap is_some (c.read_escape.ensures ∙ h.1)

pub read_escape-requires-then-is_high_surrogate : goal.read_escape-requires-then-is_high_surrogate
read_escape-requires-then-is_high_surrogate c =
    let unit : character_at c.args.body.now c.args.at ≡ Some c.unwrap-unit.result = sym c.read_escape.ensures ∙ c.unwrap-unit.ensures in
    let high : is_high_surrogate c.unwrap-unit.result.0 ≡ true = sym c.is_high_surrogate.ensures ∙ c.if-is_high_surrogate.true in
    (next_pair c.args.body.now c.args.at c.unwrap-unit.result.0 c.unwrap-unit.result.1 c.requires.text c.requires.inside unit high).2.backslash

pub unwrap-low-requires : goal.unwrap-low-requires
unwrap-low-requires c =
    let unit : character_at c.args.body.now c.args.at ≡ Some c.unwrap-unit.result = sym c.read_escape.ensures ∙ c.unwrap-unit.ensures in
    let high : is_high_surrogate c.unwrap-unit.result.0 ≡ true = sym c.is_high_surrogate.ensures ∙ c.if-is_high_surrogate.true in
    let pair = next_pair c.args.body.now c.args.at c.unwrap-unit.result.0 c.unwrap-unit.result.1 c.requires.text c.requires.inside unit high in
    ap is_some (c.read_escape-then-is_high_surrogate.ensures ∙ pair.2.character)

pub pair_value-requires-clause-low : goal.pair_value-requires-clause-low
pair_value-requires-clause-low c =
    let unit : character_at c.args.body.now c.args.at ≡ Some c.unwrap-unit.result = sym c.read_escape.ensures ∙ c.unwrap-unit.ensures in
    let high : is_high_surrogate c.unwrap-unit.result.0 ≡ true = sym c.is_high_surrogate.ensures ∙ c.if-is_high_surrogate.true in
    (second_half c.args.body.now c.args.at c.unwrap-unit.result.0 c.unwrap-unit.result.1 c.unwrap-low.result c.requires.text c.requires.inside unit high
    (sym c.read_escape-then-is_high_surrogate.ensures ∙ c.unwrap-low.ensures)).is_low

pub unwrap-requires : goal.unwrap-requires
unwrap-requires c =
    let unit : character_at c.args.body.now c.args.at ≡ Some c.unwrap-unit.result = sym c.read_escape.ensures ∙ c.unwrap-unit.ensures in
    let high : is_high_surrogate c.unwrap-unit.result.0 ≡ true = sym c.is_high_surrogate.ensures ∙ c.if-is_high_surrogate.true in
    let second = second_half c.args.body.now c.args.at c.unwrap-unit.result.0 c.unwrap-unit.result.1 c.unwrap-low.result c.requires.text c.requires.inside unit high (sym c.read_escape-then-is_high_surrogate.ensures ∙ c.unwrap-low.ensures) in
    c.from_u32.ensures.succeeds (subst char.InScalarRange (sym c.pair_value.ensures) (pair_in_range c.unwrap-unit.result.0 c.unwrap-low.result.0 high second.is_low))

pub unwrap-requires-else-is_high_surrogate : goal.unwrap-requires-else-is_high_surrogate
unwrap-requires-else-is_high_surrogate c =
    let unit : character_at c.args.body.now c.args.at ≡ Some c.unwrap-unit.result = sym c.read_escape.ensures ∙ c.unwrap-unit.ensures in
    let single : is_high_surrogate c.unwrap-unit.result.0 ≡ false = sym c.is_high_surrogate.ensures ∙ c.if-is_high_surrogate.false in
    let next = next_single c.args.body.now c.args.at c.unwrap-unit.result.0 c.unwrap-unit.result.1 c.requires.text c.requires.inside unit single in
    c.from_u32-else-is_high_surrogate.ensures.succeeds (single_in_range c.args.body.now c.args.at c.unwrap-unit.result.0 c.unwrap-unit.result.1 unit next.whole)

pub returns-then-is_high_surrogate : goal.returns-then-is_high_surrogate
returns-then-is_high_surrogate c =
    let unit : character_at c.args.body.now c.args.at ≡ Some c.unwrap-unit.result = sym c.read_escape.ensures ∙ c.unwrap-unit.ensures in
    let high : is_high_surrogate c.unwrap-unit.result.0 ≡ true = sym c.is_high_surrogate.ensures ∙ c.if-is_high_surrogate.true in
    let second = second_half c.args.body.now c.args.at c.unwrap-unit.result.0 c.unwrap-unit.result.1 c.unwrap-low.result c.requires.text c.requires.inside unit high (sym c.read_escape-then-is_high_surrogate.ensures ∙ c.unwrap-low.ensures) in
    let value : c.unwrap.result ≡ pair_value c.unwrap-unit.result.0 c.unwrap-low.result.0 = some_value _ _ _ _ c.from_u32.ensures.value c.unwrap.ensures ∙ c.pair_value.ensures in
    subst (λ x. GoesOn c.args.body.now c.args.at x c.unwrap-low.result.1) (sym value) second.goes_on

pub returns-else-is_high_surrogate : goal.returns-else-is_high_surrogate
returns-else-is_high_surrogate c =
    let unit : character_at c.args.body.now c.args.at ≡ Some c.unwrap-unit.result = sym c.read_escape.ensures ∙ c.unwrap-unit.ensures in
    let single : is_high_surrogate c.unwrap-unit.result.0 ≡ false = sym c.is_high_surrogate.ensures ∙ c.if-is_high_surrogate.false in
    let next = next_single c.args.body.now c.args.at c.unwrap-unit.result.0 c.unwrap-unit.result.1 c.requires.text c.requires.inside unit single in
    subst (λ x. GoesOn c.args.body.now c.args.at x c.unwrap-unit.result.1) (sym (some_value _ _ _ _ c.from_u32-else-is_high_surrogate.ensures.value c.unwrap-else-is_high_surrogate.ensures)) next.goes_on
