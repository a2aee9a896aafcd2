use Rattle.std.proofs.Common.{◌+◌, subst, sym}
use Rattle.jp_strings.specs.Points.{GoesOn}
use Rattle.jp_strings.proofs.Texts.{plain_goes_on}
use Rattle.jp_strings.proofs.Utf8.{text_utf8}
use Rattle.jp_strings.proofs.scalars.plain_scalar_at.Goals as goal

pub char_at-scalar-requires-clause-utf8 : goal.char_at-scalar-requires-clause-utf8
char_at-scalar-requires-clause-utf8 c = text_utf8 c.args.body.now c.args.at c.requires.text

pub returns : goal.returns
returns c =
    subst (λ n. GoesOn c.args.body.now c.args.at c.char_at-scalar.result (c.args.at + n)) (sym c.len_utf8.ensures.len)
    (plain_goes_on c.args.body.now c.args.at c.char_at-scalar.result c.char_at-scalar.ensures.0 c.requires.text c.requires.inside c.requires.plain c.char_at-scalar.ensures.1)
