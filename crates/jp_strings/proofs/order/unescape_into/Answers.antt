use Rattle.std.proofs.Common.{◌≡◌, ◌∙◌, ◌++◌, List, [], ℕ, true, ap, chars}
use lib.Utf8.{scalars}
use Rattle.std.specs.String.{string_bytes}
use Rattle.std.specs.Str.{encode_utf8_all}
use Rattle.std.proofs.lemmas.Result.{on_ok_weaker}
use Rattle.std.proofs.lemmas.Str.{chars-encodes}
use Rattle.jp_strings.specs.Points.{points_of}
use Rattle.jp_strings.proofs.Sizes.{points_are_scalars}
use Rattle.jp_strings.proofs.order.unescape_into.Goals as goal

text_of : (after points : List ℕ) → scalars points ≡ true → after ≡ [] ++ encode_utf8_all points → chars after ≡ points
text_of after points s e = ap chars e ∙ chars-encodes points s

pub returns : goal.returns
returns c =
    let points = points_of c.args.body.now in
    let after = string_bytes c.add_unescaped.new.text in
    on_ok_weaker {P = after ≡ string_bytes c.clear.new.self ++ encode_utf8_all points} {Q = chars after ≡ points} c.add_unescaped.result
    (λ e. text_of after points (points_are_scalars c.args.body.now c.requires) (e ∙ ap (λ (xs : List ℕ). xs ++ encode_utf8_all points) c.clear.ensures.bytes)) c.add_unescaped.ensures
