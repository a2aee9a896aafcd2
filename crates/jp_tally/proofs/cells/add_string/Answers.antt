-- The text of a string has its characters.
use Rattle.std.proofs.Common.{◌≡◌, ap, sym, subst, ◌++◌, ◌∷◌, [], ◌∙◌, OnOk, encode_utf8_all, chars}
use Rattle.std.proofs.lemmas.Str.{encodes-chars}
use Rattle.jp_strings.specs.Points.{points_of}
use Rattle.jp_table.specs.Cells.{text_cell}
use Rattle.jp_table.specs.Held.{Holds}
use Rattle.jp_tally.proofs.cells.add_string.Goals as goal

pub returns : goal.returns
returns c cells held =
    let bytes = c.as_bytes.result.now in
    let is : bytes ≡ encode_utf8_all (points_of c.args.body.now) =
    sym (encodes-chars bytes c.as_bytes.ensures.utf8) ∙ ap (λ text. encode_utf8_all (chars text)) (c.as_bytes.ensures.value ∙ c.as_str.ensures.value) ∙ ap encode_utf8_all c.in_ok-text.ensures in
    subst (λ text. OnOk c.add.result (Holds c.args.table c.add.new.self (cells ++ text_cell text ∷ []))) is (c.add.ensures cells held)
