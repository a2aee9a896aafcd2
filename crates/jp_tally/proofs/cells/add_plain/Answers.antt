-- A string is added by its characters, and any other value by its text.
use Rattle.std.proofs.Common.{◌≡◌, ap, sym, subst, ◌++◌, ◌∷◌, [], if◌then◌else◌, ◌∙◌, OnOk, encode_utf8_all}
use Rattle.jp_strings.specs.Points.{points_of}
use Rattle.jp_table.specs.Cells.{Cell, text_cell}
use Rattle.jp_table.specs.Held.{Holds}
use Rattle.jp_tally.specs.Texts.{body_in, other_kind, plain_cell}
use Rattle.jp_tally.proofs.cells.add_plain.Goals as goal

pub returns-in-Some : goal.returns-in-Some
returns-in-Some c cells held =
    let text = c.args.text.now in
    let by_body : plain_cell text ≡ text_cell (encode_utf8_all (points_of c.in-Some.body.now)) =
    ap (λ t. if t then text_cell (encode_utf8_all (points_of (body_in text))) else record { kind = other_kind text; text = text }) (sym c.in-Some.ensures.is)
    ∙ ap (λ b. text_cell (encode_utf8_all (points_of b))) (sym c.in-Some.ensures.body) in
    subst (λ (cell : Cell). OnOk c.add_string.result (Holds c.args.table c.add_string.new.row (cells ++ cell ∷ []))) (sym by_body) (c.add_string.ensures cells held)

pub returns-in-None : goal.returns-in-None
returns-in-None c cells held =
    let text = c.args.text.now in
    let other : plain_cell text ≡ record { kind = c.other_kind.result; text = text } =
    ap (λ t. if t then text_cell (encode_utf8_all (points_of (body_in text))) else record { kind = other_kind text; text = text }) (sym c.in-None.ensures.is)
    ∙ ap (λ k. record { kind = k; text = text }) (sym c.other_kind.ensures) in
    subst (λ (cell : Cell). OnOk c.add.result (Holds c.args.table c.add.new.self (cells ++ cell ∷ []))) (sym other) (c.add.ensures cells held)
