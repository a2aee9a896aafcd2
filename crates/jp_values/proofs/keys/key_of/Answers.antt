use Rattle.std.proofs.Common.{◌∙◌, sym, ap, List, ℕ}
use Rattle.jp_model.specs.Json.Tree.{value_of, string}
use Rattle.jp_strings.specs.Points.{points_of}
use Rattle.jp_nodes.specs.Cursors.{node_of}
use Rattle.jp_nodes.proofs.Contents.{text_is}
use Rattle.jp_values.proofs.keys.key_of.Goals as goal

pub returns-in_ok-unescape-in-Some-text : goal.returns-in_ok-unescape-in-Some-text
returns-in_ok-unescape-in-Some-text c =
    let body = c.in-Some-text.body.now in
    text_is (value_of (node_of c.args.cursor).tree) (points_of body) (sym c.in-Some-text.ensures.points) ∙ ap (λ (p : List ℕ). string p) (sym c.in_ok-unescape-in-Some-text.ensures)
