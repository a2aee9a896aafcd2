-- The string spells the pattern of its scalars.
use Rattle.std.proofs.Common.{◌≡◌, ◌∙◌, List, ℕ, Option, Some, sym, ap, subst}
use Rattle.std.specs.Prelude.{IfOk, option_map}
use Rattle.std.specs.Str.{chars}
use Rattle.jp_model.specs.Json.Tree.{Value, null, boolean, number, string, container, value_of}
use Rattle.jp_model.specs.Pattern.Tree.{Pattern}
use Rattle.jp_model.specs.Pattern.Reading.{pattern_of}
use Rattle.jp_strings.specs.Points.{points_of}
use Rattle.jp_nodes.specs.Contents.{text_in}
use Rattle.jp_nodes.specs.Cursors.{node_of}
use Rattle.jp_values.specs.declared.value.Value.{Value as Side}
use Rattle.jp_eval.specs.Functions.{pattern_in}
use Rattle.jp_iregexp.specs.Trees.{pattern_view}
use Rattle.jp_values.specs.Values.{value_view}
use Rattle.jp_eval.proofs.functions.read_pattern.Goals as goal

pattern_of_text : (v : Value) (p : List ℕ) → Some p ≡ text_in v → pattern_of p ≡ pattern_in (Some v)
pattern_of_text null p e = absurd (cc)
pattern_of_text (boolean b) p e = absurd (cc)
pattern_of_text (number m f) p e = absurd (cc)
pattern_of_text (string x) p e = let same : p ≡ x = cc in ap pattern_of same
pattern_of_text (container kind children) p e = absurd (cc)

pub returns-in_ok-unescape-in-Some : goal.returns-in_ok-unescape-in-Some
returns-in_ok-unescape-in-Some c =
    let v : Value = value_of (node_of c.in-Node.node).tree in
    let points : List ℕ = points_of c.in-Some.body.now in
    let same : pattern_of (chars c.as_str.result.now) ≡ pattern_in (value_view c.args.value) =
    ap pattern_of (ap chars c.as_str.ensures.value ∙ c.in_ok-unescape-in-Some.ensures)
    ∙ (pattern_of_text v points c.in-Some.ensures.points ∙ sym (ap (λ (x : Side). pattern_in (value_view x)) c.in-Node.is)) in
    subst (λ (o : Option Pattern). IfOk c.parse.result (λ found. option_map pattern_view found ≡ o)) same c.parse.ensures
