-- Canonical texts are equal exactly where values are.
use Rattle.std.proofs.Common.{◌∙◌, ap}
use Rattle.jp_canon.specs.Canonical.{value_text}
use Rattle.jp_model.specs.Json.Tree.{value_of}
use Rattle.jp_listed.specs.Slots.{has_text}
use Rattle.jp_listed.proofs.Equal.{equal_among}
use Rattle.jp_listed.proofs.listed.Listed.of_lines.Goals as goal

pub returns-clause-values : goal.returns-clause-values
returns-clause-values c = λ values all is t line n within.
    c.in_ok-texts.ensures (value_text (value_of n.tree)) ∙ ap (λ lines. has_text lines (value_text (value_of n.tree))) is
    ∙ equal_among c.canonical_texts_are_equal_where_values_are.ensures.nodes t line n within values all
