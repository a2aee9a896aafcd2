use Rattle.std.proofs.Common.{◌∙◌, ap₂, sym}
use Rattle.jp_model.specs.Meaning.Compare.{is_less}
use Rattle.jp_values.specs.declared.scalar.Scalar.{Scalar}
use Rattle.jp_values.specs.Scalars.{scalar_view, text_points}
use Rattle.jp_values.proofs.Leaves.{text_less_is}
use Rattle.jp_values.proofs.scalar.Scalar.is_less.Goals as goal

pub returns-in-Text-Text : goal.returns-in-Text-Text
returns-in-Text-Text c =
    let d = c.in-Text-Text in
    c.is_lt-in-Text-Text.ensures ∙ (text_less_is (text_points d.text) (text_points d.other) _ c.compare-in-Text-Text.ensures
    ∙ sym (ap₂ (λ (x y : Scalar). is_less (scalar_view x) (scalar_view y)) d.is-0 d.is-1))
