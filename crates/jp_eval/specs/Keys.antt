-- What selects one child.
use Rattle.std.specs.Prelude.{List, map, chars, string_bytes}
use Rattle.jp_model.specs.Query.Singular.{step_selector}
use Rattle.jp_model.specs.Query.Syntax.{Segment, Segments, child_segment, no_selectors, selector}
use Rattle.jp_model.specs.Steps as model
use Rattle.jp_syntax.specs.View.{segments_of}
use Rattle.jp_eval.specs.declared.question.Key.{Key}
use Rattle.jp_eval.specs.declared.question.Key.TheVariants as keys

-- a name as its scalars, or an index (RFC 9535, section 2.3.5.1)
abbrev pub key_view : Key → model.Step
key_view (keys.Name x) = model.name_step (chars (string_bytes x.text))
key_view (keys.Index i) = model.index_step i

-- the segment that it is the only selector of
abbrev pub key_segment : Key → Segment
key_segment key = child_segment (selector (step_selector (key_view key)) no_selectors)

-- a singular query
abbrev pub keys_view : List Key → Segments
keys_view all = segments_of (map key_segment all)
