-- Expressions and their literals.
use Rattle.std.specs.Prelude.{Bool, true, false, not}
use Rattle.jp_model.specs.Json.Tree.{Tree}
use Rattle.jp_model.specs.Meaning.Nodes.{Node}
use Rattle.jp_model.specs.Meaning.Selecting.{some_true, each_true}
use Rattle.jp_model.specs.Query.Limits.{Tests}
use Rattle.jp_model.specs.Query.Syntax.{Logicals, Selector, filter_selector}
use Rattle.jp_syntax.specs.Sound.{is_sound}

-- each literal can be read
abbrev pub readable : Tests
readable = record { integer = λ i. true; literal = is_sound; function = λ f. true }

-- each part is true, or each is false
abbrev pub all_are : Bool → Logicals → Node → Tree → Bool
all_are true ls n t = each_true ls n t
all_are false ls n t = not (some_true ls n t)

-- whether a selector is a filter (RFC 9535, section 2.3.5)
abbrev pub is_filter : Selector → Bool
is_filter (filter_selector l) = true
is_filter _ = false
