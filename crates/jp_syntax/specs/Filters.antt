-- The query of one filter, and the text of a logical expression that stands alone (RFC 9535, section 2.3.5).
use Rattle.std.specs.Prelude.{ℕ, List, [], ◌∷◌, ◌++◌}
use Rattle.jp_model.specs.Query.Status.{TextSpells}
use Rattle.jp_model.specs.Query.Syntax.{Segments, no_segments, segment, child_segment, filter_selector, no_selectors, selector, Logical}

-- the query of one segment with one filter selector (sections 2.3.5 and 2.5.1)
abbrev pub filter_by : Logical → Segments
filter_by l = segment (child_segment (selector (filter_selector l) no_selectors)) no_segments

-- a text between `$[?` and `]`
abbrev pub in_filter : List ℕ → List ℕ
in_filter text = 0x24 ∷ 0x5B ∷ 0x3F ∷ (text ++ 0x5D ∷ [])

-- the text spells the expression: it may stand so in a query of one filter, blanks around it allowed
abbrev pub SpellsCondition : List ℕ → Logical → Type 0
SpellsCondition text l = TextSpells (in_filter text) (filter_by l)
