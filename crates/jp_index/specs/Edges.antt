-- Where the keys that compare so with a key begin and end, in the order of keys.
use Rattle.std.specs.Prelude.{Bool, true, nat_lt, nat_le, not, ◌&&◌, Option, Some, None}
use Rattle.std.specs.Ordering.{is_lt, is_le}
use Rattle.jp_model.specs.Query.Syntax.{CompareOp, less, less_equal, greater, greater_equal}
use Rattle.jp_values.specs.Keys.{key_order, key_rank}
use Rattle.jp_values.specs.declared.key.Key.{Key}
use Rattle.jp_index.specs.declared.edge.Edge.{Edge}
use Rattle.jp_index.specs.declared.edge.Edge.TheVariants.{BeforeKey, BehindKey, BeforeKind, BehindKind}

-- a key stands in front of an edge of another: before the keys that equal it, after them, before the keys of its kind, after
-- them
abbrev pub key_in_front : Edge → Key → Key → Bool
key_in_front BeforeKey k other = is_lt (key_order k other)
key_in_front BehindKey k other = is_le (key_order k other)
key_in_front BeforeKind k other = nat_lt (key_rank k) (key_rank other)
key_in_front BehindKind k other = nat_le (key_rank k) (key_rank other)

-- where there is no key, it stands in front of all
abbrev pub in_front : Edge → Option Key → Key → Bool
in_front edge None other = true
in_front edge (Some k) other = key_in_front edge k other

-- the keys that compare so stand between these; all are of the other key's kind
abbrev pub start_of : CompareOp → Edge
start_of less = BeforeKind
start_of less_equal = BeforeKind
start_of greater = BehindKey
start_of op = BeforeKey

-- where they end
abbrev pub end_of : CompareOp → Edge
end_of less = BeforeKey
end_of greater = BehindKind
end_of greater_equal = BehindKind
end_of op = BehindKey

-- the key is there, and stands between them
abbrev pub is_between : CompareOp → Option Key → Key → Bool
is_between op k other = not (in_front (start_of op) k other) && in_front (end_of op) k other
