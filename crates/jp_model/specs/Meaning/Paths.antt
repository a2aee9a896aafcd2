-- Normalized paths (RFC 9535, section 2.7), and literals and operators as they are printed.
use Rattle.std.specs.Prelude.{ℕ, ◌/◌, ◌%◌, ◌+◌, List, [], ◌∷◌, ◌++◌, flat_map, ◌==◌, nat_lt, if◌then◌else◌, codes, encode_utf8_all}
use Rattle.std.specs.Fmt.{signed_decimal}
use Rattle.jp_model.specs.Steps.{Step, name_step, index_step}
use Rattle.jp_model.specs.Query.Syntax.{CompareOp, equal, not_equal, less, less_equal, greater, greater_equal, Literal, null_literal, false_literal, true_literal, number_literal, string_literal}

-- normal-HEXDIG (section 2.7)
abbrev pub hex_digit : ℕ → ℕ
hex_digit n = if nat_lt n 10 then 48 + n else 87 + n

-- normal-single-quoted: one scalar of a name between single quotes (section 2.7)
abbrev pub name_scalar : ℕ → List ℕ
name_scalar c =
    if c == 8 then codes "\\b" else if c == 9 then codes "\\t" else if c == 10 then codes "\\n"
    else if c == 12 then codes "\\f" else if c == 13 then codes "\\r" else if c == 39 then codes "\\'"
    else if c == 92 then codes "\\\\"
    else if nat_lt c 32 then codes "\\u00" ++ hex_digit (c / 16) ∷ hex_digit (c % 16) ∷ []
    else c ∷ []

-- normal-name-selector: a name, or a string, between single quotes (section 2.7)
abbrev pub quoted : List ℕ → List ℕ
quoted x = codes "'" ++ flat_map name_scalar x ++ codes "'"

-- normal-index-segment (section 2.7)
abbrev pub step_text : Step → List ℕ
step_text (name_step x) = codes "[" ++ quoted x ++ codes "]"
step_text (index_step i) = codes "[" ++ signed_decimal i ++ codes "]"

-- the scalars of some steps
abbrev pub steps_text : List Step → List ℕ
steps_text = flat_map step_text

-- the bytes of a normalized path (section 2.7), and of an index path, whose indexes may be negative (profile)
abbrev pub path_text : List Step → List ℕ
path_text steps = encode_utf8_all (codes "$" ++ steps_text steps)

-- a literal as a plan prints it (profile)
abbrev pub literal_text : Literal → List ℕ
literal_text null_literal = codes "null"
literal_text false_literal = codes "false"
literal_text true_literal = codes "true"
literal_text (number_literal x) = x
literal_text (string_literal x) = quoted x

-- comparison-op (section 2.3.5.1)
abbrev pub op_text : CompareOp → List ℕ
op_text equal = codes "=="
op_text not_equal = codes "!="
op_text less = codes "<"
op_text less_equal = codes "<="
op_text greater = codes ">"
op_text greater_equal = codes ">="
