-- What a limit of a query asks of its parts.
use Rattle.std.specs.Prelude.{true, is_some}
use Rattle.jp_model.specs.Query.Limits.{Tests, is_exact, literal_small}
use Rattle.jp_model.specs.Query.Typing.{signature_of}
use Rattle.jp_types.specs.declared.limits.Limit.{Limit}
use Rattle.jp_types.specs.declared.limits.Limit.TheVariants as limits

-- each integer of a selector is exact, no number literal has a long exponent, or each function is one of the five
abbrev pub limit_tests : Limit → Tests
limit_tests limits.Integers = record { integer = is_exact; literal = λ c. true; function = λ f. true }
limit_tests limits.Exponents = record { integer = λ i. true; literal = literal_small; function = λ f. true }
limit_tests limits.Functions = record { integer = λ i. true; literal = λ c. true; function = λ f. is_some (signature_of f) }
