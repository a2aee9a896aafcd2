-- Queries that a text within the limits spells.
use Rattle.std.specs.Prelude.{◌≡◌, ℕ, List, true, IsFalse}
use Rattle.jp_model.specs.Query.Limits.{is_oversized, has_exact_integers, has_small_exponents}
use Rattle.jp_model.specs.Query.Status.{TextSpells}
use Rattle.jp_model.specs.Query.Syntax.{Segments}

-- a text spells the query, and neither is past a limit (RFC 9535, section 2.1; profile)
pub record IsWellFormed (q : Segments) : Type 0 where
  pub text : List ℕ
  pub sized : IsFalse (is_oversized text)
  pub spelled : TextSpells text q
  pub exact : has_exact_integers q ≡ true
  pub small : has_small_exponents q ≡ true
