-- The text between two quotes, from what was read of it.
use Rattle.std.proofs.Common.{◌≡◌, ℕ, List, Some, None, refl}
use Rattle.jp_query.specs.Reading.Scalars.{after, all_of}
use Rattle.jp_query.specs.Reading.Strings.{next_scalar, between_quotes}

module _ (quote : ℕ) (x : List ℕ) where
  pub is_refused : all_of (next_scalar quote) x ≡ None → between_quotes quote x ≡ None
  unfolding between_quotes
  is_refused h = rw h refl

  pub is_open : (s y : List ℕ) → all_of (next_scalar quote) x ≡ Some (s, y) → after quote y ≡ None → between_quotes quote x ≡ None
  unfolding between_quotes
  is_open s y h e = rw (h, e) refl

  pub is_closed : (s y z : List ℕ) → all_of (next_scalar quote) x ≡ Some (s, y) → after quote y ≡ Some z → between_quotes quote x ≡ Some (s, z)
  unfolding between_quotes
  is_closed s y z h e = rw (h, e) refl
