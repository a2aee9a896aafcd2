-- Sides of comparisons whose values are related compare alike where the values do.
use Rattle.std.proofs.Common.{◌≡◌, Option, Some, None, refl}
use Rattle.jp_model.specs.Json.Tree.{Value}
use Rattle.jp_model.specs.Meaning.Compare.{compared, both_equal, is_less, values_equal, value_less}
use Rattle.jp_model.specs.Query.Syntax.{CompareOp}
use Rattle.jp_laws.proofs.NumberOrder.{compared_alike}

module _ (Related : Value → Value → Type 0) where
  -- both are Nothing, or values that are related
  abbrev pub Sides : Option Value → Option Value → Type 0
  Sides None None = Unit {0}
  Sides (Some v) (Some w) = Related v w
  Sides _ _ = ⊥

  module _ (equal : (x y v w : Value) → Related x y → Related v w → values_equal x v ≡ values_equal y w) (less : (x y v w : Value) → Related x y → Related v w → value_less x v ≡ value_less y w) where
    sides_equal : (x y v w : Option Value) → Sides x y → Sides v w → both_equal x v ≡ both_equal y w
    sides_equal (Some x) (Some y) (Some v) (Some w) a b = equal x y v w a b
    sides_equal (Some x) (Some y) None None a b = refl
    sides_equal None None (Some v) (Some w) a b = refl
    sides_equal None None None None a b = refl
    sides_equal (Some x) None v w a b = absurd a
    sides_equal None (Some y) v w a b = absurd a
    sides_equal (Some x) (Some y) (Some v) None a b = absurd b
    sides_equal (Some x) (Some y) None (Some w) a b = absurd b
    sides_equal None None (Some v) None a b = absurd b
    sides_equal None None None (Some w) a b = absurd b

    sides_less : (x y v w : Option Value) → Sides x y → Sides v w → is_less x v ≡ is_less y w
    sides_less (Some x) (Some y) (Some v) (Some w) a b = less x y v w a b
    sides_less (Some x) (Some y) None None a b = refl
    sides_less None None v w a b = refl
    sides_less (Some x) None v w a b = absurd a
    sides_less None (Some y) v w a b = absurd a
    sides_less (Some x) (Some y) (Some v) None a b = absurd b
    sides_less (Some x) (Some y) None (Some w) a b = absurd b

    pub sides_compared : (op : CompareOp) (x y v w : Option Value) → Sides x y → Sides v w → compared op x v ≡ compared op y w
    sides_compared op x y v w a b = compared_alike op x v y w (sides_equal x y v w a b) (sides_less x y v w a b) (sides_less v w x y b a)
