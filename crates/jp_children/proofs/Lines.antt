-- A cursor that may be there is of the line of another.
use Rattle.std.proofs.Common.{◌≡◌, ◌∙◌, ℕ, List, subst, Option, Some, None}
use Rattle.std.specs.Prelude.{IfSome}
use Rattle.jp_nodes.specs.declared.cursor.Cursor.{Cursor}
use Rattle.jp_nodes.specs.Cursors.{line_of}

-- the next child is of the same line
pub line_on : (r : Option Cursor) (a b : List ℕ) → IfSome r (λ c. line_of c ≡ a) → a ≡ b → IfSome r (λ c. line_of c ≡ b)
line_on None a b h e = tt
line_on (Some c) a b h e = h ∙ e

pub line_of_some : (r : Option Cursor) (c : Cursor) (a : List ℕ) → r ≡ Some c → IfSome r (λ c. line_of c ≡ a) → line_of c ≡ a
line_of_some r c a e h = subst (λ (o : Option Cursor). IfSome o (λ d. line_of d ≡ a)) e h
