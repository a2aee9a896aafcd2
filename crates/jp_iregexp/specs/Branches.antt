-- Branches of a graph, told apart by their first scalars.
use Rattle.std.specs.Prelude.{ℕ, ◌≡◌, ◌≤◌, ◌<◌, ◌⊎◌, ◌==◌, get_or, List, Option, Some, None, length}
use Rattle.std.specs.List.{Contains}
use Rattle.jp_model.specs.Pattern.Classes.{in_class}
use Rattle.jp_iregexp.specs.declared.branches.First.{First}
use Rattle.jp_iregexp.specs.declared.class.Class.{Class}
use Rattle.jp_iregexp.specs.declared.graph.State.{State}
use Rattle.jp_iregexp.specs.declared.graph.State.TheVariants.{Scalar}
use Rattle.jp_iregexp.specs.Graphs.{AgreeFrom, Extends, LeadsFrom, LeadsIn, SomeLeads, SomeLeadsIn, node_at}
use Rattle.jp_iregexp.specs.Nodes.{class_of}

-- the branch reads this ASCII scalar alone, and goes on from this state
pub record IsFirst (states : List State) (base branch : ℕ) (first : First) : Type 0 where
  pub from : base ≤ branch
  pub ascii : first.scalar < 128
  pub class : Class
  pub is : node_at states branch ≡ Some (Scalar class first.next)
  pub only : (c : ℕ) → in_class (class_of class) c ≡ (c == first.scalar)

-- one of the branches begins so
pub record SomeFirst (states : List State) (base : ℕ) (branches : List ℕ) (first : First) : Type 0 where
  pub branch : ℕ
  pub among : Contains branches branch
  pub begins : IsFirst states base branch first

-- the branch begins as one of these
pub record BeginsAs (states : List State) (base : ℕ) (firsts : List First) (branch : ℕ) : Type 0 where
  pub first : First
  pub among : Contains firsts first
  pub begins : IsFirst states base branch first

-- the branches are told apart
pub record AreTold (states : List State) (base : ℕ) (branches : List ℕ) (firsts : List First) (others : List ℕ) : Type 0 where
  pub firsts_sound : (first : First) → Contains firsts first → SomeFirst states base branches first
  pub others_sound : (branch : ℕ) → Contains others branch → Contains branches branch
  pub complete : (branch : ℕ) → Contains branches branch → Contains others branch ⊎ BeginsAs states base firsts branch

-- the row has the states after this scalar
pub record IsRow (firsts : List First) (code : ℕ) (row : List ℕ) : Type 0 where
  pub sound : (t : ℕ) → Contains row t → Contains firsts (record { scalar = code; next = t })
  pub complete : (first : First) → Contains firsts first → first.scalar ≡ code → Contains row first.next

-- there is a state, and the text leads from it to the end
pub record FoundLeads (states : List State) (found : Option ℕ) (text : List ℕ) : Type 0 where
  pub number : ℕ
  pub is : found ≡ Some number
  pub leads : LeadsFrom states number text

-- from the state that was found, if any, a text leads to the end as from one of the row
pub record LeadsAsRow (states : List State) (row : List ℕ) (found : Option ℕ) : Type 0 where
  pub sound : (k n : ℕ) (text : List ℕ) → found ≡ Some k → LeadsIn states n k text → SomeLeadsIn states row n text
  pub complete : (text : List ℕ) → SomeLeads states row text → FoundLeads states found text

-- states were added that lead as the row
pub record AddsNext (base : ℕ) (old new : List State) (row : List ℕ) (found : Option ℕ) : Type 0 where
  pub extends : Extends old new
  pub laid : (all : List State) → 0 < base → AgreeFrom base new all → LeadsAsRow all row found

-- a state after this scalar, from which the text leads to the end in at most a number of steps
pub record FirstLeadsIn (states : List State) (firsts : List First) (c most : ℕ) (text : List ℕ) : Type 0 where
  pub next : ℕ
  pub among : Contains firsts (record { scalar = c; next = next })
  pub steps : ℕ
  pub few : steps ≤ most
  pub run : LeadsIn states steps next text

-- from the state that was found, if any, a text leads to the end as from one of those after the scalar
pub record LeadsAsFirsts (states : List State) (firsts : List First) (c : ℕ) (found : Option ℕ) : Type 0 where
  pub sound : (k n : ℕ) (text : List ℕ) → found ≡ Some k → LeadsIn states n k text → FirstLeadsIn states firsts c n text
  pub complete : (first : First) (text : List ℕ) → Contains firsts first → first.scalar ≡ c → LeadsFrom states first.next text → FoundLeads states found text

-- states were added that lead so, by the scalars below a bound
pub record AddsNexts (base : ℕ) (old new : List State) (firsts : List First) (nexts : List (Option ℕ)) (count : ℕ) : Type 0 where
  pub extends : Extends old new
  pub size : length nexts ≡ count
  pub laid : (all : List State) → 0 < base → AgreeFrom base new all → (c : ℕ) → c < count → LeadsAsFirsts all firsts c (get_or nexts c None)
