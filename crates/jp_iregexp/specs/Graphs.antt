-- A pattern as a graph of states: a text leads from state to state to the end, which is state 0.
use Rattle.std.specs.Prelude.{ℕ, zero, suc, ◌≡◌, ◌≤◌, ◌<◌, ◌⊎◌, ◌↔◌, if◌then◌else◌, get_or, List, [], ◌∷◌, ◌++◌, Option, Some, None, length}
use Rattle.std.specs.List.{Contains}
use Rattle.jp_model.specs.Pattern.Tree.{Pattern}
use Rattle.jp_model.specs.Pattern.Classes.{in_class}
use Rattle.jp_model.specs.Pattern.Language.{Language, Splits}
use Rattle.jp_iregexp.specs.declared.graph.State.{State}
use Rattle.jp_iregexp.specs.declared.graph.State.TheVariants.{Scalar, Fan, Switch}
use Rattle.jp_iregexp.specs.Nodes.{class_of}

-- the state with this number
abbrev pub node_at : List State → ℕ → Option State
node_at [] s = None
node_at (w ∷ ws) zero = Some w
node_at (w ∷ ws) (suc s) = node_at ws s

-- the states that are led to without a scalar
abbrev pub free_of : State → List ℕ
free_of (Scalar class next) = []
free_of (Fan targets) = targets.items
free_of (Switch rows) = []

-- the state after a scalar
abbrev pub behind_of : State → ℕ → Option ℕ
behind_of (Scalar class next) c = if in_class (class_of class) c then Some next else None
behind_of (Fan targets) c = None
behind_of (Switch rows) c = get_or rows.items c None

-- the state leads to these without a scalar, and nowhere by a scalar
pub record IsFan (state : State) (targets : List ℕ) : Type 0 where
  pub free : free_of state ≡ targets
  pub behind : (c : ℕ) → behind_of state c ≡ None

-- one of the states that are led to without a scalar leads on
pub record Frees (state : State) (Rest : ℕ → Type 0) : Type 0 where
  pub target : ℕ
  pub among : Contains (free_of state) target
  pub rest : Rest target

-- the state after the first scalar leads on
pub record Reads (state : State) (Rest : ℕ → List ℕ → Type 0) (text : List ℕ) : Type 0 where
  pub scalar : ℕ
  pub behind : List ℕ
  pub is : text ≡ scalar ∷ behind
  pub next : ℕ
  pub to : behind_of state scalar ≡ Some next
  pub rest : Rest next behind

-- a step from the state, if there is one, and what comes after it
abbrev pub Goes : Option State → (ℕ → List ℕ → Type 0) → List ℕ → Type 0
Goes None Rest text = ⊥
Goes (Some state) Rest text = Frees state (λ target. Rest target text) ⊎ Reads state Rest text

-- from the state the text leads to the end in a number of steps
abbrev pub LeadsIn : List State → ℕ → ℕ → List ℕ → Type 0
LeadsIn states zero s text = (s ≡ 0) × (text ≡ [])
LeadsIn states (suc n) s text = Goes (node_at states s) (λ t rest. LeadsIn states n t rest) text

-- from the state the text leads to the end
pub record LeadsFrom (states : List State) (s : ℕ) (text : List ℕ) : Type 0 where
  pub steps : ℕ
  pub run : LeadsIn states steps s text

-- from one of the states the text leads to the end
pub record SomeLeads (states : List State) (list : List ℕ) (text : List ℕ) : Type 0 where
  pub number : ℕ
  pub among : Contains list number
  pub leads : LeadsFrom states number text

-- the same in at most a number of steps
pub record SomeLeadsIn (states : List State) (list : List ℕ) (most : ℕ) (text : List ℕ) : Type 0 where
  pub number : ℕ
  pub among : Contains list number
  pub steps : ℕ
  pub few : steps ≤ most
  pub run : LeadsIn states steps number text

-- the text is a member, and a rest that leads from the next state to the end in at most a number of steps
pub record SplitsIn (states : List State) (Member : List ℕ → Type 0) (next most : ℕ) (text : List ℕ) : Type 0 where
  pub front : List ℕ
  pub rest : List ℕ
  pub is : text ≡ front ++ rest
  pub first : Member front
  pub steps : ℕ
  pub few : steps ≤ most
  pub second : LeadsIn states steps next rest

-- from each of the entries members lead to the next state, and no other texts do
pub record AreEntries (states : List State) (Member : List ℕ → Type 0) (next : ℕ) (entries : List ℕ) : Type 0 where
  pub sound : (n : ℕ) (text : List ℕ) (entry : ℕ) → Contains entries entry → LeadsIn states n entry text → SplitsIn states Member next n text
  pub complete : (text : List ℕ) → Splits Member (LeadsFrom states next) text → SomeLeads states entries text

-- the same of one entry
pub record IsEntry (states : List State) (Member : List ℕ → Type 0) (next entry : ℕ) : Type 0 where
  pub sound : (n : ℕ) (text : List ℕ) → LeadsIn states n entry text → SplitsIn states Member next n text
  pub complete : (text : List ℕ) → Splits Member (LeadsFrom states next) text → LeadsFrom states entry text

-- from the entry a text leads to the end as from one of the branches
pub record AreMerged (states : List State) (branches : List ℕ) (entry : ℕ) : Type 0 where
  pub sound : (n : ℕ) (text : List ℕ) → LeadsIn states n entry text → SomeLeadsIn states branches n text
  pub complete : (text : List ℕ) → SomeLeads states branches text → LeadsFrom states entry text

-- the states from a number on are there too
abbrev pub AgreeFrom : ℕ → List State → List State → Type 0
AgreeFrom base states all = (s : ℕ) (state : State) → base ≤ s → node_at states s ≡ Some state → node_at all s ≡ Some state

-- states were added after the old ones
pub record Extends (old new : List State) : Type 0 where
  pub longer : length old ≤ length new
  pub kept : AgreeFrom 0 old new

-- the states that were added lead from the entry over members to the next state, whatever states come with them
pub record AddsEntry (old new : List State) (Member : List ℕ → Type 0) (next entry : ℕ) : Type 0 where
  pub extends : Extends old new
  pub laid : (all : List State) → 0 < length old → AgreeFrom (length old) new all → IsEntry all Member next entry

-- the same of several entries
pub record AddsEntries (old new : List State) (Member : List ℕ → Type 0) (next : ℕ) (entries : List ℕ) : Type 0 where
  pub extends : Extends old new
  pub laid : (all : List State) → 0 < length old → AgreeFrom (length old) new all → AreEntries all Member next entries

-- the states that were added lead from the entry as from the branches, where those from the base on stay
pub record Merges (base : ℕ) (old new : List State) (branches : List ℕ) (entry : ℕ) : Type 0 where
  pub extends : Extends old new
  pub laid : (all : List State) → 0 < base → AgreeFrom base new all → AreMerged all branches entry

-- from the start the states lead over the texts of the pattern's set, and no others
abbrev pub Spells : List State → ℕ → Pattern → Type 0
Spells states start pattern = (text : List ℕ) → LeadsFrom states start text ↔ Language pattern text
