-- Which states wait for what comes next in a text.
use Rattle.std.specs.Prelude.{ℕ, ◌≡◌, ◌+◌, ◌<◌, ◌≤◌, ◌⊎◌, ◌↔◌, not, slice_index, get_or, true, false, List, Some, length, count_by}
use Rattle.std.specs.List.{Contains}
use Rattle.jp_iregexp.specs.declared.graph.State.{State}
use Rattle.jp_iregexp.specs.declared.waiting.Waiting.{Waiting}
use Rattle.jp_iregexp.specs.Graphs.{behind_of, free_of, node_at, SomeLeads}

-- the marks are those of the states in the list
abbrev pub IsMarked : Waiting → Type 0
IsMarked w = (s : ℕ) → (get_or w.has.items s false ≡ true) ↔ Contains w.list.items s

-- how many states are not there
abbrev pub absent : Waiting → ℕ
absent w = count_by not w.has.items

-- those of the states that there are were added after the others
pub record Adds (states : List ℕ) (old new : Waiting) : Type 0 where
  pub marked : IsMarked new
  pub size : length new.has.items ≡ length old.has.items
  pub longer : length old.list.items ≤ length new.list.items
  pub before : (i : ℕ) → i < length old.list.items → slice_index new.list.items i ≡ slice_index old.list.items i
  pub kept : (s : ℕ) → Contains old.list.items s → Contains new.list.items s
  pub all : (s : ℕ) → Contains states s → s < length old.has.items → Contains new.list.items s
  pub only : (s : ℕ) → Contains new.list.items s → Contains old.list.items s ⊎ Contains states s
  pub count : absent new + length new.list.items ≡ absent old + length old.list.items

-- a state leads to another without a scalar
pub record FreeTo (states : List State) (s t : ℕ) : Type 0 where
  pub state : State
  pub is : node_at states s ≡ Some state
  pub among : Contains (free_of state) t

-- a state leads to another by a scalar
pub record ReadsTo (states : List State) (c s t : ℕ) : Type 0 where
  pub state : State
  pub is : node_at states s ≡ Some state
  pub to : behind_of state c ≡ Some t

-- what the states lead to without a scalar was added, and nothing else that leads anywhere else
pub record Closes (states : List State) (old new : Waiting) : Type 0 where
  pub marked : IsMarked new
  pub size : length new.has.items ≡ length old.has.items
  pub kept : (s : ℕ) → Contains old.list.items s → Contains new.list.items s
  pub sound : (text : List ℕ) → SomeLeads states new.list.items text → SomeLeads states old.list.items text
  pub closed : (s t : ℕ) → Contains new.list.items s → FreeTo states s t → t < length states → Contains new.list.items t

-- a state of the list leads to this one by the scalar
pub record SomeReads (states : List State) (list : List ℕ) (c t : ℕ) : Type 0 where
  pub from : ℕ
  pub among : Contains list from
  pub reads : ReadsTo states c from t

-- those to which the states of the list lead by the scalar
pub record AreBehind (states : List State) (list : List ℕ) (c : ℕ) (next : Waiting) : Type 0 where
  pub marked : IsMarked next
  pub size : length next.has.items ≡ length states
  pub sound : (t : ℕ) → Contains next.list.items t → SomeReads states list c t
  pub complete : (t : ℕ) → SomeReads states list c t → t < length states → Contains next.list.items t

-- each state to which one that waits leads without a scalar waits too
pub record IsReady (states : List State) (w : Waiting) : Type 0 where
  pub marked : IsMarked w
  pub size : length w.has.items ≡ length states
  pub closed : (s t : ℕ) → Contains w.list.items s → FreeTo states s t → t < length states → Contains w.list.items t
