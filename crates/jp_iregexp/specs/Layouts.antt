-- The states of a pattern's parts, by Glushkov's construction.
use Rattle.std.specs.Prelude.{ℕ, ◌≡◌, ◌<◌, ◌≤◌, ◌==◌, ◌-◌, if◌then◌else◌, Bool, List, length, bit_or, Option, None, Some}
use Rattle.std.specs.Int.{bit_at}
use Rattle.jp_iregexp.specs.declared.automaton.State.{State as ProgramState}
use Rattle.jp_iregexp.specs.States.{State, HasState, state_at, IsLaidOut}
use Rattle.jp_iregexp.specs.Nodes.{class_of}

-- the state of the definition
abbrev pub state_of : ProgramState → State
state_of p = record { class = class_of p.class; behind = p.after }

-- the state of this number, where a set waits after the last states too
abbrev pub linked : (last set number : ℕ) → State → State
linked last set number state = if bit_at last number == 1 then record { class = state.class; behind = bit_or state.behind set } else state

-- the new states are the old ones, where a set waits after the last states too
pub record AreLinked (last set : ℕ) (old new : List State) : Type 0 where
  pub size : length new ≡ length old
  pub each : (number : ℕ) (state : State) → state_at old number ≡ Some state → state_at new number ≡ Some (linked last set number state)

-- The states that were added are those of a part: whatever waits after its last states, and is linked to them, the first ones
-- lead where a member that is not empty leads to it.
pub record LaidOnto (old new : List State) (Member : List ℕ → Type 0) (first last : ℕ) (has_empty : Bool) : Type 0 where
  pub longer : length old ≤ length new
  pub kept : (number : ℕ) (state : State) → state_at old number ≡ Some state → state_at new number ≡ Some state
  pub own : (number : ℕ) → HasState last number → length old ≤ number × number < length new
  pub laid : (states : List State) (behind : ℕ) → ((number : ℕ) (state : State) → length old ≤ number → state_at new number ≡ Some state → state_at states number ≡ Some (linked last behind number state))
      → IsLaidOut states Member behind first has_empty

-- How many turns come in front of the last ones: those are the further ones, or any number of them with one of the least.
abbrev pub turns_in_front : ℕ → Option ℕ → ℕ
turns_in_front least None = least - 1
turns_in_front least (Some further) = least
