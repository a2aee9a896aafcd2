-- A pattern as states, where each waits for one scalar of its class, and what a text leads to.
use Rattle.std.specs.Prelude.{ℕ, zero, suc, ◌≡◌, ◌<◌, ◌^◌, ◌==◌, ◌↔◌, get_or, Bool, true, false, if◌then◌else◌, IsTrue, List, [], ◌∷◌, ◌++◌, length, map, Option, Some, None}
use Rattle.std.specs.Int.{bit_at}
use Rattle.std.specs.Int.RustNames.{bit_or}
use Rattle.jp_model.specs.Pattern.Tree.{CharClass, Pattern}
use Rattle.jp_model.specs.Pattern.Classes.{in_class}
use Rattle.jp_model.specs.Pattern.Language.{Language}

-- A state: the scalars that it waits for, and the set that waits after it. A set of states is a number: state p is bit p, and
-- bit 63 is the end of the text.
pub record State : Type 0 where
  pub class : CharClass
  pub behind : ℕ

-- the state is in the set
abbrev pub HasState : ℕ → ℕ → Type 0
HasState set p = bit_at set p ≡ 1

-- the state of that number
abbrev pub state_at : List State → ℕ → Option State
state_at [] p = None
state_at (w ∷ ws) zero = Some w
state_at (w ∷ ws) (suc p) = state_at ws p

-- a state of the set waits for the scalar, and what is after it does the rest
pub record Passes (states : List State) (set scalar : ℕ) (Rest : ℕ → Type 0) : Type 0 where
  pub number : ℕ
  pub state : State
  pub is : state_at states number ≡ Some state
  pub waits : HasState set number
  pub has : IsTrue (in_class state.class scalar)
  pub rest : Rest state.behind

-- a run over a text: from the set the text leads to its end
abbrev pub Leads : List State → ℕ → List ℕ → Type 0
Leads states set [] = HasState set 63
Leads states set (c ∷ text) = Passes states set c (λ behind. Leads states behind text)

-- the text, which begins with this scalar, is a member that is not empty, followed by one of the second set
pub record SplitsBehind (First Second : List ℕ → Type 0) (c : ℕ) (text : List ℕ) : Type 0 where
  pub front : List ℕ
  pub rest : List ℕ
  pub is : text ≡ front ++ rest
  pub first : First (c ∷ front)
  pub second : Second rest

-- the states of a part, and those beyond it too where the part can be empty
abbrev pub through : Bool → ℕ → ℕ → ℕ
through has_empty states beyond = if has_empty then bit_or states beyond else states

-- The part is laid out in front of what waits after it: its first states lead where a member that is not empty leads to what
-- waits after.
pub record IsLaidOut (states : List State) (Member : List ℕ → Type 0) (behind first : ℕ) (has_empty : Bool) : Type 0 where
  pub sound : (c : ℕ) (text : List ℕ) → Leads states first (c ∷ text) → SplitsBehind Member (Leads states behind) c text
  pub complete : (c : ℕ) (text : List ℕ) → SplitsBehind Member (Leads states behind) c text → Leads states first (c ∷ text)
  pub no_end : HasState first 63 → ⊥
  pub empty : has_empty ≡ true → Member []
  pub nonempty : Member [] → has_empty ≡ true

-- what waits after the scalar, of what waits before it
abbrev pub IsStep : List State → ℕ → ℕ → ℕ → Type 0
IsStep states set scalar next = (q : ℕ) → HasState next q ↔ Passes states set scalar (λ behind. HasState behind q)

-- the state with this number waits for the scalar, and has this after it
pub record IsPassed (states : List State) (number scalar behind : ℕ) : Type 0 where
  pub state : State
  pub is : state_at states number ≡ Some state
  pub has : IsTrue (in_class state.class scalar)
  pub gives : state.behind ≡ behind

-- the state with this number waits for the scalar, as a test
abbrev pub waits_for : List State → (number scalar : ℕ) → Bool
waits_for [] number scalar = false
waits_for (w ∷ states) zero scalar = in_class w.class scalar
waits_for (w ∷ states) (suc number) scalar = waits_for states number scalar

-- word c of the masks has the states that wait for the scalar c
abbrev pub AreMasks : List State → List ℕ → Type 0
AreMasks states masks = (scalar number : ℕ) → scalar < length masks → HasState (get_or masks scalar 0) number ↔ IsTrue (waits_for states number scalar)

-- the set that waits after the state with this number, which is empty where there is no such state
abbrev pub set_after : List State → ℕ → ℕ
set_after states number = get_or (map (λ state. state.behind) states) number 0

-- state q waits after one of the states that are ready
pub record WaitsAfter (states : List State) (ready q : ℕ) : Type 0 where
  pub number : ℕ
  pub is_ready : HasState ready number
  pub waits : HasState (set_after states number) q

-- the set has the state with the next number, and nothing else
abbrev pub is_link : (set number : ℕ) → Bool
is_link set number = set == 2 ^ suc number

-- only the state with the next number waits after the state
abbrev pub is_chained : List State → ℕ → Bool
is_chained states number = is_link (set_after states number) number

-- from the start the states lead over the texts of the pattern's set, and no others
abbrev pub Accepts : List State → ℕ → Pattern → Type 0
Accepts states starts pattern = (text : List ℕ) → Leads states starts text ↔ Language pattern text

-- the bits of a word are the ASCII scalars that pass the test
abbrev pub AreCodes : (ℕ → Bool) → ℕ → Type 0
AreCodes test codes = (scalar : ℕ) → scalar < 128 → HasState codes scalar ↔ IsTrue (test scalar)

-- by state the ASCII scalars that it waits for
pub record AreSets (states : List State) (sets : List ℕ) : Type 0 where
  pub size : length sets ≡ length states
  pub each : (number : ℕ) → number < length sets → AreCodes (waits_for states number) (get_or sets number 0)
