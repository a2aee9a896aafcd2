-- What becomes of a sink that is told something.
use Rattle.std.specs.Prelude.{◌≡◌, ℕ, List, [], ◌∷◌, ◌++◌, Bool, true, false, Result, Ok, Err, MatchResult}
use Rattle.jp_sink.specs.Events.{Event}
use Rattle.jp_sink.specs.declared.Untold.{Untold}
use Rattle.jp_sink.specs.declared.Untold.TheVariants as untold

-- What is known of a sink: whether it failed, after which it is told no more; whether it took bytes that are not flushed; how many
-- calls of its writer came after one that had failed; and the numbers that it was made with.
pub record SinkState : Type 0 where
  pub failed : Bool
  pub unflushed : Bool
  pub after : ℕ
  pub settings : List ℕ

-- the fault says that the sink failed
abbrev pub is_failure : Untold → Bool
is_failure untold.Line = false
is_failure untold.Sink = true

-- a call failed the sink
abbrev pub has_failed : {A : Type 0} → Result A Untold → Bool
has_failed (Ok done) = false
has_failed (Err fault) = is_failure fault

-- What held for what it was told holds for that and these events.
abbrev pub Takes : {S : Type 0} → (stands : S → List Event → Type 0) → (old new : S) → List Event → Type 0
Takes stands old new events = (told : List Event) → stands old told → stands new (told ++ events)

-- It stopped on the way: what it made is the beginning of what it would have made of these events and any others.
abbrev pub Stops : {S : Type 0} → (stands stopped : S → List Event → Type 0) → (old new : S) → List Event → Type 0
Stops stands stopped old new events = (told later : List Event) → stands old told → stopped new (told ++ (events ++ later))

-- Why these events were not taken: there is no memory for them, and the sink is as it was; or it failed.
abbrev pub Refuses : {S : Type 0} → (stands stopped : S → List Event → Type 0) → (old new : S) → List Event → Untold → Type 0
Refuses stands stopped old new events untold.Line = Takes stands old new []
Refuses stands stopped old new events untold.Sink = Stops stands stopped old new events

-- The sink took these events, or not.
abbrev pub Tells : {S A : Type 0} → (stands stopped : S → List Event → Type 0) → (old new : S) → Result A Untold → List Event → Type 0
Tells stands stopped old new result events = MatchResult result
    (λ _. Takes stands old new events)
    (λ fault. Refuses stands stopped old new events fault)

-- It failed exactly where that is the answer, no call of its writer came after one that had failed, and it is set as it was.
abbrev pub KeepsState : {A : Type 0} → Result A Untold → (old new : SinkState) → Type 0
KeepsState result old new = (new.failed ≡ has_failed result) × (new.after ≡ old.after) × (new.settings ≡ old.settings)
