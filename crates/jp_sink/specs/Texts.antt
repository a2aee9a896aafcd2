-- What a sink that writes text has written.
use Rattle.std.specs.Prelude.{◌≡◌, ◌||◌, ℕ, List, [], ◌++◌, Bool, not, Result, MatchResult, length, ◌==◌}
use Rattle.jp_devices.specs.Devices.{Begins}
use Rattle.jp_sink.specs.declared.Untold.{Untold}
use Rattle.jp_sink.specs.declared.Untold.TheVariants as untold
use Rattle.jp_sink.specs.declared.text.TextSink.{TextSink}

-- what its writer took, and what it holds
abbrev pub written : {W : Type 0} → TextSink W → List ℕ
written sink = sink.out.taken ++ sink.held.items

-- Bytes came after all that came before, or its writer took a beginning of that and of these.
abbrev pub WritesOn : {W A : Type 0} → (old new : TextSink W) → Result A Untold → List ℕ → Type 0
WritesOn old new result bytes = MatchResult result
    (λ _. written new ≡ written old ++ bytes)
    (λ fault. (fault ≡ untold.Sink) × Begins new.out.taken (written old ++ bytes))

-- it holds bytes, or its writer took some that are not flushed
abbrev pub is_unflushed : {W : Type 0} → TextSink W → Bool
is_unflushed sink = not (length sink.held.items == 0) || sink.out.unflushed
