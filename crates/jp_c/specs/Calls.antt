-- What the numbers of a call from C stand for.
use Rattle.std.specs.Prelude.{◌≡◌, ◌⊎◌, ℕ, zero, suc, Option, Some, None}
use Rattle.jp_model.specs.declared.Framing.{Framing}
use Rattle.jp_model.specs.declared.Framing.TheVariants as framings
use Rattle.jp_model.specs.declared.Setup.{Setup}

-- the framing of a number: lines, or a text sequence (RFC 7464)
abbrev pub framing_of : ℕ → Option Framing
framing_of zero = Some framings.Lines
framing_of (suc zero) = Some framings.Sequence
framing_of (suc (suc n)) = None

-- how scripts are run over a collection with this framing and at most `most` bytes
abbrev pub setup_of : Framing → ℕ → Setup
setup_of framing most = record { framing = framing; most = most; script_most = 4294967295 }

-- The statuses of each call: done; not open; no such number; a question that is refused; no such line; another format; too large;
-- not framed; a script that is too large; out of memory. A read that failed is none of them, since bytes in memory are read.
abbrev pub IsStatusOfOpen : ℕ → Type 0
IsStatusOfOpen status = (status ≡ 0) ⊎ (status ≡ 2) ⊎ (status ≡ 12) ⊎ (status ≡ 13) ⊎ (status ≡ 16)

abbrev pub IsStatusOfAsk : ℕ → Type 0
IsStatusOfAsk status = (status ≡ 0) ⊎ (status ≡ 1) ⊎ (status ≡ 14) ⊎ (status ≡ 16)

abbrev pub IsStatusOfRun : ℕ → Type 0
IsStatusOfRun status = (status ≡ 0) ⊎ (status ≡ 2) ⊎ (status ≡ 12) ⊎ (status ≡ 13) ⊎ (status ≡ 14) ⊎ (status ≡ 16)

abbrev pub IsStatusOfFilter : ℕ → Type 0
IsStatusOfFilter status = (status ≡ 0) ⊎ (status ≡ 1) ⊎ (status ≡ 2) ⊎ (status ≡ 3) ⊎ (status ≡ 5) ⊎ (status ≡ 16)

abbrev pub IsStatusOfSurvey : ℕ → Type 0
IsStatusOfSurvey status = (status ≡ 0) ⊎ (status ≡ 1) ⊎ (status ≡ 3) ⊎ (status ≡ 5) ⊎ (status ≡ 16)

abbrev pub IsStatusOfValues : ℕ → Type 0
IsStatusOfValues status = (status ≡ 0) ⊎ (status ≡ 1) ⊎ (status ≡ 2) ⊎ (status ≡ 5) ⊎ (status ≡ 16)

abbrev pub IsStatusOfLine : ℕ → Type 0
IsStatusOfLine status = (status ≡ 0) ⊎ (status ≡ 1) ⊎ (status ≡ 4) ⊎ (status ≡ 16)

abbrev pub IsStatusOfMarks : ℕ → Type 0
IsStatusOfMarks status = (status ≡ 0) ⊎ (status ≡ 1) ⊎ (status ≡ 3) ⊎ (status ≡ 4) ⊎ (status ≡ 16)
