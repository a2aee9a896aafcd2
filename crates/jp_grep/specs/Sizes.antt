-- When a size is why the rest of a stream is passed over.
use Rattle.std.specs.Prelude.{◌≡◌, ℕ, ◌+◌, ◌^◌, ◌≤◌, List, ◌++◌, length, cond, Result, IfErr, ◌⊎◌}
use Rattle.jp_cut.specs.Holding.{held_len}
use Rattle.jp_devices.specs.Devices.{Came}
use Rattle.jp_form.specs.declared.form.Units.{Units}
use Rattle.jp_grep.specs.Items.{Item, items_come}
use Rattle.jp_grep.specs.Outcomes.{CameOfEach}
use Rattle.jp_grep.specs.Stands.{Stands}
use Rattle.jp_grep.specs.declared.fault.SearchFault.{SearchFault}
use Rattle.jp_grep.specs.declared.fault.SearchFault.TheVariants as faults
use Rattle.jp_grep.specs.declared.progress.Progress.{Progress}
use Rattle.jp_grep.specs.declared.source.Source.{Source}
use Rattle.jp_grep.specs.declared.source.Source.TheVariants as sources

-- how many bytes a source holds of what is not answered: of the open line, or of the open piece, and of the front of the stream as
-- long as it may become the mark of another format
abbrev pub held_in : Source → ℕ
held_in (sources.Lines stream) = length stream.held.items
held_in (sources.Pieces cutting) = cond cutting.is_first (length cutting.front.items) 0 + held_len cutting.cutter

-- What was held of a stream after the items that are answered, and the bytes that came last, are 2^32 bytes or more.
pub record HoldsTooMuch (units : Units) (came : List ℕ) (outcomes : List Item) : Type 0 where
  pub before : List ℕ
  pub last : List ℕ
  pub bytes : came ≡ before ++ last
  pub items : List Item
  pub each : CameOfEach items outcomes
  pub source : Source
  pub stands : Stands units before source items
  pub many : 2 ^ 32 ≤ held_in source + length last

-- A stream is larger than can be held or counted: 2^32 bytes are held of what is not answered, or 64 bits do not count its items, or its
-- reads, each of which brought a byte.
abbrev pub IsOversize : Units → Came → List Item → Type 0
IsOversize units came outcomes =
    HoldsTooMuch units came.bytes outcomes ⊎ ((2 ^ 64 ≤ 1 + length (items_come units came.ended came.bytes)) ⊎ (2 ^ 64 ≤ 1 + length came.bytes))

-- a size is told only where 64 bits do not count these items
abbrev pub TellsOfNumbers : Result Unit SearchFault → Progress → List Item → Type 0
TellsOfNumbers result before items = IfErr result (λ fault. fault ≡ faults.Size → 2 ^ 64 ≤ before.number + length items)

-- it is told only there, or where 2^32 bytes are held with some more
abbrev pub TellsOfSize : Result Unit SearchFault → Source → ℕ → Progress → List Item → Type 0
TellsOfSize result source more before items =
    IfErr result (λ fault. fault ≡ faults.Size → (2 ^ 32 ≤ held_in source + more) ⊎ (2 ^ 64 ≤ before.number + length items))
