-- A run of the program: its limits, and what its writer took behind a buffer (profile).
use Rattle.std.specs.Prelude.{◌≡◌, ℕ, List, Bool, true, false, Result, Ok, Err}
use Rattle.jp_model.specs.declared.Framing.{Framing}
use Rattle.jp_model.specs.declared.Setup.{Setup}
use Rattle.jp_model.specs.declared.RunFault.{RunFault}
use Rattle.jp_model.specs.declared.RunFault.TheVariants as faults
use Rattle.jp_devices.specs.Buffered.{Took, untold}
use Rattle.jp_devices.specs.Devices.{Device}
use Rattle.jp_model.specs.Query.Status.{QueryStatus}
use Rattle.jp_model.specs.Script.Commands.{Command}
use Rattle.jp_model.specs.Script.Headline.{GivenToRun, RunEnded, RunStopped, OnlyReadScript, is_read_collection}
use Rattle.jp_cli.specs.declared.end.End.{End}
use Rattle.jp_cli.specs.declared.end.End.TheVariants as ends

-- the setup of the program: this framing, and at most 4,294,967,295 bytes of a collection and of a script
abbrev pub program_setup : Framing → Setup
program_setup framing = record { framing = framing; most = 4294967295; script_most = 4294967295 }

-- How the program ends, by how its run ended and whether a call of its writer failed: after Ok that is the fault Write, and
-- after a fault it is passed over.
abbrev pub end_told : {X : Type 0} → Result X RunFault → Bool → End
end_told (Ok x) false = ends.Done
end_told (Ok x) true = ends.Run faults.Write
end_told (Err fault) failed = ends.Run fault

-- the end that says that a read of the collection failed
abbrev pub is_collection_fault : End → Bool
is_collection_fault (ends.Run fault) = is_read_collection fault
is_collection_fault _ = false

-- under every end but the fault ReadScript, the script's reader did not fail
abbrev pub HasReadScript : End → Bool → Type 0
HasReadScript (ends.Run fault) failed = OnlyReadScript fault failed
HasReadScript _ failed = failed ≡ false

module _ (query_of : List ℕ → QueryStatus) (asked : List ℕ → Command) where
  -- What the writer took, by how the program ended and by what the readers gave. Where the work is done no call of the writer
  -- failed, nothing is unflushed, and it took the output. After a fault it took what a run that stopped so writes, or where a
  -- call of it failed a beginning of that.
  abbrev pub ProgramEnded : {W : Type 0} → Device W → Device W → Setup → GivenToRun → End → Type 0
  ProgramEnded old new setup given ends.Done = (new.failed ≡ false) × (new.unflushed ≡ false)
      × RunEnded query_of asked untold old new setup given.collection.bytes given.script.bytes
  ProgramEnded {W} old new setup given (ends.Run fault) = (whole : Device W) × Took new whole
      × RunStopped query_of asked untold old whole fault setup given
  ProgramEnded old new setup given _ = ⊥
