-- What a run writes, by what it was given (profile).
use Rattle.std.specs.Prelude.{◌≡◌, ℕ, ◌+◌, ◌≤◌, Bool, true, false, List, [], ◌++◌, take, length, Option, ◌⊎◌}
use Rattle.jp_model.specs.declared.Setup.{Setup}
use Rattle.jp_model.specs.declared.RunFault.{RunFault}
use Rattle.jp_model.specs.declared.RunFault.TheVariants as faults
use Rattle.jp_devices.specs.Devices.{Device, Came, CameUpTo, CameShort, Received, Begins}
use Rattle.jp_model.specs.Lines.{lines, is_framed}
use Rattle.jp_model.specs.Query.Status.{QueryStatus}
use Rattle.jp_model.specs.Script.Commands.{Command, command_lines, closed_command_lines, command_lines_so_far}
use Rattle.jp_model.specs.Script.Machine.{State, run_commands, OnlyForMemory}

-- a collection as it is loaded: its lines, and no index
abbrev pub loaded : Setup → List ℕ → State
loaded setup collection = record { lines = lines setup.framing collection; paths = [] }

-- the collection fits, and is framed
abbrev pub MayLoad : Setup → List ℕ → Type 0
MayLoad setup collection = (length collection ≤ setup.most) × (is_framed setup.framing collection ≡ true)

-- some first ones of these command lines
abbrev pub BeginsLines : List (List ℕ) → List (List ℕ) → Type 0
BeginsLines first all = (rest : List (List ℕ)) × (all ≡ first ++ rest)

-- the fault that says that the writer failed
abbrev pub is_write_fault : RunFault → Bool
is_write_fault faults.Write = true
is_write_fault _ = false

-- the fault that says that the collection's reader failed
abbrev pub is_read_collection : RunFault → Bool
is_read_collection faults.ReadCollection = true
is_read_collection _ = false

-- under every fault but ReadScript, the script's reader did not fail
abbrev pub OnlyReadScript : RunFault → Bool → Type 0
OnlyReadScript faults.ReadScript failed = Unit {0}
OnlyReadScript _ failed = failed ≡ false

-- what the readers of a run gave
pub record GivenToRun : Type 0 where
  pub collection : Came
  pub script : Came

-- The collection was not loaded, and no fault of it shows: within its limit some bytes came, which are framed where they
-- are all.
pub record WasStarved (setup : Setup) (collection : Came) : Type 0 where
  pub within : length collection.bytes ≤ setup.most
  pub framed : collection.ended ≡ true → is_framed setup.framing collection.bytes ≡ true

-- the collection came to its end, fits and is framed
abbrev pub WasLoaded : Setup → Came → Type 0
WasLoaded setup collection = (collection.ended ≡ true) × MayLoad setup collection.bytes

-- The command lines that came within the limit: those whose line feed came, and the open one after them only where the
-- script came to its end.
abbrev pub lines_within : Setup → Came → List (List ℕ)
lines_within setup script = command_lines_so_far script.ended (take setup.script_most script.bytes)

-- The status of a query, and what a command line asks for, are parameters.
module _ (query_of : List ℕ → QueryStatus) (asked : List ℕ → Command) where
  -- the output of a script on a collection, where growths were refused in some commands
  abbrev pub output : Setup → List ℕ → List ℕ → List Bool → List ℕ
  output setup collection script flags = (run_commands query_of asked setup (loaded setup collection) (command_lines script) flags).written

  -- the writer received the output of these command lines, and nothing else
  abbrev pub Answered : {W : Type 0} → (W → Option (List ℕ)) → Device W → Device W → Setup → State → List (List ℕ) → Type 0
  Answered contents old new setup state commands = (flags : List Bool)
      × OnlyForMemory asked commands flags
      × Received contents old new (run_commands query_of asked setup state commands flags).written

  -- the writer received a beginning of their output, and nothing else
  abbrev pub AnsweredInPart : {W : Type 0} → (W → Option (List ℕ)) → Device W → Device W → Setup → State → List (List ℕ) → Type 0
  AnsweredInPart contents old new setup state commands = (flags : List Bool) × (part : List ℕ)
      × OnlyForMemory asked commands flags
      × Begins part (run_commands query_of asked setup state commands flags).written
      × Received contents old new part

  -- the writer received the output of some first ones of these command lines, and nothing else
  abbrev pub AnsweredFirst : {W : Type 0} → (W → Option (List ℕ)) → Device W → Device W → Setup → State → List (List ℕ) → Type 0
  AnsweredFirst contents old new setup state commands = (before : List (List ℕ))
      × BeginsLines before commands × Answered contents old new setup state before

  -- What the writer received of a run that came to its end, by the bytes that both readers gave.
  abbrev pub RunEnded : {W : Type 0} → (W → Option (List ℕ)) → Device W → Device W → Setup → List ℕ → List ℕ → Type 0
  RunEnded contents old new setup collection script = MayLoad setup collection × (length script ≤ setup.script_most)
      × Answered contents old new setup (loaded setup collection) (command_lines script)

  -- What the writer received of a run that stopped, by the fault and by what the readers gave. A collection over which
  -- commands ran came to its end, fits and is framed; under want of memory it may have come in part, or be framed and not
  -- loaded, and then nothing was written. No reader gave more than the byte past its limit, nor came to its end after it.
  abbrev pub RunStopped : {W : Type 0} → (W → Option (List ℕ)) → Device W → Device W → RunFault → Setup → GivenToRun → Type 0
  RunStopped contents old new faults.ReadCollection setup given = (given.collection.ended ≡ false) × (length given.collection.bytes ≤ setup.most)
      × Received contents old new []
  RunStopped contents old new faults.Size setup given = (given.collection.ended ≡ false) × (length given.collection.bytes ≡ setup.most + 1)
      × Received contents old new []
  RunStopped contents old new faults.Framing setup given = (given.collection.ended ≡ true) × (length given.collection.bytes ≤ setup.most)
      × (is_framed setup.framing given.collection.bytes ≡ false) × Received contents old new []
  RunStopped contents old new faults.ReadScript setup given = WasLoaded setup given.collection × CameShort setup.script_most given.script
      × Answered contents old new setup (loaded setup given.collection.bytes) (closed_command_lines (take setup.script_most given.script.bytes))
  RunStopped contents old new faults.Write setup given = WasLoaded setup given.collection × CameUpTo setup.script_most given.script
      × AnsweredInPart contents old new setup (loaded setup given.collection.bytes) (lines_within setup given.script)
  RunStopped contents old new faults.Memory setup given = (WasStarved setup given.collection × Received contents old new [])
      ⊎ (WasLoaded setup given.collection × CameUpTo setup.script_most given.script
      × AnsweredFirst contents old new setup (loaded setup given.collection.bytes) (lines_within setup given.script))
