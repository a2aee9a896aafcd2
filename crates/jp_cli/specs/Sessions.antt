-- A script over a collection that is held, and the next one over what that left.
use Rattle.std.specs.Prelude.{◌≡◌, ℕ, ◌≤◌, List, Bool, Option, length, take}
use Rattle.jp_model.specs.declared.RunFault.{RunFault}
use Rattle.jp_model.specs.declared.RunFault.TheVariants as faults
use Rattle.jp_model.specs.declared.Setup.{Setup}
use Rattle.jp_devices.specs.Devices.{Begins, Came, CameShort, CameUpTo, Device, Received}
use Rattle.jp_model.specs.Query.Status.{QueryStatus}
use Rattle.jp_model.specs.Script.Commands.{Command, closed_command_lines, command_lines}
use Rattle.jp_model.specs.Script.Headline.{Answered, AnsweredFirst, AnsweredInPart, BeginsLines, lines_within}
use Rattle.jp_model.specs.Script.Machine.{OnlyForMemory, State, run_commands}

-- The status of a query, and what a command line asks for, are parameters.
module _ (query_of : List ℕ → QueryStatus) (asked : List ℕ → Command) {W : Type 0} (contents : W → Option (List ℕ)) (out_old out_new : Device W) (setup : Setup) (old : State) where
  -- The script fits, its commands were run, the writer received their answers, and this is the state that they leave. A flag
  -- tells for each whether a growth was refused in it.
  abbrev pub HasRun : List ℕ → State → Type 0
  HasRun script new = (length script ≤ setup.script_most) × (flags : List Bool)
      × OnlyForMemory asked (command_lines script) flags
      × Received contents out_old out_new (run_commands query_of asked setup old (command_lines script) flags).written
      × (new ≡ (run_commands query_of asked setup old (command_lines script) flags).after)

  -- Some first ones of these command lines were run, the writer received a beginning of their answers, and this is the state
  -- that they leave.
  abbrev pub HasRunFirst : List (List ℕ) → State → Type 0
  HasRunFirst commands new = (first : List (List ℕ)) × BeginsLines first commands × (flags : List Bool) × (part : List ℕ)
      × OnlyForMemory asked first flags
      × Begins part (run_commands query_of asked setup old first flags).written
      × Received contents out_old out_new part
      × (new ≡ (run_commands query_of asked setup old first flags).after)

  -- What the writer received where a script stopped, by the fault and by what its reader gave.
  abbrev pub HasStopped : RunFault → Came → Type 0
  HasStopped faults.ReadScript script = CameShort setup.script_most script
      × Answered query_of asked contents out_old out_new setup old (closed_command_lines (take setup.script_most script.bytes))
  HasStopped faults.Write script = CameUpTo setup.script_most script
      × AnsweredInPart query_of asked contents out_old out_new setup old (lines_within setup script)
  HasStopped faults.Memory script = CameUpTo setup.script_most script
      × AnsweredFirst query_of asked contents out_old out_new setup old (lines_within setup script)
  HasStopped _ script = ⊥
