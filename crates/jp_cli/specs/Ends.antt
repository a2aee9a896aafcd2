-- How the program ends: its exit status, and what it says on standard error (profile).
use Rattle.std.specs.Prelude.{ℕ, List, [], codes}
use Rattle.jp_model.specs.declared.RunFault.{RunFault}
use Rattle.jp_model.specs.declared.RunFault.TheVariants as faults
use Rattle.jp_cli.specs.declared.end.End.{End}
use Rattle.jp_cli.specs.declared.end.End.TheVariants as ends

-- the status of a run that stopped: 10 and the fault's number
abbrev pub fault_status : RunFault → ℕ
fault_status faults.ReadCollection = 11
fault_status faults.Size = 12
fault_status faults.Framing = 13
fault_status faults.ReadScript = 14
fault_status faults.Write = 15
fault_status faults.Memory = 16

-- the exit status
abbrev pub end_status : End → ℕ
end_status ends.Done = 0
end_status ends.Words = 2
end_status ends.NoCollection = 3
end_status ends.NoScript = 4
end_status (ends.Run fault) = fault_status fault
end_status ends.Memory = 16

-- what is said of a run that stopped
abbrev pub fault_message : RunFault → List ℕ
fault_message faults.ReadCollection = codes "jpq: cannot read collection"
fault_message faults.Size = codes "jpq: collection too large"
fault_message faults.Framing = codes "jpq: bytes before first separator"
fault_message faults.ReadScript = codes "jpq: cannot read script"
fault_message faults.Write = codes "jpq: cannot write"
fault_message faults.Memory = codes "jpq: out of memory"

-- what is said, without its line feed; nothing where the work is done or the arguments were told of already
abbrev pub end_message : End → List ℕ
end_message ends.Done = []
end_message ends.Words = []
end_message ends.NoCollection = codes "jpq: cannot open collection"
end_message ends.NoScript = codes "jpq: cannot open script"
end_message (ends.Run fault) = fault_message fault
end_message ends.Memory = codes "jpq: out of memory"
