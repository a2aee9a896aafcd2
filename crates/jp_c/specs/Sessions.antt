-- What the calls of a handle answer, and what they leave.
use Rattle.std.specs.Prelude.{◌≡◌, ℕ, ◌≤◌, min, List, [], ◌++◌, length, take, drop, Bool, Option, Some, None}
use Rattle.jp_model.specs.declared.Setup.{Setup}
use Rattle.jp_devices.specs.Devices.{Begins}
use Rattle.jp_model.specs.Script.Commands.{command_of, command_lines}
use Rattle.jp_model.specs.Script.Headline.{BeginsLines, MayLoad, loaded, output}
use Rattle.jp_model.specs.Script.Machine.{OnlyForMemory, run_commands}
use Rattle.jp_query.specs.Status.{query_of}
use Rattle.jp_cli.specs.Runs.{setup_of, state_of}
use Rattle.jp_c.specs.declared.session.Session.{Session}

-- the bytes of the answer that were not read
abbrev pub left_in : Session → List ℕ
left_in session = drop session.at session.text.items

-- the same of a handle
abbrev pub left_of : Option Session → List ℕ
left_of None = []
left_of (Some session) = left_in session

-- The handle has the lines of a collection and no index, and no answer is left.
abbrev pub IsOpened : Setup → List ℕ → Option Session → Type 0
IsOpened setup collection None = ⊥
IsOpened setup collection (Some new) = MayLoad setup collection × (setup_of new.collection ≡ setup) × (state_of new.collection ≡ loaded setup collection) × (left_in new ≡ [])

-- The commands of the script were run, and what they answer is left to be read. A flag tells for each whether a growth was
-- refused in it.
abbrev pub Answers : Session → Session → List ℕ → Type 0
Answers old new script = (flags : List Bool) × OnlyForMemory command_of (command_lines script) flags
    × (length script ≤ (setup_of old.collection).script_most)
    × (setup_of new.collection ≡ setup_of old.collection)
    × (state_of new.collection ≡ (run_commands query_of command_of (setup_of old.collection) (state_of old.collection) (command_lines script) flags).after)
    × (left_in new ≡ (run_commands query_of command_of (setup_of old.collection) (state_of old.collection) (command_lines script) flags).written)

-- Some first commands of the script were run, and a beginning of what they answer is left to be read.
abbrev pub AnswersFirst : Session → Session → List ℕ → Type 0
AnswersFirst old new script = (first : List (List ℕ)) × BeginsLines first (command_lines script)
    × (flags : List Bool) × OnlyForMemory command_of first flags
    × (setup_of new.collection ≡ setup_of old.collection)
    × (state_of new.collection ≡ (run_commands query_of command_of (setup_of old.collection) (state_of old.collection) first flags).after)
    × Begins (left_in new) (run_commands query_of command_of (setup_of old.collection) (state_of old.collection) first flags).written

-- the same of a handle that was open, and is
abbrev pub HasAnswered : Option Session → Option Session → List ℕ → Type 0
HasAnswered (Some old) (Some new) script = Answers old new script
HasAnswered (Some old) None script = ⊥
HasAnswered None new script = ⊥

abbrev pub HasAnsweredFirst : Option Session → Option Session → List ℕ → Type 0
HasAnsweredFirst (Some old) (Some new) script = AnswersFirst old new script
HasAnsweredFirst (Some old) None script = ⊥
HasAnsweredFirst None new script = ⊥

-- The output of the script over the collection is left to be read, as the program writes it, and the handle has what the script
-- made of the collection.
abbrev pub IsRun : Setup → List ℕ → List ℕ → Option Session → Type 0
IsRun setup collection script None = ⊥
IsRun setup collection script (Some new) = MayLoad setup collection × (length script ≤ setup.script_most)
    × (flags : List Bool) × OnlyForMemory command_of (command_lines script) flags
    × (setup_of new.collection ≡ setup)
    × (state_of new.collection ≡ (run_commands query_of command_of setup (loaded setup collection) (command_lines script) flags).after)
    × (left_in new ≡ output query_of command_of setup collection script flags)

-- The handle is not open, or it has what some first commands of the script made of the collection, and a beginning of what they
-- answer is left to be read.
abbrev pub IsRunInPart : Setup → List ℕ → List ℕ → Option Session → Type 0
IsRunInPart setup collection script None = Unit {0}
IsRunInPart setup collection script (Some new) = MayLoad setup collection × (first : List (List ℕ)) × BeginsLines first (command_lines script)
    × (flags : List Bool) × OnlyForMemory command_of first flags
    × (setup_of new.collection ≡ setup)
    × (state_of new.collection ≡ (run_commands query_of command_of setup (loaded setup collection) first flags).after)
    × Begins (left_in new) (run_commands query_of command_of setup (loaded setup collection) first flags).written

-- the collection, its indexes and its setup are the same
abbrev pub KeepsCollection : Option Session → Option Session → Type 0
KeepsCollection (Some old) (Some new) = new.collection ≡ old.collection
KeepsCollection (Some old) None = ⊥
KeepsCollection None new = new ≡ None

-- the first `count` of the bytes that were left are at the front of the room, and the others are left
abbrev pub IsRead : ℕ → Option Session → Option Session → List ℕ → List ℕ → Type 0
IsRead count old new before after = (count ≡ min (length (left_of old)) (length before)) × (after ≡ take count (left_of old) ++ drop count before)
    × (left_of new ≡ drop count (left_of old)) × KeepsCollection old new
