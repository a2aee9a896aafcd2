-- Runs of command lines that are held as they came, one after another.
use Rattle.std.specs.Prelude.{◌≡◌, ℕ, ◌+◌, ◌≤◌, List, [], ◌∷◌, Bool, true, false, Option, Result, Ok, Err, IsTrue, take, length}
use Rattle.jp_model.specs.declared.Setup.{Setup}
use Rattle.jp_model.specs.declared.RunFault.{RunFault}
use Rattle.jp_model.specs.declared.RunFault.TheVariants as faults
use Rattle.jp_devices.specs.Devices.{Device, Begins, Came, CameUpTo, CameShort, Received, Writes}
use Rattle.jp_model.specs.Lines.{closed_lines, lines_so_far}
use Rattle.jp_model.specs.Plans.{opened}
use Rattle.jp_model.specs.Query.Status.{QueryStatus, refused_query, query}
use Rattle.jp_model.specs.Script.Commands.{Command, query_line, MayWantMemory}
use Rattle.jp_model.specs.Script.Headline.{BeginsLines, Answered, AnsweredInPart, AnsweredFirst}
use Rattle.jp_model.specs.Script.Machine.{State, statuses, step, step_unless, run_commands, OnlyForMemory}
use Rattle.jp_store.specs.Collections.{Collection}
use Rattle.jp_cli.specs.declared.session.Session.{Session}
use Rattle.jp_cli.specs.Replies.{reply_text}
use Rattle.jp_cli.specs.declared.reply.Reply.{Reply}

-- where a run stands: the state of its collection, and how many lines it opened so far
pub record Progress : Type 0 where
  pub state : State
  pub opened : ℕ

abbrev pub at : State → ℕ → Progress
at state opened = record { state = state; opened = opened }

-- the setup of commands over a collection: its framing, its greatest size, and the greatest size of a script
abbrev pub setup_with : Collection → ℕ → Setup
setup_with collection script_most = record { framing = collection.framing; most = collection.most; script_most = script_most }

-- the setup of the commands of a session
abbrev pub setup_of : Session → Setup
setup_of session = setup_with session.store session.script_most

-- the state of a session's collection
abbrev pub state_of : Session → State
state_of session = session.store.state

-- where a session stands
abbrev pub progress_of : Session → Progress
progress_of session = at session.store.state session.opened

-- how many lines a query opens, which `explain` tells
abbrev pub opened_by : Setup → State → QueryStatus → ℕ
opened_by setup state (refused_query fault) = 0
opened_by setup state (query q) = length (opened q state.paths (statuses setup.framing state.lines))

-- `lines` lines were opened and counted, or no more than those where a growth was refused.
abbrev pub Adds : Bool → ℕ → ℕ → ℕ → Type 0
Adds false lines old new = new ≡ old + lines
Adds true lines old new = (old ≤ new) × (new ≤ old + lines)

-- the most lines that a collection has
abbrev pub most_lines : ℕ
most_lines = 4294967295

module _ (query_of : List ℕ → QueryStatus) where
  -- how many lines a command opens: a query those of its plan, and any other command none
  abbrev pub opens : Setup → State → Command → ℕ
  opens setup state (query_line text) = opened_by setup state (query_of text)
  opens setup state _ = 0

  -- A command has this reply and leaves this state, as the machine's step says; or it may want memory, and left the state.
  abbrev pub RepliesTo : {E : Type 0} → Setup → Command → State → State → Result Reply E → Type 0
  RepliesTo setup command old new (Ok reply) = (reply_text reply ≡ (step query_of setup old command).written) × (new ≡ (step query_of setup old command).after)
  RepliesTo setup command old new (Err refused) = MayWantMemory command × (new ≡ old)

  -- A command was answered: the writer received what the machine's step writes, or that a growth was refused where the
  -- command may want memory, this is the state that it leaves, and the lines that it opens are counted.
  abbrev pub AnswersOne : {W A E : Type 0} → (W → Option (List ℕ)) → Device W → Device W → Result A E → Setup → Command → Progress → Progress → Type 0
  AnswersOne contents out_old out_new result setup command old new = (starved : Bool) × (IsTrue starved → MayWantMemory command)
      × (new.state ≡ (step_unless query_of starved setup old.state command).after)
      × Adds starved (opens setup old.state command) old.opened new.opened
      × Writes contents out_old out_new result (step_unless query_of starved setup old.state command).written

module _ (query_of : List ℕ → QueryStatus) (asked : List ℕ → Command) where
  -- Each of these command lines in turn opened and counted its lines. A flag tells for each whether a growth was refused in it.
  abbrev pub AddInTurn : Setup → State → List (List ℕ) → List Bool → ℕ → ℕ → Type 0
  AddInTurn setup state [] flags old new = new ≡ old
  AddInTurn setup state (line ∷ lines) [] old new = ⊥
  AddInTurn setup state (line ∷ lines) (starved ∷ flags) old new = (mid : ℕ) × Adds starved (opens query_of setup state (asked line)) old mid
      × AddInTurn setup (step_unless query_of starved setup state (asked line)).after lines flags mid new

  -- These command lines may answer `text`, and leave the state and the number of opened lines in `new`.
  pub record MayAnswer (setup : Setup) (old : Progress) (commands : List (List ℕ)) (text : List ℕ) (new : Progress) : Type 0 where
    pub flags : List Bool
    pub each : length flags ≡ length commands
    pub only : OnlyForMemory asked commands flags
    pub text_is : text ≡ (run_commands query_of asked setup old.state commands flags).written
    pub new_is : new.state ≡ (run_commands query_of asked setup old.state commands flags).after
    pub opened_is : AddInTurn setup old.state commands flags old.opened new.opened

  -- These command lines were run to their end, and the writer received their answers.
  abbrev pub Ran : {W : Type 0} → (W → Option (List ℕ)) → Device W → Device W → Setup → Progress → List (List ℕ) → Progress → Type 0
  Ran contents out_old out_new setup old commands new = (text : List ℕ) × MayAnswer setup old commands text new × Received contents out_old out_new text

  -- Some first ones of these command lines were run, and the writer received a beginning of their answers.
  abbrev pub RanFirst : {W : Type 0} → (W → Option (List ℕ)) → Device W → Device W → Setup → Progress → List (List ℕ) → Progress → Type 0
  RanFirst contents out_old out_new setup old commands new = (before : List (List ℕ)) × BeginsLines before commands
      × (text : List ℕ) × MayAnswer setup old before text new × (part : List ℕ) × Begins part text × Received contents out_old out_new part

  -- A run of these command lines stopped: in the middle of an answer, or before one of them.
  abbrev pub StoppedIn : {W : Type 0} → (W → Option (List ℕ)) → Device W → Device W → RunFault → Setup → State → List (List ℕ) → Type 0
  StoppedIn contents old new faults.Write setup state commands = AnsweredInPart query_of asked contents old new setup state commands
  StoppedIn contents old new faults.Memory setup state commands = AnsweredFirst query_of asked contents old new setup state commands
  StoppedIn contents old new _ setup state commands = ⊥

  -- What the writer received where a script stopped, by the fault and by what its reader gave.
  abbrev pub ScriptStopped : {W : Type 0} → (W → Option (List ℕ)) → Device W → Device W → RunFault → Setup → State → Came → Type 0
  ScriptStopped contents old new faults.ReadScript setup state script = CameShort setup.script_most script
      × Answered query_of asked contents old new setup state (closed_lines (take setup.script_most script.bytes))
  ScriptStopped contents old new faults.Write setup state script = CameUpTo setup.script_most script
      × AnsweredInPart query_of asked contents old new setup state (lines_so_far script.ended (take setup.script_most script.bytes))
  ScriptStopped contents old new faults.Memory setup state script = CameUpTo setup.script_most script
      × AnsweredFirst query_of asked contents old new setup state (lines_so_far script.ended (take setup.script_most script.bytes))
  ScriptStopped contents old new _ setup state script = ⊥
