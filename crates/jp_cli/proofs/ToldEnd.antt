-- How the program ends, by how its run ended: what a buffer took is what the writer behind it took, and then what it holds.
use Rattle.std.proofs.Common.{◌≡◌, ◌∙◌, ℕ, List, [], ◌++◌, take, take_all, append-nil, sym, ap, subst, refl, le_refl, le_trans, le-add_right, Bool, true, false, Option, Some, Result, Ok, Err, MatchResult, inl, inr}
use Rattle.std.specs.Prelude.{OnOk}
use Rattle.std.specs.Io.Buffered.{writer_buffer, writer_contents, writer_inner}
use Rattle.std.specs.declared.io.buffered.BufWriter.{BufWriter}
use Rattle.jp_model.specs.declared.Setup.{Setup}
use Rattle.jp_model.specs.declared.RunFault.{RunFault}
use Rattle.jp_model.specs.declared.RunFault.TheVariants as faults
use Rattle.jp_devices.specs.Devices.{Came, CameUpTo, Device, GaveUpTo, HasEnded, Received}
use Rattle.jp_model.specs.Query.Status.{QueryStatus}
use Rattle.jp_model.specs.Script.Commands.{Command, command_lines, command_lines_so_far}
use Rattle.jp_model.specs.Script.Headline.{GivenToRun, RunEnded, RunStopped, AnsweredInPart, loaded}
use Rattle.jp_model.specs.Script.Machine.{run_commands}
use Rattle.jp_devices.proofs.Devices.{or_true}
use Rattle.jp_cli.specs.declared.end.End.{End}
use Rattle.jp_devices.specs.Buffered.{Took, untold}
use Rattle.jp_cli.specs.Buffered.{ProgramEnded, end_told}

-- a reader that came to its end, told so
abbrev pub came_to_end : Came → Came
came_to_end came = record came { ended = true }

pub gave_to_end : {R : Type 0} (remaining : R → Option (List ℕ)) (old new : Device R) (came : Came)
    → new.ended ≡ true → HasEnded remaining new
    → GaveUpTo remaining old new came → GaveUpTo remaining old new (came_to_end came)
gave_to_end remaining old new came ended left gave = (gave.0, ended ∙ or_true old.ended, gave.2, λ e. left)

-- the bytes that went into a buffer: those that the writer behind it took, and then those that it holds
abbrev pub put_into : {W A : Type 0} → BufWriter (Device W) A → List ℕ
put_into buffered = (writer_inner buffered).taken ++ writer_buffer buffered

-- what a buffer received is what went to the writer behind it, and then what the buffer holds
pub carried : {W A : Type 0} (out whole : Device W) (a b : Device (BufWriter (Device W) A))
    → writer_inner a.device ≡ out → writer_buffer a.device ≡ []
    → whole.taken ≡ put_into b.device
    → (bytes : List ℕ) → Received (writer_contents (λ w. Some w.taken)) a b bytes → Received untold out whole bytes
carried out whole a b behind empty is bytes received =
    let began : put_into a.device ≡ out.taken =
    ap (λ l. (writer_inner a.device).taken ++ l) empty ∙ append-nil _ ∙ ap (λ w. w.taken) behind in
    record { taken = is ∙ received.held ∙ ap (λ l. l ++ bytes) began; held = tt }

module _ (query_of : List ℕ → QueryStatus) (asked : List ℕ → Command) where
  -- what one writer received is what another one did, so they are told the same of
  module _ {V W : Type 0} (contents : V → Option (List ℕ)) (others : W → Option (List ℕ)) (a b : Device V) (old new : Device W)
      (carry : (bytes : List ℕ) → Received contents a b bytes → Received others old new bytes) (setup : Setup) where
    pub ended_as : (collection script : List ℕ) → RunEnded query_of asked contents a b setup collection script
        → RunEnded query_of asked others old new setup collection script
    ended_as collection script ran = (ran.0, ran.1, (ran.2.0, ran.2.1, carry _ ran.2.2))

    pub stopped_as : (fault : RunFault) (given : GivenToRun) → RunStopped query_of asked contents a b fault setup given
        → RunStopped query_of asked others old new fault setup given
    stopped_as faults.ReadCollection given ran = (ran.0, ran.1, carry _ ran.2)
    stopped_as faults.Size given ran = (ran.0, ran.1, carry _ ran.2)
    stopped_as faults.Framing given ran = (ran.0, ran.1, ran.2, carry _ ran.3)
    stopped_as faults.ReadScript given ran = (ran.0, ran.1, (ran.2.0, ran.2.1, carry _ ran.2.2))
    stopped_as faults.Write given ran = (ran.0, ran.1, (ran.2.0, ran.2.1, ran.2.2, ran.2.3, carry _ ran.2.4))
    stopped_as faults.Memory given (inl ran) = inl (ran.0, carry _ ran.1)
    stopped_as faults.Memory given (inr ran) = inr (ran.0, ran.1, (ran.2.0, ran.2.1, (ran.2.2.0, ran.2.2.1, carry _ ran.2.2.2)))

  -- a run that came to its end may be told as one whose writer failed at the last
  pub ended_and_failed : {W : Type 0} (contents : W → Option (List ℕ)) (old new : Device W) (setup : Setup) (given : GivenToRun)
      → given.collection.ended ≡ true → given.script.ended ≡ true
      → RunEnded query_of asked contents old new setup given.collection.bytes given.script.bytes
      → RunStopped query_of asked contents old new faults.Write setup given
  ended_and_failed contents old new setup given collection_ended script_ended ran =
      let flags = ran.2.0 in
      let output = (run_commands query_of asked setup (loaded setup given.collection.bytes) (command_lines given.script.bytes) flags).written in
      let same : command_lines given.script.bytes ≡ command_lines_so_far given.script.ended (take setup.script_most given.script.bytes) =
      sym (ap (λ b. command_lines_so_far b (take setup.script_most given.script.bytes)) script_ended
      ∙ ap (command_lines_so_far true) (take_all _ given.script.bytes ran.1)) in
      let within : CameUpTo setup.script_most given.script =
      record { bytes = le_trans ran.1 (le-add_right setup.script_most 1); end = λ e. ran.1 } in (
        (collection_ended, ran.0),
        within,
        subst (AnsweredInPart query_of asked contents old new setup (loaded setup given.collection.bytes)) same
            (flags, output, ran.2.1, take_all _ output (le_refl _), ran.2.2),
      )

  -- how the program ends, by how its run ended through a buffer, whose bytes go to the writer behind it
  module _ {V W : Type 0} (contents : V → Option (List ℕ)) (a b : Device V) (old new whole : Device W) (setup : Setup)
      (carry : (bytes : List ℕ) → Received contents a b bytes → Received untold old whole bytes)
      (took : Took new whole) (flushed : new.failed ≡ false → new.unflushed ≡ false) (failed : Bool) (is : new.failed ≡ failed) where
    told_done : {X : Type 0} (x : X) (has_failed : Bool) → new.failed ≡ has_failed → (given : GivenToRun)
        → (given.collection.ended ≡ true) × (given.script.ended ≡ true)
        → RunEnded query_of asked contents a b setup given.collection.bytes given.script.bytes
        → ProgramEnded query_of asked old new setup given (end_told (Ok x) has_failed)
    told_done x false fine given ended ran =
        let carry_all : (bytes : List ℕ) → Received contents a b bytes → Received untold old new bytes =
        λ bytes received. record { taken = took.all fine ∙ (carry bytes received).taken; held = tt } in
        (fine, flushed fine, ended_as contents untold a b old new carry_all setup given.collection.bytes given.script.bytes ran)
    told_done x true bad given ended ran =
        let all = ended_as contents untold a b old whole carry setup given.collection.bytes given.script.bytes ran in
        (whole, took, ended_and_failed untold old whole setup given ended.0 ended.1 all)

    told_end : {X : Type 0} (result : Result X RunFault) (given : GivenToRun)
        → OnOk result ((given.collection.ended ≡ true) × (given.script.ended ≡ true))
        → MatchResult result (λ _. RunEnded query_of asked contents a b setup given.collection.bytes given.script.bytes)
        (λ fault. RunStopped query_of asked contents a b fault setup given)
        → ProgramEnded query_of asked old new setup given (end_told result failed)
    told_end (Ok x) given ended ran = told_done x failed is given ended ran
    told_end (Err fault) given ended ran = (whole, took, stopped_as contents untold a b old whole carry setup fault given ran)

    pub program_ended : {X C R : Type 0} (result : Result X RunFault) (end : End) → end ≡ end_told result failed
        → (remaining : C → Option (List ℕ)) (others : R → Option (List ℕ)) (c0 c1 : Device C) (s0 s1 : Device R) (given : GivenToRun)
        → GaveUpTo remaining c0 c1 given.collection → GaveUpTo others s0 s1 given.script
        → OnOk result ((c1.ended ≡ true) × (s1.ended ≡ true)) → OnOk result (HasEnded remaining c1 × HasEnded others s1)
        → MatchResult result (λ _. RunEnded query_of asked contents a b setup given.collection.bytes given.script.bytes)
        (λ fault. RunStopped query_of asked contents a b fault setup given)
        → (g : GivenToRun) × GaveUpTo remaining c0 c1 g.collection × GaveUpTo others s0 s1 g.script
        × ProgramEnded query_of asked old new setup g end
    program_ended {X = X} (Err fault) end told remaining others c0 c1 s0 s1 given collection script ends left ran = (
      given,
      collection,
      script,
      subst (ProgramEnded query_of asked old new setup given) (sym told) (told_end {X = X} (Err fault) given tt ran),
    )
    program_ended (Ok x) end told remaining others c0 c1 s0 s1 given collection script ends left ran =
        let all : GivenToRun = record { collection = came_to_end given.collection; script = came_to_end given.script } in (
          all,
          gave_to_end remaining c0 c1 given.collection ends.0 left.0 collection,
          gave_to_end others s0 s1 given.script ends.1 left.1 script,
          subst (ProgramEnded query_of asked old new setup all) (sym told) (told_end (Ok x) all (refl, refl) ran),
        )
