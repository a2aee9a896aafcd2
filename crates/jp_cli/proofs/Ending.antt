-- How a script ends by the commands that its lines ask for, and how a run ends by how its script ended.
use Rattle.std.proofs.Common.{◌≡◌, ◌∙◌, ◌≤◌, ℕ, List, [], ◌∷◌, ◌++◌, length, take, drop, map, sym, ap, subst, refl, Bool, true, false, Option, Some, None, Result, Ok, Err, MatchResult, append-nil, inr}
use Rattle.std.specs.Prelude.{OnOk, IfSome}
use Rattle.std.proofs.lemmas.List.{map-append}
use Rattle.std.specs.Io.KnownBytes.{Consumes, IsAtEnd}
use Rattle.jp_model.specs.declared.Setup.{Setup}
use Rattle.jp_model.specs.declared.RunFault.{RunFault}
use Rattle.jp_model.specs.declared.RunFault.TheVariants as faults
use Rattle.jp_devices.specs.Devices.{Came, Device, Gave, Received, Begins}
use Rattle.jp_cli.specs.Passed.{given_since}
use Rattle.std.proofs.Math.Seq.{drop-append_seam}
use Rattle.jp_model.specs.Lines.{text_lines, closed_lines, lines_so_far}
use Rattle.jp_model.specs.Query.Status.{QueryStatus}
use Rattle.jp_model.specs.Script.Commands.{without_final_cr, command_lines, closed_command_lines, command_of}
use Rattle.jp_model.specs.Script.Headline.{GivenToRun, WasLoaded, lines_within, loaded, Answered, AnsweredInPart, AnsweredFirst, RunEnded, RunStopped}
use Rattle.jp_model.specs.Script.Machine.{State, Outcome, step, step_unless, run_commands, OnlyForMemory}
use Rattle.jp_cli.specs.Commands.{asked_in}
use Rattle.jp_cli.specs.Runs.{Progress, Ran, RanFirst, ScriptStopped}
use Rattle.jp_cli.specs.Sessions.{HasRun, HasRunFirst, HasStopped}
use Rattle.jp_devices.proofs.Devices.{came_so}

module _ (query_of : List ℕ → QueryStatus) (setup : Setup) where
  -- lines as they came ask for what they ask without their final CR
  run_as : (state : State) (raws : List (List ℕ)) (flags : List Bool)
      → run_commands query_of asked_in setup state raws flags ≡ run_commands query_of command_of setup state (map without_final_cr raws) flags
  run_as state [] flags = refl
  run_as state (raw ∷ raws) [] =
      let first : Outcome = step query_of setup state (asked_in raw) in
      ap (λ (later : Outcome). let o : Outcome = record { written = first.written ++ later.written; after = later.after } in o) (run_as first.after raws [])
  run_as state (raw ∷ raws) (starved ∷ flags) =
      let first : Outcome = step_unless query_of starved setup state (asked_in raw) in
      ap (λ (later : Outcome). let o : Outcome = record { written = first.written ++ later.written; after = later.after } in o) (run_as first.after raws flags)

  only_as : (raws : List (List ℕ)) (flags : List Bool) → OnlyForMemory asked_in raws flags → OnlyForMemory command_of (map without_final_cr raws) flags
  only_as [] [] h = h
  only_as [] (starved ∷ flags) h = h
  only_as (raw ∷ raws) [] h = h
  only_as (raw ∷ raws) (starved ∷ flags) h = (h.0, only_as raws flags h.1)

  module _ {W : Type 0} (contents : W → Option (List ℕ)) (old new : Device W) where
    answered_as : (state : State) (raws : List (List ℕ)) → Answered query_of asked_in contents old new setup state raws
        → Answered query_of command_of contents old new setup state (map without_final_cr raws)
    answered_as state raws h = (h.0, only_as raws h.0 h.1, subst (λ (o : Outcome). Received contents old new o.written) (run_as state raws h.0) h.2)

    part_as : (state : State) (raws : List (List ℕ)) → AnsweredInPart query_of asked_in contents old new setup state raws
        → AnsweredInPart query_of command_of contents old new setup state (map without_final_cr raws)
    part_as state raws h =
        (h.0, h.1, only_as raws h.0 h.2, subst (λ (o : Outcome). Begins h.1 o.written) (run_as state raws h.0) h.3, h.4)

    first_as : (state : State) (raws : List (List ℕ)) → AnsweredFirst query_of asked_in contents old new setup state raws
        → AnsweredFirst query_of command_of contents old new setup state (map without_final_cr raws)
    first_as state raws h =
        (map without_final_cr h.0, (map without_final_cr h.1.0, ap (map without_final_cr) h.1.1 ∙ map-append without_final_cr h.0 h.1.0), answered_as state h.0 h.2)

    ran_as : (first last : Progress) (raws : List (List ℕ)) → RanFirst query_of asked_in contents old new setup first raws last
        → HasRunFirst query_of command_of contents old new setup first.state (map without_final_cr raws) last.state
    ran_as first last raws h =
        let may = h.3 in let is = run_as first.state h.0 may.flags in (
          map without_final_cr h.0,
          (map without_final_cr h.1.0, ap (map without_final_cr) h.1.1 ∙ map-append without_final_cr h.0 h.1.0),
          may.flags,
          h.4,
          only_as h.0 may.flags may.only,
          subst (λ (o : Outcome). Begins h.4 o.written) is (subst (Begins h.4) may.text_is h.5),
          h.6,
          may.new_is ∙ ap (λ (o : Outcome). o.after) is,
        )

    -- what is known of a script, by the commands that its lines ask for
    pub script_ends : (result : Result (Unit {0}) RunFault) (first last : Progress) (came : Came)
        → MatchResult result
        (λ _. (came.ended ≡ true) × (length came.bytes ≤ setup.script_most) × Ran query_of asked_in contents old new setup first (text_lines came.bytes) last)
        (λ fault. ScriptStopped query_of asked_in contents old new fault setup first.state came
        × RanFirst query_of asked_in contents old new setup first (lines_so_far came.ended (take setup.script_most came.bytes)) last)
        → MatchResult result
        (λ _. (came.ended ≡ true) × HasRun query_of command_of contents old new setup first.state came.bytes last.state)
        (λ fault. HasStopped query_of command_of contents old new setup first.state fault came
        × HasRunFirst query_of command_of contents old new setup first.state (lines_within setup came) last.state)
    script_ends (Ok x) first last came h =
        let raws = text_lines came.bytes in let may = h.2.1 in
        let is = run_as first.state raws may.flags in (
          h.0,
          (
            h.1,
            may.flags,
            only_as raws may.flags may.only,
            subst (λ (o : Outcome). Received contents old new o.written) is (subst (Received contents old new) may.text_is h.2.2),
            may.new_is ∙ ap (λ (o : Outcome). o.after) is,
          ),
        )
    script_ends (Err faults.ReadCollection) first last came h = absurd h.0
    script_ends (Err faults.Size) first last came h = absurd h.0
    script_ends (Err faults.Framing) first last came h = absurd h.0
    script_ends (Err faults.ReadScript) first last came h =
        ((h.0.0, answered_as first.state (closed_lines (take setup.script_most came.bytes)) h.0.1), ran_as first last (lines_so_far came.ended (take setup.script_most came.bytes)) h.1)
    script_ends (Err faults.Write) first last came h =
        ((h.0.0, part_as first.state (lines_so_far came.ended (take setup.script_most came.bytes)) h.0.1), ran_as first last (lines_so_far came.ended (take setup.script_most came.bytes)) h.1)
    script_ends (Err faults.Memory) first last came h =
        ((h.0.0, first_as first.state (lines_so_far came.ended (take setup.script_most came.bytes)) h.0.1), ran_as first last (lines_so_far came.ended (take setup.script_most came.bytes)) h.1)

    -- what is known of the whole run
    pub ends : (result : Result (Unit {0}) RunFault) (first last : State) (given : GivenToRun)
        → WasLoaded setup given.collection → first ≡ loaded setup given.collection.bytes
        → MatchResult result
        (λ _. (given.script.ended ≡ true) × HasRun query_of command_of contents old new setup first given.script.bytes last)
        (λ fault. HasStopped query_of command_of contents old new setup first fault given.script
        × HasRunFirst query_of command_of contents old new setup first (lines_within setup given.script) last)
        → MatchResult result
        (λ _. RunEnded query_of command_of contents old new setup given.collection.bytes given.script.bytes)
        (λ fault. RunStopped query_of command_of contents old new fault setup given)
    ends (Ok x) first last given was is h =
        (was.1, h.1.0, subst (λ s. Answered query_of command_of contents old new setup s (command_lines given.script.bytes)) is (h.1.1, h.1.2, h.1.3))
    ends (Err faults.ReadCollection) first last given was is h = absurd h.0
    ends (Err faults.Size) first last given was is h = absurd h.0
    ends (Err faults.Framing) first last given was is h = absurd h.0
    ends (Err faults.ReadScript) first last given was is h =
        (was, h.0.0, subst (λ s. Answered query_of command_of contents old new setup s (closed_command_lines (take setup.script_most given.script.bytes))) is h.0.1)
    ends (Err faults.Write) first last given was is h =
        (was, h.0.0, subst (λ s. AnsweredInPart query_of command_of contents old new setup s (lines_within setup given.script)) is h.0.1)
    ends (Err faults.Memory) first last given was is h =
        inr (was, h.0.0, subst (λ s. AnsweredFirst query_of command_of contents old new setup s (lines_within setup given.script)) is h.0.1)

-- no byte of the script came, and the collection did not come to its end
abbrev pub only_collection : Came → GivenToRun
only_collection came = record { collection = came; script = came_so [] false false }

-- the bytes that came are all, where the reader is at its end
pub all_came : (old new : Option (List ℕ)) (bytes : List ℕ) → Consumes old new bytes → IsAtEnd new → IfSome old (λ all. bytes ≡ all)
all_came None new bytes h e = tt
all_came (Some all) None bytes h e = absurd h
all_came (Some all) (Some left) bytes h e = sym (h ∙ ap (λ l. bytes ++ l) e ∙ append-nil bytes)

pub if_some : {A : Type 0} (P Q : A → Type 0) (o : Option A) → IfSome o P → ((x : A) → P x → Q x) → IfSome o Q
if_some P Q None h f = tt
if_some P Q (Some x) h f = f x h

-- so what holds of the bytes that came holds of all
pub told_of_all : {X F : Type 0} (result : Result X F) (Stops : F → Type 0) (c0 c1 s0 s1 : Option (List ℕ)) (c s : List ℕ) (P : List ℕ → List ℕ → Type 0)
    → Consumes c0 c1 c → Consumes s0 s1 s → OnOk result (IsAtEnd c1 × IsAtEnd s1) → MatchResult result (λ _. P c s) Stops
    → OnOk result (IfSome c0 (λ c. IfSome s0 (λ s. P c s)))
told_of_all (Err fault) Stops c0 c1 s0 s1 c s P h k ended out = tt
told_of_all (Ok x) Stops c0 c1 s0 s1 c s P h k ended out =
    if_some (λ all. c ≡ all) (λ c. IfSome s0 (λ s. P c s)) c0 (all_came c0 c1 c h ended.0)
    (λ all e. if_some (λ every. s ≡ every) (λ s. P all s) s0 (all_came s0 s1 s k ended.1) (λ every f. subst (P all) f (subst (λ t. P t s) e out)))

pub both_ended : {X F : Type 0} (result : Result X F) (A B : Type 0) → A → OnOk result B → OnOk result (A × B)
both_ended (Err fault) A B a b = tt
both_ended (Ok x) A B a b = (a, b)

-- the bytes that a reader gave are those that its reads added
pub since : {R : Type 0} (remaining : R → Option (List ℕ)) (old new : Device R) (bytes : List ℕ) → Gave remaining old new bytes → bytes ≡ given_since old new
since remaining old new bytes gave = sym (ap (drop (length old.given)) gave.given ∙ drop-append_seam old.given bytes)

-- so what holds of the bytes that both readers gave holds of those
pub passed_by_all : {X F R S : Type 0} (result : Result X F) (Stops : F → Type 0) (remaining : R → Option (List ℕ)) (others : S → Option (List ℕ)) (c0 c1 : Device R) (s0 s1 : Device S) (c s : List ℕ) (P : List ℕ → List ℕ → Type 0)
    → Gave remaining c0 c1 c → Gave others s0 s1 s → MatchResult result (λ _. P c s) Stops → OnOk result (P (given_since c0 c1) (given_since s0 s1))
passed_by_all (Err fault) Stops remaining others c0 c1 s0 s1 c s P h k out = tt
passed_by_all (Ok x) Stops remaining others c0 c1 s0 s1 c s P h k out =
    subst (λ b. P b (given_since s0 s1)) (since remaining c0 c1 c h) (subst (P c) (since others s0 s1 s k) out)
