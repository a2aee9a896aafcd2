-- A reply, written, is the answer of its command.
use Rattle.std.proofs.Common.{◌≡◌, ℕ, ◌+◌, List, true, false, subst, codes, arith}
use Rattle.std.specs.Prelude.{Result, Ok, Err, Option, OnOk}
use Rattle.std.proofs.lemmas.Bool.{false≢true}
use Rattle.jp_model.specs.declared.Setup.{Setup}
use Rattle.jp_devices.specs.Devices.{Device, Writes}
use Rattle.jp_model.specs.Query.Status.{QueryStatus}
use Rattle.jp_model.specs.Script.Commands.{Command, MayWantMemory}
use Rattle.jp_model.specs.Script.Machine.{State, error, step}
use Rattle.jp_cli.specs.Replies.{reply_text, answered_text}
use Rattle.jp_cli.specs.Runs.{Progress, at, opens, Adds, RepliesTo, AnswersOne}
use Rattle.jp_cli.specs.declared.reply.Reply.{Reply}

module _ (query_of : List ℕ → QueryStatus) (setup : Setup) (command : Command) {W A F : Type 0} (contents : W → Option (List ℕ)) (before after : Device W) (result : Result A F) where
  -- the machine's step was written
  pub stepped : (old new : Progress) (text : List ℕ) → text ≡ (step query_of setup old.state command).written → new.state ≡ (step query_of setup old.state command).after
      → new.opened ≡ old.opened + opens query_of setup old.state command → Writes contents before after result text → AnswersOne query_of contents before after result setup command old new
  stepped old new text e s n w = (false, λ h. absurd (false≢true h), s, n, subst (Writes contents before after result) e w)

  -- a growth was refused
  pub starved : (old new : Progress) → MayWantMemory command → new.state ≡ old.state → Adds true (opens query_of setup old.state command) old.opened new.opened
      → Writes contents before after result (error (codes "memory")) → AnswersOne query_of contents before after result setup command old new
  starved old new may s n w = (true, λ h. may, s, n, w)

  -- no line was opened
  pub replied : {E : Type 0} (reply : Result Reply E) (old new : State) (n : ℕ) → OnOk reply (opens query_of setup old command ≡ 0) → RepliesTo query_of setup command old new reply
      → Writes contents before after result (answered_text reply) → AnswersOne query_of contents before after result setup command (at old n) (at new n)
  replied (Ok r) old new n none p w = stepped (at old n) (at new n) (reply_text r) p.0 p.1 (omega (arith, none)) w
  replied (Err e) old new n none p w = starved (at old n) (at new n) p.0 p.1 (omega arith, omega arith) w
