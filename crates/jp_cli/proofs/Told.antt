-- What a reader that tells its bytes gave is a beginning of them, and at its end all.
use Rattle.std.proofs.Common.{◌≡◌, ◌∙◌, ◌≤◌, ℕ, List, [], ◌++◌, length, take, drop, map, sym, ap, subst, refl, Bool, true, false, Option, Some, None, Result, Ok, Err, MatchResult, append-nil, append_assoc, take-append-drop}
use Rattle.std.specs.Prelude.{IfSome}
use Rattle.std.proofs.lemmas.List.{map-append, take_all}
use Rattle.std.proofs.lemmas.Bool.{true≢false}
use Rattle.std.specs.Io.KnownBytes.{Consumes, IsAtEnd}
use Rattle.jp_model.specs.declared.Setup.{Setup}
use Rattle.jp_model.specs.declared.RunFault.{RunFault}
use Rattle.jp_model.specs.declared.RunFault.TheVariants as faults
use Rattle.jp_devices.specs.Devices.{Came, Device, GaveUpTo}
use Rattle.jp_model.specs.Lines.{closed_lines, line_unless_empty, lines_so_far, open_line, text_lines}
use Rattle.jp_model.specs.Query.Status.{QueryStatus}
use Rattle.jp_model.specs.Script.Commands.{Command, command_lines, without_final_cr}
use Rattle.jp_model.specs.Script.Headline.{BeginsLines, lines_within}
use Rattle.jp_model.specs.Script.Machine.{State}
use Rattle.jp_model.proofs.Pieces.{closed-append}
use Rattle.jp_cli.specs.Sessions.{HasRun, HasRunFirst, HasStopped}
use Rattle.jp_cli.proofs.Ending.{all_came, if_some}

begins_more : (first middle all : List (List ℕ)) → BeginsLines first middle → BeginsLines middle all → BeginsLines first all
begins_more first middle all h k = (h.0 ++ k.0, k.1 ∙ ap (λ l. l ++ k.0) h.1 ∙ append_assoc first h.0 k.0)

-- the closed lines of a beginning begin the lines of the whole
closed_begin : (front back : List ℕ) → BeginsLines (closed_lines front) (text_lines (front ++ back))
closed_begin front back =
    let rest = closed_lines (open_line front ++ back) in
    let last = line_unless_empty (open_line (front ++ back)) in
    (rest ++ last, ap (λ l. l ++ last) (closed-append 0x0A front back) ∙ append_assoc (closed_lines front) rest last)

-- the lines that came within a limit begin those of the whole script
lines_begin : (most : ℕ) (ended : Bool) (bytes s back : List ℕ) → s ≡ bytes ++ back → (ended ≡ true → (back ≡ []) × (length bytes ≤ most))
    → BeginsLines (lines_so_far ended (take most bytes)) (text_lines s)
lines_begin most true bytes s back e whole =
    let w = whole refl in
    ([], ap text_lines (e ∙ ap (λ b. bytes ++ b) w.0 ∙ append-nil bytes ∙ sym (take_all most bytes w.1)) ∙ sym (append-nil (text_lines (take most bytes))))
lines_begin most false bytes s back e whole =
    let cut : s ≡ take most bytes ++ (drop most bytes ++ back) =
    e ∙ ap (λ b. b ++ back) (sym (take-append-drop most bytes)) ∙ append_assoc (take most bytes) (drop most bytes) back in
    subst (λ t. BeginsLines (closed_lines (take most bytes)) (text_lines t)) (sym cut) (closed_begin (take most bytes) (drop most bytes ++ back))

-- so do the commands
commands_begin : (setup : Setup) (came : Came) (s back : List ℕ) → s ≡ came.bytes ++ back → (came.ended ≡ true → (back ≡ []) × (length came.bytes ≤ setup.script_most))
    → BeginsLines (lines_within setup came) (command_lines s)
commands_begin setup came s back e whole =
    let some = lines_begin setup.script_most came.ended came.bytes s back e whole in
    (map without_final_cr some.0, ap (map without_final_cr) some.1 ∙ map-append without_final_cr (lines_so_far came.ended (take setup.script_most came.bytes)) some.0)

-- what a reader that tells its bytes has left
what_is_left : (all : List ℕ) (new : Option (List ℕ)) (bytes : List ℕ) → Consumes (Some all) new bytes
    → (back : List ℕ) × (all ≡ bytes ++ back) × (IsAtEnd new → back ≡ [])
what_is_left all None bytes h = absurd h
what_is_left all (Some left) bytes h = (left, h, λ e. e)

module _ (query_of : List ℕ → QueryStatus) (asked : List ℕ → Command) {W : Type 0} (contents : W → Option (List ℕ)) (o0 o1 : Device W) (setup : Setup) (old new : State) {R : Type 0} (remaining : R → Option (List ℕ)) (s0 s1 : Device R) where
  up_to_end : (fault : RunFault) (came : Came) → HasStopped query_of asked contents o0 o1 setup old fault came → came.ended ≡ true → length came.bytes ≤ setup.script_most
  up_to_end faults.ReadCollection came h e = absurd h
  up_to_end faults.Size came h e = absurd h
  up_to_end faults.Framing came h e = absurd h
  up_to_end faults.ReadScript came h e = absurd (true≢false (sym e ∙ h.0.going))
  up_to_end faults.Write came h e = h.0.end e
  up_to_end faults.Memory came h e = h.0.end e

  first_told : (fault : RunFault) (came : Came) → GaveUpTo remaining s0 s1 came → HasStopped query_of asked contents o0 o1 setup old fault came
      → HasRunFirst query_of asked contents o0 o1 setup old (lines_within setup came) new
      → (all : Option (List ℕ)) → remaining s0.device ≡ all → IfSome all (λ s. HasRunFirst query_of asked contents o0 o1 setup old (command_lines s) new)
  first_told fault came gave stop h None is = tt
  first_told fault came gave stop h (Some s) is =
      let left = what_is_left s (remaining s1.device) came.bytes (subst (λ o. Consumes o (remaining s1.device) came.bytes) is gave.0.left) in
      let begins = commands_begin setup came s left.0 left.1 (λ e. (left.2 (gave.3 e), up_to_end fault came stop e)) in
      (h.0, begins_more h.0 (lines_within setup came) (command_lines s) h.1 begins, h.2, h.3, h.4, h.5, h.6, h.7)

  -- so what is said of the bytes that came is said of all
  pub script_told : {X : Type 0} (result : Result X RunFault) (came : Came) → GaveUpTo remaining s0 s1 came
      → MatchResult result
      (λ _. (came.ended ≡ true) × HasRun query_of asked contents o0 o1 setup old came.bytes new)
      (λ fault. HasStopped query_of asked contents o0 o1 setup old fault came × HasRunFirst query_of asked contents o0 o1 setup old (lines_within setup came) new)
      → MatchResult result
      (λ _. IfSome (remaining s0.device) (λ s. HasRun query_of asked contents o0 o1 setup old s new))
      (λ _. IfSome (remaining s0.device) (λ s. HasRunFirst query_of asked contents o0 o1 setup old (command_lines s) new))
  script_told (Ok x) came gave h =
      if_some (λ s. came.bytes ≡ s) (λ s. HasRun query_of asked contents o0 o1 setup old s new) (remaining s0.device)
      (all_came (remaining s0.device) (remaining s1.device) came.bytes gave.0.left (gave.3 h.0))
      (λ s e. subst (λ t. HasRun query_of asked contents o0 o1 setup old t new) e h.1)
  script_told (Err fault) came gave h = first_told fault came gave h.0 h.1 (remaining s0.device) refl
