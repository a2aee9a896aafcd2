-- Runs of command lines, one after another.
use Rattle.std.proofs.Common.{◌≡◌, ℕ, List, [], ◌∷◌, ◌++◌, length, Bool, false, refl, sym, ap, ◌∙◌, append-nil, append_assoc, arith, subst, IsTrue, length-append}
use Rattle.jp_model.specs.declared.Setup.{Setup}
use Rattle.jp_model.specs.Query.Status.{QueryStatus}
use Rattle.jp_model.specs.Script.Commands.{Command, MayWantMemory}
use Rattle.jp_model.specs.Script.Machine.{State, run_commands, step_unless, OnlyForMemory}
use Rattle.jp_cli.specs.Runs.{Progress, opens, Adds, AddInTurn, MayAnswer}

module _ (query_of : List ℕ → QueryStatus) (asked : List ℕ → Command) (setup : Setup) where
  pub run-append_text : (state : State) (lines more : List (List ℕ)) (flags later : List Bool) → length flags ≡ length lines
      → (run_commands query_of asked setup state (lines ++ more) (flags ++ later)).written ≡ (run_commands query_of asked setup state lines flags).written ++ (run_commands query_of asked setup (run_commands query_of asked setup state lines flags).after more later).written
  run-append_text state [] more [] later e = refl
  run-append_text state [] more (r ∷ flags) later e = absurd (omega arith)
  run-append_text state (line ∷ lines) more [] later e = absurd (omega arith)
  run-append_text state (line ∷ lines) more (r ∷ flags) later e =
      ap (λ t. (step_unless query_of r setup state (asked line)).written ++ t) (run-append_text (step_unless query_of r setup state (asked line)).after lines more flags later (omega arith))
      ∙ sym (append_assoc (step_unless query_of r setup state (asked line)).written (run_commands query_of asked setup (step_unless query_of r setup state (asked line)).after lines flags).written
      (run_commands query_of asked setup (run_commands query_of asked setup (step_unless query_of r setup state (asked line)).after lines flags).after more later).written)

  pub run-append_lines : (state : State) (lines more : List (List ℕ)) (flags later : List Bool) → length flags ≡ length lines
      → (run_commands query_of asked setup state (lines ++ more) (flags ++ later)).after ≡ (run_commands query_of asked setup (run_commands query_of asked setup state lines flags).after more later).after
  run-append_lines state [] more [] later e = refl
  run-append_lines state [] more (r ∷ flags) later e = absurd (omega arith)
  run-append_lines state (line ∷ lines) more [] later e = absurd (omega arith)
  run-append_lines state (line ∷ lines) more (r ∷ flags) later e = run-append_lines (step_unless query_of r setup state (asked line)).after lines more flags later (omega arith)

  pub only-append : (lines more : List (List ℕ)) (flags later : List Bool) → length flags ≡ length lines
      → OnlyForMemory asked lines flags → OnlyForMemory asked more later → OnlyForMemory asked (lines ++ more) (flags ++ later)
  only-append [] more [] later e p q = q
  only-append [] more (r ∷ flags) later e p q = absurd (omega arith)
  only-append (line ∷ lines) more [] later e p q = absurd (omega arith)
  only-append (line ∷ lines) more (r ∷ flags) later e p q = (p.0, only-append lines more flags later (omega arith) p.1 q)

  -- where no growth was flags in what follows
  pub only_none : (lines : List (List ℕ)) → OnlyForMemory asked lines []
  only_none [] = tt
  only_none (line ∷ lines) = tt

  pub only-before : (lines more : List (List ℕ)) (flags : List Bool) → OnlyForMemory asked lines flags → OnlyForMemory asked (lines ++ more) flags
  only-before [] more [] p = only_none more
  only-before [] more (r ∷ flags) p = absurd p
  only-before (line ∷ lines) more [] p = tt
  only-before (line ∷ lines) more (r ∷ flags) p = (p.0, only-before lines more flags p.1)

  pub run-before_text : (state : State) (lines more : List (List ℕ)) (flags : List Bool) → OnlyForMemory asked lines flags
      → (run_commands query_of asked setup state (lines ++ more) flags).written ≡ (run_commands query_of asked setup state lines flags).written ++ (run_commands query_of asked setup (run_commands query_of asked setup state lines flags).after more []).written
  run-before_text state [] more [] p = refl
  run-before_text state [] more (r ∷ flags) p = absurd p
  run-before_text state (line ∷ lines) more [] p =
      let next = step_unless query_of false setup state (asked line) in
      ap (λ t. next.written ++ t) (run-before_text next.after lines more [] (only_none lines))
      ∙ sym (append_assoc next.written (run_commands query_of asked setup next.after lines []).written (run_commands query_of asked setup (run_commands query_of asked setup next.after lines []).after more []).written)
  run-before_text state (line ∷ lines) more (r ∷ flags) p =
      let next = step_unless query_of r setup state (asked line) in
      ap (λ t. next.written ++ t) (run-before_text next.after lines more flags p.1)
      ∙ sym (append_assoc next.written (run_commands query_of asked setup next.after lines flags).written (run_commands query_of asked setup (run_commands query_of asked setup next.after lines flags).after more []).written)

  -- what is counted of some command lines and then of more
  add_more : (state : State) (lines more : List (List ℕ)) (flags later : List Bool) (a b c : ℕ) → length flags ≡ length lines
      → AddInTurn query_of asked setup state lines flags a b → AddInTurn query_of asked setup (run_commands query_of asked setup state lines flags).after more later b c
      → AddInTurn query_of asked setup state (lines ++ more) (flags ++ later) a c
  add_more state [] more [] later a b c e p q = subst (λ (n : ℕ). AddInTurn query_of asked setup state more later n c) p q
  add_more state [] more (r ∷ flags) later a b c e p q = absurd (omega arith)
  add_more state (line ∷ lines) more [] later a b c e p q = absurd p
  add_more state (line ∷ lines) more (r ∷ flags) later a b c e p q =
      (p.0, p.1, add_more (step_unless query_of r setup state (asked line)).after lines more flags later p.0 b c (omega arith) p.2 q)

  pub answer_none : (old : Progress) → MayAnswer query_of asked setup old [] [] old
  answer_none old = record { flags = []; each = refl; only = tt; text_is = refl; new_is = refl; opened_is = refl }

  pub answer_more : (old mid new : Progress) (first more : List (List ℕ)) (xs ys : List ℕ) → MayAnswer query_of asked setup old first xs mid → MayAnswer query_of asked setup mid more ys new → MayAnswer query_of asked setup old (first ++ more) (xs ++ ys) new
  answer_more old mid new first more xs ys p q = record {
    flags = p.flags ++ q.flags;
    each = omega (arith, length-append p.flags q.flags, length-append first more, p.each, q.each);
    only = only-append first more p.flags q.flags p.each p.only q.only;
    text_is = let e = run-append_text old.state first more p.flags q.flags p.each in
        let n = p.new_is in
        let t = p.text_is in
        let u = q.text_is in
        cc;
    new_is = let e = run-append_lines old.state first more p.flags q.flags p.each in
        let n = p.new_is in
        let u = q.new_is in
        cc;
    opened_is = add_more old.state first more p.flags q.flags old.opened mid.opened new.opened p.each p.opened_is
        (subst (λ (s : State). AddInTurn query_of asked setup s more q.flags mid.opened new.opened) p.new_is q.opened_is);
  }

  -- one command line
  pub answer_one : (old new : Progress) (line text : List ℕ) (starved : Bool) → (IsTrue starved → MayWantMemory (asked line))
      → text ≡ (step_unless query_of starved setup old.state (asked line)).written → new.state ≡ (step_unless query_of starved setup old.state (asked line)).after
      → Adds starved (opens query_of setup old.state (asked line)) old.opened new.opened → MayAnswer query_of asked setup old (line ∷ []) text new
  answer_one old new line text starved only e f adds = record {
    flags = starved ∷ [];
    each = refl;
    only = (only, tt);
    text_is = e ∙ sym (append-nil _);
    new_is = f;
    opened_is = (new.opened, adds, refl);
  }
