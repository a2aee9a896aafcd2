-- What the writer received over one run of command lines after another.
use Rattle.std.proofs.Common.{◌≡◌, ℕ, List, [], ◌++◌, length, drop, sym, ap, ◌∙◌, append-nil, append_assoc, subst, take-append-drop}
use Rattle.std.proofs.Math.Seq.{take-append_seam}
use Rattle.std.specs.Io.KnownBytes.{Keeps}
use Rattle.std.specs.Prelude.{Option}
use Rattle.jp_model.specs.declared.Setup.{Setup}
use Rattle.jp_devices.specs.Devices.{Device, Received, Begins}
use Rattle.jp_devices.proofs.Devices.{received_kept, received_more, received_none}
use Rattle.jp_model.specs.Query.Status.{QueryStatus}
use Rattle.jp_model.specs.Script.Commands.{Command}
use Rattle.jp_model.specs.Script.Headline.{Answered, AnsweredInPart}
use Rattle.jp_model.specs.Script.Machine.{State, run_commands}
use Rattle.jp_cli.specs.Runs.{Progress, MayAnswer, Ran, RanFirst}
use Rattle.jp_cli.proofs.Runs.{answer_none, answer_more, run-append_text, only-append, only-before, run-before_text}

-- a beginning of a text, after another and before more
pub begins_within : (front part text rest : List ℕ) → Begins part text → Begins (front ++ part) ((front ++ text) ++ rest)
begins_within front part text rest h =
    let whole : text ≡ part ++ drop (length part) text = sym (take-append-drop (length part) text) ∙ ap (λ l. l ++ drop (length part) text) h in
    let e : (front ++ text) ++ rest ≡ (front ++ part) ++ (drop (length part) text ++ rest) =
    ap (λ l. (front ++ l) ++ rest) whole ∙ ap (λ l. l ++ rest) (sym (append_assoc front part (drop (length part) text)))
    ∙ append_assoc (front ++ part) (drop (length part) text) rest in
    subst (Begins (front ++ part)) (sym e) (take-append_seam (front ++ part) (drop (length part) text ++ rest))

module _ (query_of : List ℕ → QueryStatus) (asked : List ℕ → Command) (setup : Setup) {W : Type 0} (contents : W → Option (List ℕ)) where
  pub ran_none : (w : Device W) (state : Progress) (lines : List (List ℕ)) → lines ≡ [] → Ran query_of asked contents w w setup state lines state
  ran_none w state lines e =
      ([], subst (λ l. MayAnswer query_of asked setup state l [] state) (sym e) (answer_none query_of asked setup state), received_none contents w)

  pub ran_more : (a b c : Device W) (old mid new : Progress) (first more : List (List ℕ)) → Ran query_of asked contents a b setup old first mid → Ran query_of asked contents b c setup mid more new
      → Ran query_of asked contents a c setup old (first ++ more) new
  ran_more a b c old mid new first more p q =
      (p.0 ++ q.0, answer_more query_of asked setup old mid new first more p.0 q.0 p.1 q.1, received_more contents a b c p.0 q.0 p.2 q.2)

  pub ran_answered : (a b : Device W) (old new : Progress) (lines : List (List ℕ)) → Ran query_of asked contents a b setup old lines new → Answered query_of asked contents a b setup old.state lines
  ran_answered a b old new lines p = (p.1.flags, p.1.only, subst (Received contents a b) p.1.text_is p.2)

  pub answered_more : (a b c : Device W) (old mid : Progress) (first more : List (List ℕ)) → Ran query_of asked contents a b setup old first mid → Answered query_of asked contents b c setup mid.state more
      → Answered query_of asked contents a c setup old.state (first ++ more)
  answered_more a b c old mid first more p q =
      let whole : (run_commands query_of asked setup old.state (first ++ more) (p.1.flags ++ q.0)).written ≡ p.0 ++ (run_commands query_of asked setup mid.state more q.0).written =
      let e = run-append_text query_of asked setup old.state first more p.1.flags q.0 p.1.each in
      let t = p.1.text_is in
      let n = p.1.new_is in
      cc in (
        p.1.flags ++ q.0,
        only-append query_of asked setup first more p.1.flags q.0 p.1.each p.1.only q.1,
        subst (Received contents a c) (sym whole) (received_more contents a b c p.0 (run_commands query_of asked setup mid.state more q.0).written p.2 q.2),
      )

  pub part_more : (a b c : Device W) (old mid : Progress) (first more : List (List ℕ)) → Ran query_of asked contents a b setup old first mid → AnsweredInPart query_of asked contents b c setup mid.state more
      → AnsweredInPart query_of asked contents a c setup old.state (first ++ more)
  part_more a b c old mid first more p q =
      let text = (run_commands query_of asked setup mid.state more q.0).written in
      let whole : (run_commands query_of asked setup old.state (first ++ more) (p.1.flags ++ q.0)).written ≡ (p.0 ++ text) ++ [] =
      let e = run-append_text query_of asked setup old.state first more p.1.flags q.0 p.1.each in
      let t = p.1.text_is in
      let n = p.1.new_is in
      let k = append-nil (p.0 ++ text) in
      cc in (
        p.1.flags ++ q.0,
        p.0 ++ q.1,
        only-append query_of asked setup first more p.1.flags q.0 p.1.each p.1.only q.2,
        subst (Begins (p.0 ++ q.1)) (sym whole) (begins_within p.0 q.1 text [] q.3),
        received_more contents a b c p.0 q.1 p.2 q.4,
      )

  -- a beginning of what some lines answer begins what they and more answer
  pub part_before : (a b : Device W) (old : State) (lines more : List (List ℕ)) → AnsweredInPart query_of asked contents a b setup old lines → AnsweredInPart query_of asked contents a b setup old (lines ++ more)
  part_before a b old lines more p =
      let text = (run_commands query_of asked setup old lines p.0).written in (
        p.0,
        p.1,
        only-before query_of asked setup lines more p.0 p.2,
        subst (Begins p.1) (sym (run-before_text query_of asked setup old lines more p.0 p.2)) (begins_within [] p.1 text (run_commands query_of asked setup (run_commands query_of asked setup old lines p.0).after more []).written p.3),
        p.4,
      )

  -- the run of a line stopped within its answer
  pub part_of_line : (a b : Device W) (old new : Progress) (line : List (List ℕ)) (text part : List ℕ) → MayAnswer query_of asked setup old line text new → Begins part text → Received contents a b part
      → AnsweredInPart query_of asked contents a b setup old.state line
  part_of_line a b old new line text part p h r = (p.flags, part, p.only, subst (Begins part) p.text_is h, r)

  pub stopped_within : (a b c : Device W) (old mid new : Progress) (first line rest : List (List ℕ)) (text part : List ℕ)
      → Ran query_of asked contents a b setup old first mid → MayAnswer query_of asked setup mid line text new → Begins part text → Received contents b c part
      → AnsweredInPart query_of asked contents a c setup old.state ((first ++ line) ++ rest)
  stopped_within a b c old mid new first line rest text part p q h r =
      part_before a c old.state (first ++ line) rest (part_more a b c old mid first line p (part_of_line b c mid new line text part q h r))

  -- what was received stays after a flush
  pub ran_kept : (a b c : Device W) (old new : Progress) (lines : List (List ℕ)) → Ran query_of asked contents a b setup old lines new → (c.taken ≡ b.taken) × Keeps (contents b.device) (contents c.device) → Ran query_of asked contents a c setup old lines new
  ran_kept a b c old new lines p k = (p.0, p.1, received_kept contents a b c p.0 p.2 k.0 k.1)

  -- the whole answer is a beginning of it
  pub ran_in_part : (a b : Device W) (old new : Progress) (lines : List (List ℕ)) → Ran query_of asked contents a b setup old lines new → AnsweredInPart query_of asked contents a b setup old.state lines
  ran_in_part a b old new lines p =
      let text = (run_commands query_of asked setup old.state lines p.1.flags).written in (
        p.1.flags,
        text,
        p.1.only,
        subst (Begins text) (append-nil text) (take-append_seam text []),
        subst (Received contents a b) p.1.text_is p.2,
      )

  -- all command lines are some first ones
  pub ran_first : (a b : Device W) (old new : Progress) (lines all : List (List ℕ)) → all ≡ lines → Ran query_of asked contents a b setup old lines new → RanFirst query_of asked contents a b setup old all new
  ran_first a b old new lines all e p =
      (lines, ([], e ∙ sym (append-nil lines)), p.0, p.1, p.0, subst (Begins p.0) (append-nil p.0) (take-append_seam p.0 []), p.2)

  -- some, and then some first ones of more
  pub first_more : (a b c : Device W) (old mid new : Progress) (first more all : List (List ℕ)) → all ≡ first ++ more → Ran query_of asked contents a b setup old first mid → RanFirst query_of asked contents b c setup mid more new
      → RanFirst query_of asked contents a c setup old all new
  first_more a b c old mid new first more all e p q = (
    first ++ q.0,
    (q.1.0, e ∙ ap (λ l. first ++ l) q.1.1 ∙ sym (append_assoc first q.0 q.1.0)),
    p.0 ++ q.2,
    answer_more query_of asked setup old mid new first q.0 p.0 q.2 p.1 q.3,
    p.0 ++ q.4,
    subst (Begins (p.0 ++ q.4)) (append-nil (p.0 ++ q.2)) (begins_within p.0 q.4 q.2 [] q.5),
    received_more contents a b c p.0 q.4 p.2 q.6,
  )
