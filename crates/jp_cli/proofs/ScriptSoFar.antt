-- What has come of a script so far, and what is done with it.
use Rattle.std.proofs.Common.{◌≡◌, ℕ, ◌+◌, ◌-◌, ◌<◌, ◌≤◌, min, List, [], ◌∷◌, ◌++◌, length, take, Bool, true, false, ◌||◌, ◌&&◌, eqb, ltb, refl, sym, ap, ap₂, ◌∙◌, subst, append_assoc, append-nil, arith, length-append}
use Rattle.std.specs.Prelude.{Option, ◌==◌}
use Rattle.std.proofs.lemmas.Bool.{true≢false, false≢true, eqb-false, ne_eqb, eq-eqb, lt-ltb}
use Rattle.std.proofs.lemmas.List.{take_all, take-take, length-take}
use Rattle.std.proofs.lemmas.Grind.{common_steps}
use Rattle.std.proofs.Math.Seq.{take-append-add}
use Rattle.std.specs.Io.KnownBytes.{Consumes, Keeps}
use Rattle.jp_model.specs.declared.Setup.{Setup}
use Rattle.jp_model.specs.declared.RunFault.{RunFault}
use Rattle.jp_model.specs.declared.RunFault.TheVariants as faults
use Rattle.jp_devices.specs.Devices.{Device, Gave, HasEnded, Came, CameShort, GaveUpTo, one_more, Received, Begins}
use Rattle.jp_model.specs.Lines.{text_lines, closed_lines, open_line, line_unless_empty, lines_so_far}
use Rattle.jp_model.specs.Query.Status.{QueryStatus}
use Rattle.jp_model.specs.Script.Commands.{Command}
use Rattle.jp_model.specs.Script.Headline.{Answered, AnsweredInPart}
use Rattle.jp_devices.proofs.Devices.{or_false, or_true, came_so, CameToEnd, goes_on, came_whole, gave_kept, gave_more}
use Rattle.jp_model.proofs.Pieces.{closed-append, open-append}
use Rattle.jp_cli.specs.Runs.{Progress, MayAnswer, Ran, RanFirst, StoppedIn, ScriptStopped}
use Rattle.jp_cli.proofs.Answering.{ran_answered, ran_more, ran_kept, ran_in_part, answered_more, part_more, part_of_line, ran_first, first_more}

-- these bytes came; the lines that they close are run, and the open one is held
pub record SoFar (query_of : List ℕ → QueryStatus) (asked : List ℕ → Command) (setup : Setup) {R W : Type 0} (remaining : R → Option (List ℕ)) (contents : W → Option (List ℕ)) (script_old script_new : Device R) (out_old out_new : Device W)
    (old new : Progress) (held : List ℕ) (count : ℕ) : Type 0 where
  pub bytes : List ℕ
  pub came : Gave remaining script_old script_new bytes
  pub counted : length bytes ≡ count
  pub ran : Ran query_of asked contents out_old out_new setup old (closed_lines bytes) new
  pub open_is : held ≡ open_line bytes

-- what one read gave
pub gave_piece : {R : Type 0} (remaining : R → Option (List ℕ)) (s1 s2 : Device R) (piece : List ℕ) → s2.given ≡ s1.given ++ piece → Consumes (remaining s1.device) (remaining s2.device) piece → Gave remaining s1 s2 piece
gave_piece remaining s1 s2 piece e left = record { given = e; left = left }

-- the bytes of a script within its limit, where some came before
within_limit : (bytes got : List ℕ) (most count : ℕ) → length bytes ≡ count → count ≤ most → take most (bytes ++ got) ≡ bytes ++ take (most - count) got
within_limit bytes got most count e l =
    let n : most ≡ length bytes + (most - count) = omega arith in
    ap (λ m. take m (bytes ++ got)) n ∙ take-append-add bytes got (most - count)

-- the first bytes of a piece are cut to what is left
cut_piece : (read left : ℕ) (piece : List ℕ) → take (min read left) piece ≡ take left (take read piece)
cut_piece read left piece = grind (arith, common_steps, take-take, take_all, length-take)

pub cut_to : (read left kept : ℕ) (piece : List ℕ) → kept ≡ min read left → take kept piece ≡ take left (take read piece)
cut_to read left kept piece is = ap (λ n. take n piece) is ∙ cut_piece read left piece

nothing_held : (held : List ℕ) → length held ≡ 0 → line_unless_empty held ≡ []
nothing_held [] e = refl
nothing_held (byte ∷ bytes) e = absurd (omega arith)

something_held : (held : List ℕ) → (length held ≡ 0 → ⊥) → line_unless_empty held ≡ held ∷ []
something_held [] some = absurd (some refl)
something_held (byte ∷ bytes) some = refl

pub min_first : (m n : ℕ) → m ≤ n → min m n ≡ m
min_first m n l = omega arith

-- a call that brought a byte at least
pub one_more_call : (first old new count read : ℕ) → old ≤ first + count → new ≡ one_more old → (read ≡ 0 → ⊥) → new ≤ first + (count + read)
one_more_call first old new count read l e some = omega arith

pub not_empty : (held line : List ℕ) (n : ℕ) → false ≡ (n == 0) → line ≡ held → length line ≡ n → length held ≡ 0 → ⊥
not_empty held line n test e counted none = eqb-false n 0 (sym test) (sym counted ∙ ap length e ∙ none)

-- a read that did not answer 0
pub no_end : (taken size : ℕ) → (taken ≡ 0 → ⊥) → (eqb taken 0 && ltb 0 size) ≡ false
no_end taken size some = ap (λ b. b && ltb 0 size) (ne_eqb taken 0 some)

-- a part of a buffer, cut to one byte more than is left
pub some_room : (bytes buffer : List ℕ) (room size left : ℕ) → length bytes ≡ length (take room buffer) → room ≡ min (size + 1) (left + 1) → length buffer ≡ size + 1 → 0 < length bytes
some_room bytes buffer room size left e f g = omega (arith, length-take room buffer)

-- it has no more room than that
pub little_room : (bytes buffer : List ℕ) (room size left : ℕ) → length bytes ≡ length (take room buffer) → room ≡ min (size + 1) (left + 1) → length bytes ≤ left + 1
little_room bytes buffer room size left e f = omega (arith, length-take room buffer)

pub still_going : (first old new ended : Bool) → new ≡ (old || ended) → old ≡ first → ended ≡ false → new ≡ first
still_going first old new ended e going none = e ∙ ap₂ (λ (a b : Bool). a || b) going none ∙ sym (or_false first)

-- a read of some room that answered 0
pub at_end : {R : Type 0} (remaining : R → Option (List ℕ)) (s0 s1 : Device R) (old : Bool) (taken : ℕ) (room : List ℕ) → s0.failed ≡ false → s1.ended ≡ (old || (eqb taken 0 && ltb 0 (length room)))
    → (taken ≡ 0 → 0 < length room → HasEnded remaining s1) → taken ≡ 0 → 0 < length room → CameToEnd remaining s0 s1
at_end remaining s0 s1 old taken room worked e left none some = record {
  worked = worked;
  ended = e ∙ ap (λ b. old || b) (ap₂ (λ (a b : Bool). a && b) (eq-eqb taken 0 none) (lt-ltb 0 (length room) some)) ∙ sym (or_true old);
  nothing_left = left none some;
}

-- the same, where there was room for a byte
pub at_end_with_room : {R : Type 0} (remaining : R → Option (List ℕ)) (s0 s1 : Device R) (old : Bool) (taken : ℕ) (bytes buffer : List ℕ) (room size left : ℕ) → s0.failed ≡ false → s1.ended ≡ (old || (eqb taken 0 && ltb 0 (length bytes)))
    → (taken ≡ 0 → 0 < length bytes → HasEnded remaining s1) → taken ≡ 0 → length bytes ≡ length (take room buffer) → room ≡ min (size + 1) (left + 1) → length buffer ≡ size + 1 → CameToEnd remaining s0 s1
at_end_with_room remaining s0 s1 old taken bytes buffer room size left worked e ends none f g h = at_end remaining s0 s1 old taken bytes worked e ends none (some_room bytes buffer room size left f g h)

module _ (query_of : List ℕ → QueryStatus) (asked : List ℕ → Command) (setup : Setup) {R W : Type 0} (remaining : R → Option (List ℕ)) (contents : W → Option (List ℕ)) where
  -- a read that failed
  pub stopped_read : (s0 s1 s2 : Device R) (o0 o1 : Device W) (old new : Progress) (held : List ℕ) (count : ℕ)
      → SoFar query_of asked setup remaining contents s0 s1 o0 o1 old new held count → (s2.given ≡ s1.given) × Keeps (remaining s1.device) (remaining s2.device) → count ≤ setup.script_most
      → s0.failed ≡ false → s2.ended ≡ s0.ended → s2.failed ≡ true
      → (came : Came) × GaveUpTo remaining s0 s2 came × ((CameShort setup.script_most came × Answered query_of asked contents o0 o1 setup old.state (closed_lines (take setup.script_most came.bytes)))
      × RanFirst query_of asked contents o0 o1 setup old (lines_so_far came.ended (take setup.script_most came.bytes)) new)
  stopped_read s0 s1 s2 o0 o1 old new held count so keeps within worked going failed = (
    came_so so.bytes false s2.failed,
    goes_on remaining s0 s2 so.bytes (gave_kept remaining s0 s1 s2 so.bytes so.came keeps.0 keeps.1) worked going,
    (
      (
        record { going = refl; read = λ e. omega (arith, so.counted); size = λ e. absurd (true≢false (sym failed ∙ e)) },
        subst (λ t. Answered query_of asked contents o0 o1 setup old.state (closed_lines t)) (sym (take_all setup.script_most so.bytes (omega (arith, so.counted))))
            (ran_answered query_of asked setup contents o0 o1 old new (closed_lines so.bytes) so.ran),
      ),
      ran_first query_of asked setup contents o0 o1 old new (closed_lines so.bytes) _ (ap closed_lines (take_all setup.script_most so.bytes (omega (arith, so.counted)))) so.ran,
    ),
  )

  -- the writer was flushed
  pub flushed : (s0 s1 : Device R) (o0 o1 o2 : Device W) (old new : Progress) (held : List ℕ) (count : ℕ)
      → SoFar query_of asked setup remaining contents s0 s1 o0 o1 old new held count → (o2.taken ≡ o1.taken) × Keeps (contents o1.device) (contents o2.device) → SoFar query_of asked setup remaining contents s0 s1 o0 o2 old new held count
  flushed s0 s1 o0 o1 o2 old new held count so keeps = record {
    bytes = so.bytes;
    came = so.came;
    counted = so.counted;
    ran = ran_kept query_of asked setup contents o0 o1 o2 old new (closed_lines so.bytes) so.ran keeps;
    open_is = so.open_is;
  }

  -- a flush that failed
  pub stopped_flush : (s0 s1 : Device R) (o0 o1 : Device W) (old new : Progress) (held : List ℕ) (count : ℕ)
      → SoFar query_of asked setup remaining contents s0 s1 o0 o1 old new held count → count ≤ setup.script_most → s0.failed ≡ false → s1.ended ≡ s0.ended
      → (came : Came) × GaveUpTo remaining s0 s1 came × (ScriptStopped query_of asked contents o0 o1 faults.Write setup old.state came × RanFirst query_of asked contents o0 o1 setup old (lines_so_far came.ended (take setup.script_most came.bytes)) new)
  stopped_flush s0 s1 o0 o1 old new held count so within worked going = (
    came_so so.bytes false s1.failed,
    goes_on remaining s0 s1 so.bytes so.came worked going,
    (
      (
        record { bytes = omega (arith, so.counted); end = λ e. absurd (false≢true e) },
        subst (λ t. AnsweredInPart query_of asked contents o0 o1 setup old.state (closed_lines t)) (sym (take_all setup.script_most so.bytes (omega (arith, so.counted))))
            (ran_in_part query_of asked setup contents o0 o1 old new (closed_lines so.bytes) so.ran),
      ),
      ran_first query_of asked setup contents o0 o1 old new (closed_lines so.bytes) _ (ap closed_lines (take_all setup.script_most so.bytes (omega (arith, so.counted)))) so.ran,
    ),
  )

  -- one more piece, whose closed lines are run
  pub taken : (s0 s1 s2 : Device R) (o0 o1 o2 : Device W) (old mid new : Progress) (held held' : List ℕ) (count n : ℕ) (piece : List ℕ)
      → SoFar query_of asked setup remaining contents s0 s1 o0 o1 old mid held count → Gave remaining s1 s2 piece → length piece ≡ n
      → Ran query_of asked contents o1 o2 setup mid (closed_lines (held ++ piece)) new → held' ≡ open_line (held ++ piece)
      → SoFar query_of asked setup remaining contents s0 s2 o0 o2 old new held' (count + n)
  taken s0 s1 s2 o0 o1 o2 old mid new held held' count n piece so gave e ran opened = record {
    bytes = so.bytes ++ piece;
    came = gave_more remaining s0 s1 s2 so.bytes piece so.came gave;
    counted = omega (arith, so.counted, length-append so.bytes piece);
    ran = subst (λ l. Ran query_of asked contents o0 o2 setup old l new) (sym (closed-append 0x0A so.bytes piece ∙ ap (λ h. closed_lines so.bytes ++ closed_lines (h ++ piece)) (sym so.open_is)))
        (ran_more query_of asked setup contents o0 o1 o2 old mid new (closed_lines so.bytes) (closed_lines (held ++ piece)) so.ran ran);
    open_is = opened ∙ ap (λ h. open_line (h ++ piece)) so.open_is ∙ sym (open-append 0x0A so.bytes piece);
  }

  -- the closed lines of what came within the limit
  closed_within : (s0 s1 : Device R) (o0 o1 : Device W) (old mid : Progress) (held : List ℕ) (count : ℕ) (got : List ℕ)
      → (so : SoFar query_of asked setup remaining contents s0 s1 o0 o1 old mid held count) → count ≤ setup.script_most
      → closed_lines (take setup.script_most (so.bytes ++ got)) ≡ closed_lines so.bytes ++ closed_lines (held ++ take (setup.script_most - count) got)
  closed_within s0 s1 o0 o1 old mid held count got so within =
      ap closed_lines (within_limit so.bytes got setup.script_most count so.counted within) ∙ closed-append 0x0A so.bytes (take (setup.script_most - count) got)
      ∙ ap (λ h. closed_lines so.bytes ++ closed_lines (h ++ take (setup.script_most - count) got)) (sym so.open_is)

  -- the byte past the limit came
  pub too_long : (s0 s1 s2 : Device R) (o0 o1 o2 : Device W) (old mid new : Progress) (held : List ℕ) (count : ℕ) (got : List ℕ)
      → SoFar query_of asked setup remaining contents s0 s1 o0 o1 old mid held count → count ≤ setup.script_most → Gave remaining s1 s2 got → s0.failed ≡ false → s2.failed ≡ false → s2.ended ≡ s0.ended
      → setup.script_most - count + 1 ≡ length got → Ran query_of asked contents o1 o2 setup mid (closed_lines (held ++ take (setup.script_most - count) got)) new
      → (came : Came) × GaveUpTo remaining s0 s2 came × ((CameShort setup.script_most came × Answered query_of asked contents o0 o2 setup old.state (closed_lines (take setup.script_most came.bytes)))
      × RanFirst query_of asked contents o0 o2 setup old (lines_so_far came.ended (take setup.script_most came.bytes)) new)
  too_long s0 s1 s2 o0 o1 o2 old mid new held count got so within gave worked works going long ran = (
    came_so (so.bytes ++ got) false s2.failed,
    goes_on remaining s0 s2 (so.bytes ++ got) (gave_more remaining s0 s1 s2 so.bytes got so.came gave) worked going,
    (
      (
        record { going = refl; read = λ e. absurd (false≢true (sym works ∙ e)); size = λ e. omega (arith, so.counted, length-append so.bytes got) },
        subst (Answered query_of asked contents o0 o2 setup old.state) (sym (closed_within s0 s1 o0 o1 old mid held count got so within))
            (ran_answered query_of asked setup contents o0 o2 old new _ (ran_more query_of asked setup contents o0 o1 o2 old mid new (closed_lines so.bytes) (closed_lines (held ++ take (setup.script_most - count) got)) so.ran ran)),
      ),
      ran_first query_of asked setup contents o0 o2 old new _ _ (closed_within s0 s1 o0 o1 old mid held count got so within)
          (ran_more query_of asked setup contents o0 o1 o2 old mid new (closed_lines so.bytes) (closed_lines (held ++ take (setup.script_most - count) got)) so.ran ran),
    ),
  )

  -- a run that stopped in a piece: the script had not come to its end
  pub stopped_piece : (s0 s1 s2 : Device R) (o0 o1 o2 : Device W) (old mid new : Progress) (held : List ℕ) (count : ℕ) (got : List ℕ) (fault : RunFault)
      → SoFar query_of asked setup remaining contents s0 s1 o0 o1 old mid held count → count ≤ setup.script_most → Gave remaining s1 s2 got → s0.failed ≡ false → s2.ended ≡ s0.ended
      → length got ≤ setup.script_most - count + 1 → StoppedIn query_of asked contents o1 o2 fault setup mid.state (closed_lines (held ++ take (setup.script_most - count) got))
      → RanFirst query_of asked contents o1 o2 setup mid (closed_lines (held ++ take (setup.script_most - count) got)) new → (came : Came) × GaveUpTo remaining s0 s2 came × (ScriptStopped query_of asked contents o0 o2 fault setup old.state came × RanFirst query_of asked contents o0 o2 setup old (lines_so_far came.ended (take setup.script_most came.bytes)) new)
  stopped_piece s0 s1 s2 o0 o1 o2 old mid new held count got faults.ReadCollection so within gave worked going little stop first_ones = absurd stop
  stopped_piece s0 s1 s2 o0 o1 o2 old mid new held count got faults.Size so within gave worked going little stop first_ones = absurd stop
  stopped_piece s0 s1 s2 o0 o1 o2 old mid new held count got faults.ReadScript so within gave worked going little stop first_ones = absurd stop
  stopped_piece s0 s1 s2 o0 o1 o2 old mid new held count got faults.Framing so within gave worked going little stop first_ones = absurd stop
  stopped_piece s0 s1 s2 o0 o1 o2 old mid new held count got faults.Write so within gave worked going little stop first_ones =
      let first = closed_lines so.bytes in
      let more = closed_lines (held ++ take (setup.script_most - count) got) in (
        came_so (so.bytes ++ got) false s2.failed,
        goes_on remaining s0 s2 (so.bytes ++ got) (gave_more remaining s0 s1 s2 so.bytes got so.came gave) worked going,
        (
          (
            record { bytes = omega (arith, so.counted, length-append so.bytes got); end = λ e. absurd (false≢true e) },
            subst (AnsweredInPart query_of asked contents o0 o2 setup old.state) (sym (closed_within s0 s1 o0 o1 old mid held count got so within))
                (part_more query_of asked setup contents o0 o1 o2 old mid first more so.ran stop),
          ),
          first_more query_of asked setup contents o0 o1 o2 old mid new (closed_lines so.bytes) (closed_lines (held ++ take (setup.script_most - count) got)) _ (closed_within s0 s1 o0 o1 old mid held count got so within) so.ran first_ones,
        ),
      )
  stopped_piece s0 s1 s2 o0 o1 o2 old mid new held count got faults.Memory so within gave worked going little stop first_ones =
      let first = closed_lines so.bytes in
      let split : closed_lines (take setup.script_most (so.bytes ++ got)) ≡ (first ++ stop.0) ++ stop.1.0 =
      closed_within s0 s1 o0 o1 old mid held count got so within ∙ ap (λ l. first ++ l) stop.1.1 ∙ sym (append_assoc first stop.0 stop.1.0) in (
        came_so (so.bytes ++ got) false s2.failed,
        goes_on remaining s0 s2 (so.bytes ++ got) (gave_more remaining s0 s1 s2 so.bytes got so.came gave) worked going,
        (
          (
            record { bytes = omega (arith, so.counted, length-append so.bytes got); end = λ e. absurd (false≢true e) },
            (first ++ stop.0, (stop.1.0, split), answered_more query_of asked setup contents o0 o1 o2 old mid first stop.0 so.ran stop.2),
          ),
          first_more query_of asked setup contents o0 o1 o2 old mid new (closed_lines so.bytes) (closed_lines (held ++ take (setup.script_most - count) got)) _ (closed_within s0 s1 o0 o1 old mid held count got so within) so.ran first_ones,
        ),
      )

  -- a read at the end brings nothing
  pub ended : (s0 s1 s2 : Device R) (o0 o1 : Device W) (old new : Progress) (held : List ℕ) (count n : ℕ) (piece : List ℕ)
      → SoFar query_of asked setup remaining contents s0 s1 o0 o1 old new held count → Gave remaining s1 s2 (take n piece) → n ≡ 0 → SoFar query_of asked setup remaining contents s0 s2 o0 o1 old new held count
  ended s0 s1 s2 o0 o1 old new held count n piece so gave e = record {
    bytes = so.bytes;
    came = subst (Gave remaining s0 s2) (append-nil so.bytes)
        (gave_more remaining s0 s1 s2 so.bytes [] so.came (subst (λ m. Gave remaining s1 s2 (take m piece)) e gave));
    counted = so.counted;
    ran = so.ran;
    open_is = so.open_is;
  }

  -- the writer was flushed, and no byte more came
  pub flushed_at_end : (s0 s1 s2 : Device R) (o0 o1 o2 : Device W) (old new : Progress) (held : List ℕ) (count n : ℕ) (piece : List ℕ)
      → SoFar query_of asked setup remaining contents s0 s1 o0 o1 old new held count → (o2.taken ≡ o1.taken) × Keeps (contents o1.device) (contents o2.device) → Gave remaining s1 s2 (take n piece) → n ≡ 0 → SoFar query_of asked setup remaining contents s0 s2 o0 o2 old new held count
  flushed_at_end s0 s1 s2 o0 o1 o2 old new held count n piece so keeps gave none =
      ended s0 s1 s2 o0 o2 old new held count n piece (flushed s0 s1 o0 o1 o2 old new held count so keeps) gave none

  -- the whole script is run
  pub all_run : (s0 s1 : Device R) (o0 o1 : Device W) (old new : Progress) (held : List ℕ) (count : ℕ)
      → SoFar query_of asked setup remaining contents s0 s1 o0 o1 old new held count → count ≤ setup.script_most → CameToEnd remaining s0 s1 → length held ≡ 0
      → (came : Came) × GaveUpTo remaining s0 s1 came × ((came.ended ≡ true) × (length came.bytes ≤ setup.script_most) × Ran query_of asked contents o0 o1 setup old (text_lines came.bytes) new)
  all_run s0 s1 o0 o1 old new held count so within end none =
      let e : text_lines so.bytes ≡ closed_lines so.bytes =
      ap (λ h. closed_lines so.bytes ++ line_unless_empty h) (sym so.open_is) ∙ ap (λ l. closed_lines so.bytes ++ l) (nothing_held held none) ∙ append-nil (closed_lines so.bytes) in (
        came_so so.bytes true s1.failed,
        came_whole remaining s0 s1 so.bytes so.came end,
        (refl, omega (arith, so.counted), subst (λ l. Ran query_of asked contents o0 o1 setup old l new) (sym e) so.ran),
      )

  -- the held line is run last
  pub last_run : (s0 s1 : Device R) (o0 o1 o2 : Device W) (old mid new : Progress) (held line text : List ℕ) (count : ℕ)
      → SoFar query_of asked setup remaining contents s0 s1 o0 o1 old mid held count → count ≤ setup.script_most → CameToEnd remaining s0 s1 → (length held ≡ 0 → ⊥) → line ≡ held
      → MayAnswer query_of asked setup mid (line ∷ []) text new → Received contents o1 o2 text
      → (came : Came) × GaveUpTo remaining s0 s1 came × ((came.ended ≡ true) × (length came.bytes ≤ setup.script_most) × Ran query_of asked contents o0 o2 setup old (text_lines came.bytes) new)
  last_run s0 s1 o0 o1 o2 old mid new held line text count so within end some is_held answers received =
      let e : text_lines so.bytes ≡ closed_lines so.bytes ++ line ∷ [] =
      ap (λ h. closed_lines so.bytes ++ line_unless_empty h) (sym so.open_is) ∙ ap (λ l. closed_lines so.bytes ++ l) (something_held held some ∙ ap (λ h. h ∷ []) (sym is_held)) in (
        came_so so.bytes true s1.failed,
        came_whole remaining s0 s1 so.bytes so.came end,
        (
          refl,
          omega (arith, so.counted),
          subst (λ l. Ran query_of asked contents o0 o2 setup old l new) (sym e)
              (ran_more query_of asked setup contents o0 o1 o2 old mid new (closed_lines so.bytes) (line ∷ []) so.ran (text, answers, received)),
        ),
      )

  -- the writer failed in the answer of the held line
  pub last_stopped : (s0 s1 : Device R) (o0 o1 o2 : Device W) (old mid new : Progress) (held line text part : List ℕ) (count : ℕ)
      → SoFar query_of asked setup remaining contents s0 s1 o0 o1 old mid held count → count ≤ setup.script_most → CameToEnd remaining s0 s1 → (length held ≡ 0 → ⊥) → line ≡ held
      → MayAnswer query_of asked setup mid (line ∷ []) text new → Begins part text → Received contents o1 o2 part
      → (came : Came) × GaveUpTo remaining s0 s1 came × (ScriptStopped query_of asked contents o0 o2 faults.Write setup old.state came × RanFirst query_of asked contents o0 o2 setup old (lines_so_far came.ended (take setup.script_most came.bytes)) new)
  last_stopped s0 s1 o0 o1 o2 old mid new held line text part count so within end some is_held answers begins received =
      let e : text_lines so.bytes ≡ closed_lines so.bytes ++ line ∷ [] =
      ap (λ h. closed_lines so.bytes ++ line_unless_empty h) (sym so.open_is) ∙ ap (λ l. closed_lines so.bytes ++ l) (something_held held some ∙ ap (λ h. h ∷ []) (sym is_held)) in (
        came_so so.bytes true s1.failed,
        came_whole remaining s0 s1 so.bytes so.came end,
        (
          (
            record { bytes = omega (arith, so.counted); end = λ _. omega (arith, so.counted) },
            subst (λ t. AnsweredInPart query_of asked contents o0 o2 setup old.state (text_lines t)) (sym (take_all setup.script_most so.bytes (omega (arith, so.counted))))
                (subst (AnsweredInPart query_of asked contents o0 o2 setup old.state) (sym e)
                (part_more query_of asked setup contents o0 o1 o2 old mid (closed_lines so.bytes) (line ∷ []) so.ran (part_of_line query_of asked setup contents o1 o2 mid new (line ∷ []) text part answers begins received))),
          ),
          first_more query_of asked setup contents o0 o1 o2 old mid new (closed_lines so.bytes) (line ∷ []) _ (ap text_lines (take_all setup.script_most so.bytes (omega (arith, so.counted))) ∙ e) so.ran
              (line ∷ [], ([], refl), text, answers, part, begins, received),
        ),
      )
