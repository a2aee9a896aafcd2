-- Escape sequences come off, and what stands between them stays.
use Rattle.std.proofs.Common.{◌≡◌, ◌∙◌, ℕ, ◌+◌, List, [], ◌∷◌, ◌++◌, Bool, true, false, ap, refl, sym, append-nil, append_assoc}
use Rattle.std.specs.Prelude.{◌&&◌, not, ◌==◌, if◌then◌else◌}
use Rattle.std.proofs.lemmas.Bool.{false≢true}
use Rattle.std.proofs.lemmas.List.Folds.{list_all-append}
use Rattle.jp_model.specs.declared.Span.{Span}
use Rattle.jp_paint.specs.Colours.{after_sequence, escape, painted, start_of, stop, without_sequences}
use Rattle.jp_paint.specs.Laws.{Paints, is_plain}
use Rattle.jp_paint.specs.Marked.{is_marked, marked_from, turn}
use Rattle.jp_paint.specs.declared.part.Part.{Part}
use Rattle.jp_paint.specs.declared.part.Part.TheVariants as parts

both_true : (a b : Bool) → (a && b) ≡ true → (a ≡ true) × (b ≡ true)
both_true true b e = (refl, e)
both_true false b e = absurd (false≢true e)

-- a byte that begins no sequence stays
byte_stays : (byte : ℕ) (rest : List ℕ) → not (byte == escape) ≡ true → without_sequences (byte ∷ rest) ≡ byte ∷ without_sequences rest
byte_stays byte rest e = chosen (byte == escape) e
  where
    chosen : (b : Bool) → not b ≡ true → (if b then after_sequence rest else byte ∷ without_sequences rest) ≡ byte ∷ without_sequences rest
    chosen false e = refl
    chosen true e = absurd (false≢true e)

-- a plain text stays, whatever follows it
pub plain_stays : (text : List ℕ) → Paints text text
plain_stays [] e rest = refl
plain_stays (byte ∷ text) e rest =
    let parts = both_true (not (byte == escape)) (is_plain text) e in
    byte_stays byte (text ++ rest) parts.0 ∙ ap (λ l. byte ∷ l) (plain_stays text parts.1 rest)

-- what begins a colour comes off, and so does what ends it
start_off : (part : Part) (rest : List ℕ) → without_sequences (start_of part ++ rest) ≡ without_sequences rest
start_off parts.Name rest = refl
start_off parts.Place rest = refl
start_off parts.Sign rest = refl
start_off parts.Node rest = refl

stop_off : (rest : List ℕ) → without_sequences (stop ++ rest) ≡ without_sequences rest
stop_off rest = refl

pub painted_paints : (coloured : Bool) (part : Part) (text : List ℕ) → Paints text (painted coloured part text)
painted_paints false part text e rest = plain_stays text e rest
painted_paints true part text e rest =
    ap without_sequences (append_assoc (start_of part) (text ++ stop) rest ∙ ap (λ l. start_of part ++ l) (append_assoc text stop rest))
    ∙ start_off part (text ++ (stop ++ rest))
    ∙ plain_stays text e (stop ++ rest)
    ∙ ap (λ l. text ++ l) (stop_off rest)

turn_off : (before now : Bool) (rest : List ℕ) → without_sequences (turn before now ++ rest) ≡ without_sequences rest
turn_off false false rest = refl
turn_off false true rest = start_off parts.Node rest
turn_off true false rest = stop_off rest
turn_off true true rest = refl

marks_paint : (spans : List Span) (before : Bool) (place : ℕ) (text : List ℕ) → Paints text (marked_from spans before place text)
marks_paint spans before place [] e rest = turn_off before false rest
marks_paint spans before place (byte ∷ text) e rest =
    let now = is_marked spans place in
    let more = marked_from spans now (place + 1) text in
    let parts = both_true (not (byte == escape)) (is_plain text) e in
    ap without_sequences (append_assoc (turn before now) (byte ∷ more) rest)
    ∙ turn_off before now (byte ∷ (more ++ rest))
    ∙ byte_stays byte (more ++ rest) parts.0
    ∙ ap (λ l. byte ∷ l) (marks_paint spans now (place + 1) text parts.1 rest)

pub marked_paints : (spans : List Span) (place : ℕ) (text : List ℕ) → Paints text (marked_from spans false place text)
marked_paints spans place text = marks_paint spans false place text

plain_both : (text more : List ℕ) → is_plain (text ++ more) ≡ true → (is_plain text ≡ true) × (is_plain more ≡ true)
plain_both text more e = both_true (is_plain text) (is_plain more) (sym (list_all-append (λ byte. not (byte == escape)) text more) ∙ e)

pub joined_paints : (plain coloured plain_rest coloured_rest : List ℕ) → Paints plain coloured → Paints plain_rest coloured_rest → Paints (plain ++ plain_rest) (coloured ++ coloured_rest)
joined_paints plain coloured plain_rest coloured_rest first second e rest =
    let parts = plain_both plain plain_rest e in
    ap without_sequences (append_assoc coloured coloured_rest rest)
    ∙ first parts.0 (coloured_rest ++ rest)
    ∙ ap (λ l. plain ++ l) (second parts.1 rest)
    ∙ sym (append_assoc plain plain_rest (without_sequences rest))

pub comes_off : (plain coloured : List ℕ) → Paints plain coloured → is_plain plain ≡ true → without_sequences coloured ≡ plain
comes_off plain coloured paints e = ap without_sequences (sym (append-nil coloured)) ∙ paints e [] ∙ append-nil plain
