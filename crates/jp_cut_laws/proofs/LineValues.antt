-- The lines of a collection are values of a stream.
use Rattle.std.proofs.Common.{◌≡◌, ℕ, Bool, true, false, not, ◌||◌, List, [], ◌∷◌, ◌++◌, refl, sym, ap, subst, ◌∙◌, append_assoc}
use Rattle.std.specs.List.{AllByRecursion, join_with_byte}
use Rattle.std.proofs.lemmas.Bool.{or_right}
use Rattle.std.proofs.lemmas.List.{append-nil}
use Rattle.std.proofs.lemmas.List.Splits.{join_with_byte-slice_split}
use Rattle.jp_model.specs.declared.Framing.TheVariants.{Lines}
use Rattle.jp_model.specs.Characters.{is_white, is_quote}
use Rattle.jp_model.specs.Lines.{is_blank, pieces, before_last_piece, last_piece, line_unless_empty, text_lines}
use Rattle.jp_model.specs.Json.Faults.{has_open_end}
use Rattle.jp_model.specs.Json.Places.{bytes_between}
use Rattle.jp_model.specs.Json.Reader.{status_of}
use Rattle.jp_model.specs.Json.Status.{LineStatus, blank, refused, parsed, HasStatus}
use Rattle.jp_model.specs.Json.Tree.{Tree, span, value_of}
use Rattle.jp_model.proofs.Reader.Statuses.{each_status}
use Rattle.jp_cut.specs.Machine.{is_opening}
use Rattle.jp_cut.specs.declared.machine.Pieces.TheVariants.{Texts}
use Rattle.jp_cut_laws.specs.Elements.{SaysTheSame}
use Rattle.jp_cut_laws.specs.Values.{may_end_word, may_follow, AreValues, no_value, white, value, IsRefused, value_of_line, values_of_lines}
use Rattle.jp_cut_laws.proofs.Arrays.{blank_white}
use Rattle.jp_cut_laws.proofs.Lines.{sound, written_value}
use Rattle.jp_cut_laws.proofs.Whole.{accepted_parts}
use Rattle.jp_cut_laws.proofs.Written.{IsWhite}

-- white space in front of values
white_in_front : (before rest : List ℕ) (values : List (List ℕ)) → IsWhite before → AreValues Texts rest values → AreValues Texts (before ++ rest) values
white_in_front [] rest values w h = h
white_in_front (byte ∷ before) rest values w h = white byte (before ++ rest) values w.0 (white_in_front before rest values w.1 h)

or_white : (a b c : Bool) → a ≡ true → (a || b || c) ≡ true
or_white true b c e = refl
or_white false b c e = absurd (cc)

-- a number may end where white space or what comes next says so
white_ends : (after rest : List ℕ) → IsWhite after → may_end_word rest ≡ true → may_end_word (after ++ rest) ≡ true
white_ends [] rest w e = e
white_ends (byte ∷ after) rest w e = or_white (is_white byte) (is_opening byte) (is_quote byte) w.0

-- a line that is accepted, in front of values
line_in_front : (line : List ℕ) (t : Tree) (rest : List ℕ) (values : List (List ℕ)) → status_of Lines line ≡ parsed t → may_end_word rest ≡ true → AreValues Texts rest values
    → AreValues Texts (line ++ rest) (bytes_between line (span t).start (span t).end ∷ values)
line_in_front line t rest values e ends h =
    let parts = accepted_parts line t e in
    let bytes = bytes_between line (span t).start (span t).end in
    let made = written_value bytes t parts.writes (sound line t e) in
    let follow : may_follow made.tree (parts.after ++ rest) ≡ true = or_right (not (has_open_end (value_of made.tree))) (may_end_word (parts.after ++ rest)) (white_ends parts.after rest parts.white_after ends) in
    let found = white_in_front parts.before (bytes ++ (parts.after ++ rest)) (bytes ∷ values) parts.white_before (value bytes made.tree (parts.after ++ rest) values made.is refl follow (white_in_front parts.after rest values parts.white_after h)) in
    let joined : parts.before ++ (bytes ++ (parts.after ++ rest)) ≡ line ++ rest =
    ap (λ xs. parts.before ++ xs) (sym (append_assoc bytes parts.after rest)) ∙ sym (append_assoc parts.before (bytes ++ parts.after) rest) ∙ ap (λ xs. xs ++ rest) (sym parts.joined) in
    subst (λ xs. AreValues Texts xs (bytes ∷ values)) joined found

pub line_is_value : (line : List ℕ) (t : Tree) → status_of Lines line ≡ parsed t → AreValues Texts line (bytes_between line (span t).start (span t).end ∷ [])
line_is_value line t e = subst (λ xs. AreValues Texts xs (bytes_between line (span t).start (span t).end ∷ [])) (append-nil line) (line_in_front line t [] [] e refl no_value)

-- without the white space around it, it says the same
pub value_alone : (line : List ℕ) (t : Tree) → status_of Lines line ≡ parsed t → SaysTheSame (bytes_between line (span t).start (span t).end) t
value_alone line t e =
    let made = written_value (bytes_between line (span t).start (span t).end) t (accepted_parts line t e).writes (sound line t e) in
    record { tree = made.tree; accepted = made.is.accepted; same = made.same }

-- ---- lines

blank_is : (line : List ℕ) → status_of Lines line ≡ blank → is_blank line ≡ true
blank_is line e = subst (HasStatus Lines line) e (each_status Lines line)

-- any line that is not refused, in front of values
line_by : (line rest : List ℕ) (values : List (List ℕ)) (status : LineStatus) → status_of Lines line ≡ status → (IsRefused line → ⊥) → may_end_word rest ≡ true → AreValues Texts rest values → AreValues Texts (line ++ rest) (value_of_line line status ++ values)
line_by line rest values blank e fine ends h = white_in_front line rest values (blank_white line (blank_is line e)) h
line_by line rest values (refused fault) e fine ends h = absurd (fine (record { fault = fault; is = e }))
line_by line rest values (parsed t) e fine ends h = line_in_front line t rest values e ends h

line_then : (line rest : List ℕ) (values : List (List ℕ)) → (IsRefused line → ⊥) → may_end_word rest ≡ true → AreValues Texts rest values → AreValues Texts (line ++ rest) (value_of_line line (status_of Lines line) ++ values)
line_then line rest values fine ends h = line_by line rest values (status_of Lines line) refl fine ends h

abbrev Fine : List ℕ → Type 0
Fine line = IsRefused line → ⊥

-- the lines of some pieces
abbrev lines_of : List (List ℕ) → List (List ℕ)
lines_of ps = before_last_piece ps ++ line_unless_empty (last_piece ps)

last_line : (line : List ℕ) → AllByRecursion Fine (line_unless_empty line) → AreValues Texts line (values_of_lines (line_unless_empty line))
last_line [] fine = no_value
last_line (byte ∷ rest) fine = subst (λ xs. AreValues Texts xs (values_of_lines ((byte ∷ rest) ∷ []))) (append-nil (byte ∷ rest)) (line_then (byte ∷ rest) [] [] fine.0 refl no_value)

joined_values : (ps : List (List ℕ)) → AllByRecursion Fine (lines_of ps) → AreValues Texts (join_with_byte 0x0A ps) (values_of_lines (lines_of ps))
joined_values [] fine = no_value
joined_values (line ∷ []) fine = last_line line fine
joined_values (line ∷ following ∷ ps) fine =
    line_then line (0x0A ∷ join_with_byte 0x0A (following ∷ ps)) (values_of_lines (lines_of (following ∷ ps))) fine.0 refl
    (white 0x0A (join_with_byte 0x0A (following ∷ ps)) (values_of_lines (lines_of (following ∷ ps))) refl (joined_values (following ∷ ps) fine.1))

pub lines_are_values : (text : List ℕ) → AllByRecursion Fine (text_lines text) → AreValues Texts text (values_of_lines (text_lines text))
lines_are_values text fine = subst (λ xs. AreValues Texts xs (values_of_lines (text_lines text))) (join_with_byte-slice_split 0x0A text) (joined_values (pieces 0x0A text) fine)
