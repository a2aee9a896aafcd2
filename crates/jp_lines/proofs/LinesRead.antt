-- The lines of a text, read one by one where they were found.
use Rattle.std.proofs.Common.{◌≡◌, ◌∙◌, ◌≤◌, ◌+◌, ◌-◌, ℕ, List, [], ◌∷◌, ◌++◌, length, map, take, drop, get_or, sym, ap, subst, arith, append_assoc, length-drop}
use Rattle.std.specs.Prelude.{Some, slice_get, All}
use Rattle.std.specs.Option.{option_map}
use Rattle.std.proofs.lemmas.List.{length-map, map-append, take_more, take_all, length-take-le, take-take, drop-take, drop-drop}
use Rattle.std.proofs.lemmas.List.Elements.{All-append, All-cons}
use Rattle.std.proofs.lemmas.Option.{slice_get-map, slice_get_within, get_or_from_slice_get}
use Rattle.jp_model.specs.declared.Framing.{Framing}
use Rattle.jp_model.specs.Json.Marks.{marks}
use Rattle.jp_model.specs.Json.Places.{bytes_between}
use Rattle.jp_masks.specs.Found.{LineAt, all_at, lines_in}
use Rattle.jp_lines.specs.declared.line.Line.{Line}
use Rattle.jp_lines.specs.declared.line.Line.TheVariants as lines
use Rattle.jp_lines.specs.declared.Status.{Status}
use Rattle.jp_lines.specs.declared.Status.TheVariants as told
use Rattle.jp_nodes.specs.Forms.{IsAmong}
use Rattle.jp_lines.specs.Stored.{stored_text, IsRead, IsTapeAmong}

module _ (framing : Framing) (text : List ℕ) where
  abbrev bytes_of : LineAt → List ℕ
  bytes_of line = bytes_between text line.start line.end

  abbrev positions_of : LineAt → List ℕ
  positions_of line = line.positions

  -- as many lines are found as the text has
  pub as_many : (lines : List LineAt) → lines ≡ all_at framing text → map bytes_of (all_at framing text) ≡ lines_in framing text → length lines ≡ length (lines_in framing text)
  as_many lines all bytes = ap length all ∙ sym (length-map (all_at framing text) bytes_of) ∙ ap length bytes

  module _ (lines : List LineAt) (i : ℕ) (line : LineAt) (all : lines ≡ all_at framing text) (here : slice_get lines i ≡ Some line) where
    there : slice_get (all_at framing text) i ≡ Some line
    there = ap (λ ls. slice_get ls i) (sym all) ∙ here

    -- the bytes of a line that is found
    pub found_bytes : map bytes_of (all_at framing text) ≡ lines_in framing text → slice_get (lines_in framing text) i ≡ Some (bytes_between text line.start line.end)
    found_bytes bytes = ap (λ ls. slice_get ls i) (sym bytes) ∙ slice_get-map bytes_of (all_at framing text) i ∙ ap (option_map bytes_of) there

    -- its marks are those of its bytes
    pub found_marks : map bytes_of (all_at framing text) ≡ lines_in framing text → map positions_of (all_at framing text) ≡ map marks (lines_in framing text)
        → line.positions ≡ marks (bytes_between text line.start line.end)
    found_marks bytes positions =
        let all_marks : List (List ℕ) = map marks (lines_in framing text) in
        let told : slice_get all_marks i ≡ Some line.positions =
        ap (λ ls. slice_get ls i) (sym positions) ∙ slice_get-map positions_of (all_at framing text) i ∙ ap (option_map positions_of) there in
        let read : slice_get all_marks i ≡ Some (marks (bytes_between text line.start line.end)) = slice_get-map marks (lines_in framing text) i ∙ ap (option_map marks) (found_bytes bytes) in
        sym (get_or_from_slice_get all_marks i line.positions [] told) ∙ get_or_from_slice_get all_marks i (marks (bytes_between text line.start line.end)) [] read

    -- it lies within the text
    pub found_within : All (λ (l : LineAt). (l.start ≤ l.end) × (l.end ≤ length text)) (all_at framing text) → (line.start ≤ line.end) × (line.end ≤ length text)
    found_within within =
        let P : LineAt → Type 0 = λ l. (l.start ≤ l.end) × (l.end ≤ length text) in
        subst P (get_or_from_slice_get (all_at framing text) i line line there) (within i line (slice_get_within (all_at framing text) i line there))

-- how long a part is
pub part_length : (bytes : List ℕ) (from to : ℕ) → from ≤ to → to ≤ length bytes → length (bytes_between bytes from to) + from ≡ to
part_length bytes from to a b =
    let rest : length (drop from bytes) ≡ length bytes - from = length-drop from bytes in
    let size : length (take (to - from) (drop from bytes)) ≡ to - from = length-take-le (to - from) (drop from bytes) (omega (arith, rest)) in omega (arith, size)

-- what stands between two positions of a part stands in the whole so much further on
pub part_of_part : (bytes : List ℕ) (from to start end : ℕ) → from ≤ to → to ≤ length bytes → start ≤ end → end ≤ length (bytes_between bytes from to)
    → bytes_between (bytes_between bytes from to) start end ≡ bytes_between bytes (from + start) (from + end)
part_of_part bytes from to start end a b c d =
    let size = part_length bytes from to a b in
    let left : ℕ = to - from - start in
    let split : start + left ≡ to - from = omega (arith, size, c, d) in
    let front : drop start (take (to - from) (drop from bytes)) ≡ take left (drop (from + start) bytes) =
    ap (λ n. drop start (take n (drop from bytes))) (sym split) ∙ drop-take start left (drop from bytes) ∙ ap (take left) (drop-drop start from bytes) in
    ap (take (end - start)) front ∙ take-take (end - start) left (drop (from + start) bytes) (omega (arith, size, c, d))
    ∙ ap (λ n. take n (drop (from + start) bytes)) (omega arith)

-- a line that is found in a part lies within it
pub line_within : (framing : Framing) (bytes : List ℕ) (from to : ℕ) (lines : List LineAt) (i : ℕ) (line : LineAt) → lines ≡ all_at framing (bytes_between bytes from to) → slice_get lines i ≡ Some line
    → All (λ (l : LineAt). (l.start ≤ l.end) × (l.end ≤ length (bytes_between bytes from to))) (all_at framing (bytes_between bytes from to)) → from ≤ to → to ≤ length bytes
    → (line.start ≤ line.end) × (from + line.end ≤ to)
line_within framing bytes from to lines i line all here law a b =
    let within = found_within framing (bytes_between bytes from to) lines i line all here law in
    (within.0, omega (arith, within.1, part_length bytes from to a b))

-- its bytes stand so much further on in the whole
pub line_text : (framing : Framing) (bytes : List ℕ) (from to : ℕ) (lines : List LineAt) (i : ℕ) (line : LineAt) → lines ≡ all_at framing (bytes_between bytes from to) → slice_get lines i ≡ Some line
    → All (λ (l : LineAt). (l.start ≤ l.end) × (l.end ≤ length (bytes_between bytes from to))) (all_at framing (bytes_between bytes from to)) → from ≤ to → to ≤ length bytes
    → bytes_between (bytes_between bytes from to) line.start line.end ≡ bytes_between bytes (from + line.start) (from + line.end)
line_text framing bytes from to lines i line all here law a b =
    let within = found_within framing (bytes_between bytes from to) lines i line all here law in part_of_part bytes from to line.start line.end a b within.0 within.1

-- the text of a line that is read
pub more_came : (bytes : List ℕ) (stored after : List Line) (line : Line) (i : ℕ) (before all : List (List ℕ)) → after ≡ stored ++ line ∷ [] → slice_get all i ≡ Some (stored_text bytes line)
    → map (stored_text bytes) stored ≡ before ++ take i all → map (stored_text bytes) after ≡ before ++ take (i + 1) all
more_came bytes stored after line i before all e f came =
    ap (map (stored_text bytes)) e
    ∙ map-append (stored_text bytes) stored (line ∷ [])
    ∙ ap (λ l. l ++ stored_text bytes line ∷ []) came
    ∙ append_assoc before (take i all) (stored_text bytes line ∷ [])
    ∙ ap (λ t. before ++ (take i all ++ t ∷ [])) (sym (get_or_from_slice_get all i (stored_text bytes line) [] f))
    ∙ ap (λ l. before ++ l) (sym (take_more all i [] (slice_get_within all i (stored_text bytes line) f)))

pub one_more_read : (framing : Framing) (bytes tapes : List ℕ) (stored after : List Line) (line : Line) → after ≡ stored ++ line ∷ [] → All (IsRead framing bytes tapes) stored → IsRead framing bytes tapes line → All (IsRead framing bytes tapes) after
one_more_read framing bytes tapes stored after line e all is =
    subst (All (IsRead framing bytes tapes)) (sym e) (All-append (IsRead framing bytes tapes) stored (line ∷ []) all (All-cons (IsRead framing bytes tapes) line [] is (λ k d l. absurd (omega arith))))

-- all have come
pub all_came : (bytes : List ℕ) (stored : List Line) (i : ℕ) (before all : List (List ℕ)) → map (stored_text bytes) stored ≡ before ++ take i all → length all ≤ i → map (stored_text bytes) stored ≡ before ++ all
all_came bytes stored i before all came l = came ∙ ap (λ ls. before ++ ls) (take_all i all l)

-- ---- more tapes after those of a line leave the line what it is

abbrev pub AreKept : Type 0
AreKept = (words more line : List ℕ) (start nodes : ℕ) → IsAmong words start nodes line → IsAmong (words ++ more) start nodes line

tape_stays : AreKept → (status : Status) (tapes more : List ℕ) (tape nodes : ℕ) (text : List ℕ) → IsTapeAmong status tapes tape nodes text → IsTapeAmong status (tapes ++ more) tape nodes text
tape_stays law told.Blank tapes more tape nodes text h = tt
tape_stays law (told.Refused fault) tapes more tape nodes text h = tt
tape_stays law told.Tree tapes more tape nodes text h = law tapes more text tape nodes h

stays : AreKept → (framing : Framing) (bytes tapes more : List ℕ) (line : Line) → IsRead framing bytes tapes line → IsRead framing bytes (tapes ++ more) line
stays law framing bytes tapes more (lines.Loaded status nodes span tape) h = record { within = h.within; told = h.told; tape = tape_stays law status tapes more tape nodes (bytes_between bytes span.start span.end) h.tape }
stays law framing bytes tapes more (lines.Edited line) h = record { within = h.within; told = h.told; tape = h.tape }

pub all_stay : AreKept → (framing : Framing) (bytes tapes more after : List ℕ) (stored : List Line) → after ≡ tapes ++ more → All (IsRead framing bytes tapes) stored → All (IsRead framing bytes after) stored
all_stay law framing bytes tapes more after stored e all =
    subst (λ t. All (IsRead framing bytes t) stored) (sym e) (λ i d within. stays law framing bytes tapes more (get_or stored i d) (all i d within))
