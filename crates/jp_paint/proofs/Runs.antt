-- A line in which bytes are coloured, run by run.
use Rattle.std.proofs.Common.{map, ap₂, ◌≡◌, ◌∙◌, ℕ, ◌+◌, ◌-◌, ◌<◌, ◌≤◌, List, [], ◌∷◌, ◌++◌, length, Bool, true, false, ◌||◌, ap, refl, sym, subst, append-nil, append_assoc, arith}
use Rattle.std.specs.Prelude.{◌&&◌, nat_le, nat_lt, slice_index_or}
use Rattle.std.specs.List.{All}
use Rattle.std.specs.List.Sorted.{IsNonDecreasingBy, IsPermutation}
use Rattle.std.proofs.lemmas.List.{length-append}
use Rattle.std.proofs.lemmas.List.Elements.{All-head, All-map, All-tail}
use Rattle.std.proofs.lemmas.Bool.Decides.{nat_tests}
use Rattle.std.proofs.lemmas.List.Folds.{list_any_none}
use Rattle.std.proofs.lemmas.List.Sorted.{list_any-IsPermutation}
use Rattle.jp_model.specs.declared.Span.{Span}
use Rattle.jp_paint.specs.Colours.{start_of, stop}
use Rattle.jp_paint.specs.Marked.{clipped, is_marked, is_within, marked_from, marked_text, run_text, turn}
use Rattle.jp_paint.specs.declared.part.Part.TheVariants as parts

-- only the places of the text count
pub marked_alike : (spans others : List Span) (before : Bool) (place : ℕ) (text : List ℕ)
    → ((p : ℕ) → place ≤ p → p < place + length text → is_marked spans p ≡ is_marked others p) → marked_from spans before place text ≡ marked_from others before place text
marked_alike spans others before place [] same = refl
marked_alike spans others before place (byte ∷ rest) same =
    ap (λ now. turn before now ++ (byte ∷ marked_from spans now (place + 1) rest)) (same place (omega (arith)) (omega (arith)))
    ∙ ap (λ more. turn before (is_marked others place) ++ (byte ∷ more)) (marked_alike spans others (is_marked others place) (place + 1) rest (λ p l h. same p (omega (arith, l)) (omega (arith, h))))

no_turn : (now : Bool) → turn now now ≡ []
no_turn false = refl
no_turn true = refl

-- bytes that are all coloured, or all not, stand as they are
steady : (spans : List Span) (now : Bool) (place : ℕ) (text rest : List ℕ) → ((p : ℕ) → place ≤ p → p < place + length text → is_marked spans p ≡ now)
    → marked_from spans now place (text ++ rest) ≡ text ++ marked_from spans now (place + length text) rest
steady spans now place [] rest all = ap (λ p. marked_from spans now p rest) (omega (arith))
steady spans now place (byte ∷ text) rest all =
    ap (λ m. turn now m ++ (byte ∷ marked_from spans m (place + 1) (text ++ rest))) (all place (omega (arith)) (omega (arith)))
    ∙ ap (λ t. t ++ (byte ∷ marked_from spans now (place + 1) (text ++ rest))) (no_turn now)
    ∙ ap (λ l. byte ∷ l) (steady spans now (place + 1) text rest (λ p l h. all p (omega (arith, l)) (omega (arith, h))))
    ∙ ap (λ p. byte ∷ (text ++ marked_from spans now p rest)) (omega (arith))

-- the colour begins at the first byte of a run
begins : (spans : List Span) (place byte : ℕ) (rest : List ℕ) → is_marked spans place ≡ true
    → marked_from spans false place (byte ∷ rest) ≡ start_of parts.Node ++ marked_from spans true place (byte ∷ rest)
begins spans place byte rest is =
    ap (λ m. turn false m ++ (byte ∷ marked_from spans m (place + 1) rest)) is
    ∙ ap (λ m. start_of parts.Node ++ (turn true m ++ (byte ∷ marked_from spans m (place + 1) rest))) (sym is)

-- it ends at the first byte that is not coloured, or at the end
ends : (spans : List Span) (place : ℕ) (text : List ℕ) → is_marked spans place ≡ false → marked_from spans true place text ≡ stop ++ marked_from spans false place text
ends spans place [] is = sym (append-nil stop)
ends spans place (byte ∷ rest) is =
    ap (λ m. turn true m ++ (byte ∷ marked_from spans m (place + 1) rest)) is
    ∙ ap (λ m. stop ++ (turn false m ++ (byte ∷ marked_from spans m (place + 1) rest))) (sym is)

-- a run, and what follows it
pub run_first : (spans : List Span) (place : ℕ) (run rest : List ℕ) → ((p : ℕ) → place ≤ p → p < place + length run → is_marked spans p ≡ true)
    → is_marked spans (place + length run) ≡ false → marked_text spans place (run ++ rest) ≡ run_text run ++ marked_text spans (place + length run) rest
run_first spans place [] rest all after = ap (λ p. marked_from spans false p rest) (omega (arith))
run_first spans place (byte ∷ run) rest all after =
    let past = place + length (byte ∷ run) in
    begins spans place byte (run ++ rest) (all place (omega (arith)) (omega (arith)))
    ∙ ap (λ l. start_of parts.Node ++ l) (steady spans true place (byte ∷ run) rest all ∙ ap (λ l. byte ∷ (run ++ l)) (ends spans past rest after) ∙ ap (λ l. byte ∷ l) (sym (append_assoc run stop (marked_from spans false past rest))))
    ∙ sym (append_assoc (start_of parts.Node) (byte ∷ (run ++ stop)) (marked_from spans false past rest))

-- bytes that are not coloured, and what follows them
pub plain_first : (spans : List Span) (place : ℕ) (text rest : List ℕ) → ((p : ℕ) → place ≤ p → p < place + length text → is_marked spans p ≡ false)
    → marked_text spans place (text ++ rest) ≡ text ++ marked_text spans (place + length text) rest
plain_first spans place text rest all = steady spans false place text rest all

within : (start end p : ℕ) → start ≤ p → p < end → (nat_le start p && nat_lt p end) ≡ true
within start end p low high = grind (arith, nat_tests, low, high)

before : (start end p : ℕ) → p < start → (nat_le start p && nat_lt p end) ≡ false
before start end p low = grind (arith, nat_tests, low)

past : (start end p : ℕ) → end ≤ p → (nat_le start p && nat_lt p end) ≡ false
past start end p high = grind (arith, nat_tests, high)

-- from the first place of two spans that touch on, they are one that ends where the second does, or the first
covered : (start end begin stop p : ℕ) → start ≤ p → start ≤ begin → begin ≤ end → end < stop
    → ((nat_le start p && nat_lt p end) || (nat_le begin p && nat_lt p stop)) ≡ (nat_le start p && nat_lt p stop)
covered start end begin stop p low order touch longer = grind (arith, nat_tests, low, order, touch, longer)

inner : (start end begin stop p : ℕ) → start ≤ p → start ≤ begin → stop ≤ end
    → ((nat_le start p && nat_lt p end) || (nat_le begin p && nat_lt p stop)) ≡ (nat_le start p && nat_lt p end)
inner start end begin stop p low order within = grind (arith, nat_tests, low, order, within)

or_assoc : (a b c : Bool) → (a || (b || c)) ≡ ((a || b) || c)
or_assoc true b c = refl
or_assoc false b c = refl

module _ (run next : Span) (others : List Span) (text : List ℕ) where
  -- a span that begins within a run or at its end, and ends after it
  pub longer_run : run.start ≤ next.start → next.start ≤ run.end → run.end < next.end
      → marked_text (run ∷ (next ∷ others)) run.start text ≡ marked_text (record { start = run.start; end = next.end } ∷ others) run.start text
  longer_run order touch longer =
      marked_alike (run ∷ (next ∷ others)) (record { start = run.start; end = next.end } ∷ others) false run.start text
      (λ p low high. or_assoc (is_within p run) (is_within p next) (is_marked others p) ∙ ap (λ b. b || is_marked others p) (covered run.start run.end next.start next.end p low order touch longer))

  -- one that ends within it
  pub same_run : run.start ≤ next.start → next.end ≤ run.end
      → marked_text (run ∷ (next ∷ others)) run.start text ≡ marked_text (run ∷ others) run.start text
  same_run order inside =
      marked_alike (run ∷ (next ∷ others)) (run ∷ others) false run.start text
      (λ p low high. or_assoc (is_within p run) (is_within p next) (is_marked others p) ∙ ap (λ b. b || is_marked others p) (inner run.start run.end next.start next.end p low order inside))

-- no place in front of some spans is coloured
unmarked : (spans : List Span) (from p : ℕ) → All (λ (s : Span). from ≤ s.start) spans → p < from → is_marked spans p ≡ false
unmarked spans from p all low =
    list_any_none (is_within p) spans (λ k d there. before (slice_index_or spans k d).start (slice_index_or spans k d).end p (let first = all k d there in omega (arith, first, low)))

-- a run that nothing touches, what is not coloured after it, and the rest
pub run_passed : (run : Span) (spans : List Span) (from : ℕ) (coloured plain more : List ℕ) → All (λ (s : Span). from ≤ s.start) spans → run.start ≤ run.end → run.end < from
    → length coloured ≡ run.end - run.start → length plain ≡ from - run.end
    → marked_text (run ∷ spans) run.start (coloured ++ (plain ++ more)) ≡ run_text coloured ++ (plain ++ marked_text spans from more)
run_passed run spans from coloured plain more all order apart size between =
    let at_end : run.start + length coloured ≡ run.end = omega (arith, size, order) in
    let at_next : run.end + length plain ≡ from = omega (arith, between, apart) in
    run_first (run ∷ spans) run.start coloured (plain ++ more)
    (λ p low high. ap (λ b. b || is_marked spans p) (within run.start run.end p low (omega (arith, high, at_end))))
    (subst (λ p. is_marked (run ∷ spans) p ≡ false) (sym at_end) (ap (λ b. b || is_marked spans run.end) (past run.start run.end run.end (omega (arith))) ∙ unmarked spans from run.end all apart))
    ∙ ap (λ p. run_text coloured ++ marked_text (run ∷ spans) p (plain ++ more)) at_end
    ∙ ap (λ l. run_text coloured ++ l)
    (marked_alike (run ∷ spans) spans false run.end (plain ++ more) (λ p low high. ap (λ b. b || is_marked spans p) (past run.start run.end p low))
    ∙ plain_first spans run.end plain more (λ p low high. unmarked spans from p all (omega (arith, high, at_next)))
    ∙ ap (λ p. plain ++ marked_text spans p more) at_next)

-- without a span nothing is coloured
none_marked : (place : ℕ) (text : List ℕ) → marked_text [] place text ≡ text
none_marked place [] = refl
none_marked place (byte ∷ rest) = ap (λ l. byte ∷ l) (none_marked (place + 1) rest)

-- the last run, and what is not coloured after it
pub last_run : (run : Span) (coloured plain : List ℕ) → run.start ≤ run.end → length coloured ≡ run.end - run.start
    → marked_text (run ∷ []) run.start (coloured ++ plain) ≡ run_text coloured ++ plain
last_run run coloured plain order size =
    let at_end : run.start + length coloured ≡ run.end = omega (arith, size, order) in
    run_first (run ∷ []) run.start coloured plain
    (λ p low high. ap (λ b. b || false) (within run.start run.end p low (omega (arith, high, at_end))))
    (subst (λ p. is_marked (run ∷ []) p ≡ false) (sym at_end) (ap (λ b. b || false) (past run.start run.end run.end (omega (arith)))))
    ∙ ap (λ p. run_text coloured ++ marked_text (run ∷ []) p plain) at_end
    ∙ ap (λ l. run_text coloured ++ l) (marked_alike (run ∷ []) [] false run.end plain (λ p low high. ap (λ b. b || false) (past run.start run.end p low)) ∙ none_marked run.end plain)

-- an empty run colours nothing
pub empty_first : (first : ℕ) (spans : List Span) (text : List ℕ) → marked_text spans first text ≡ marked_text (record { start = first; end = first } ∷ spans) first text
empty_first first spans text =
    marked_alike spans (record { start = first; end = first } ∷ spans) false first text (λ p low high. sym (ap (λ b. b || is_marked spans p) (past first first p low)))

-- spans in another order colour the same
pub any_order : (spans others : List Span) (first : ℕ) (text : List ℕ) → IsPermutation spans others → marked_text others first text ≡ marked_text spans first text
any_order spans others first text moved = marked_alike others spans false first text (λ p low high. sym (list_any-IsPermutation (is_within p) spans others moved))

-- a span within a text
pub record IsSpanOf (first : ℕ) (text : List ℕ) (span : Span) : Type 0 where
  pub begins : first ≤ span.start
  pub order : span.start ≤ span.end
  pub ends : span.end ≤ first + length text

-- What is appended of a line so far: what stands before a run. The run, the spans after it and the bytes from it on say the rest.
abbrev pub Stands : (spans : List Span) (first : ℕ) (bytes begun : List ℕ) (text : List ℕ) (run : Span) (left : List Span) (rest : List ℕ) → Type 0
Stands spans first bytes begun text run left rest = record {
  text : text ++ marked_text (run ∷ left) run.start rest ≡ begun ++ marked_text spans first bytes;
  order : All (λ (s : Span). run.start ≤ s.start) left;
  runs : run.start ≤ run.end;
  room : run.start + length rest ≡ first + length bytes;
  within : run.end ≤ first + length bytes;
}

-- ---- what of spans lies within a part of their line

-- it begins no earlier than the part, and ends no later
pub clipped_within : (part span : Span) (text : List ℕ) → part.start ≤ part.end → part.end ≡ part.start + length text → IsSpanOf part.start text (clipped part span)
clipped_within part span text order size = record {
  begins = grind (arith, order);
  order = grind (arith, order);
  ends = grind (arith, order, size);
}

-- and colours the same of it
clipped_same : (part span : Span) (p : ℕ) → part.start ≤ p → p < part.end → is_within p (clipped part span) ≡ is_within p span
clipped_same part span p low high = grind (arith, nat_tests, low, high)

all_clipped_same : (part : Span) (spans : List Span) (p : ℕ) → part.start ≤ p → p < part.end → is_marked (map (clipped part) spans) p ≡ is_marked spans p
all_clipped_same part [] p low high = refl
all_clipped_same part (span ∷ spans) p low high = ap₂ (λ (a b : Bool). a || b) (clipped_same part span p low high) (all_clipped_same part spans p low high)

pub clipped_alike : (part : Span) (spans : List Span) (text : List ℕ) → part.end ≡ part.start + length text → marked_text (map (clipped part) spans) part.start text ≡ marked_text spans part.start text
clipped_alike part spans text size = marked_alike (map (clipped part) spans) spans false part.start text (λ p low high. all_clipped_same part spans p low (omega (arith, high, size)))

-- a span that begins earlier still does
clipped_order : (part span next : Span) → span.start ≤ next.start → (clipped part span).start ≤ (clipped part next).start
clipped_order part span next order = grind (arith, order)

-- the first of spans in order begins them
pub first_begins : (part next : Span) (others : List Span) → IsNonDecreasingBy (λ (s : Span). s.start) (next ∷ others)
    → All (λ (s : Span). (clipped part next).start ≤ s.start) (map (clipped part) (next ∷ others))
first_begins part next others order = All-map (λ (s : Span). (clipped part next).start ≤ s.start) (clipped part) (next ∷ others) (λ k d there. clipped_order part next (slice_index_or (next ∷ others) k d) (order 0 k d (omega (arith)) there))

module _ (spans : List Span) (first : ℕ) (bytes begun text : List ℕ) (run next : Span) (others : List Span) (rest : List ℕ)
    (stands : Stands spans first bytes begun text run (next ∷ others) rest) (is : IsSpanOf first bytes next) where
  from_run : run.start ≤ next.start
  from_run = All-head (λ (s : Span). run.start ≤ s.start) next others stands.order

  -- a run that the next span does not touch is appended, and what follows it up to that span
  pub run_appended : (coloured plain more : List ℕ) → rest ≡ coloured ++ (plain ++ more) → length coloured ≡ run.end - run.start → length plain ≡ next.start - run.end → run.end < next.start
      → All (λ (s : Span). next.start ≤ s.start) (next ∷ others) → Stands spans first bytes begun ((text ++ run_text coloured) ++ plain) next others more
  run_appended coloured plain more split size between apart order = record {
    text = append_assoc (text ++ run_text coloured) plain (marked_text (next ∷ others) next.start more)
        ∙ append_assoc text (run_text coloured) (plain ++ marked_text (next ∷ others) next.start more)
        ∙ ap (λ l. text ++ l) (sym (run_passed run (next ∷ others) next.start coloured plain more order stands.runs apart size between) ∙ ap (λ l. marked_text (run ∷ (next ∷ others)) run.start l) (sym split))
        ∙ stands.text;
    order = All-tail (λ (s : Span). next.start ≤ s.start) next others order;
    runs = is.order;
    room = let parts = ap length split ∙ length-append coloured (plain ++ more) in let more_parts = length-append plain more in let room = stands.room in let order = stands.runs in omega (arith, parts, more_parts, room, order, size, between, apart);
    within = is.ends;
  }

  -- a span that touches the run and ends after it makes it longer
  pub run_grows : next.start ≤ run.end → run.end < next.end → Stands spans first bytes begun text (record { start = run.start; end = next.end }) others rest
  run_grows touch longer = record {
    text = ap (λ l. text ++ l) (sym (longer_run run next others rest from_run touch longer)) ∙ stands.text;
    order = All-tail (λ (s : Span). run.start ≤ s.start) next others stands.order;
    runs = let order = stands.runs in omega (arith, order, longer);
    room = stands.room;
    within = is.ends;
  }

  -- one that ends within the run leaves it
  pub run_stays : next.end ≤ run.end → Stands spans first bytes begun text run others rest
  run_stays inside = record {
    text = ap (λ l. text ++ l) (sym (same_run run next others rest from_run inside)) ∙ stands.text;
    order = All-tail (λ (s : Span). run.start ≤ s.start) next others stands.order;
    runs = stands.runs;
    room = stands.room;
    within = stands.within;
  }
