-- Pieces of texts that are accepted are values.
use Rattle.std.proofs.Common.{◌≡◌, ℕ, ◌+◌, ◌-◌, inl, inr, Bool, true, false, not, ◌&&◌, ◌||◌, List, [], ◌∷◌, ◌++◌, length, refl, sym, ap, subst, ◌∙◌, arith, append_assoc}
use Rattle.std.specs.Prelude.{◌==◌, fold, if◌then◌else◌}
use Rattle.std.specs.List.{AllByRecursion}
use Rattle.std.proofs.lemmas.Bool.{cases_lt, or_cases, or_from, eqb-true, false_from_ne_true, both_ways}
use Rattle.std.proofs.lemmas.List.{append-nil, length-append, get_or_at}
use Rattle.jp_model.specs.declared.Framing.TheVariants.{Lines}
use Rattle.jp_model.specs.Characters.{is_white, is_quote}
use Rattle.jp_model.specs.Json.Faults.{has_open_end}
use Rattle.jp_model.specs.Json.Numbers.{head_of}
use Rattle.jp_model.specs.Json.Places.{byte_at}
use Rattle.jp_model.specs.Json.Reader.{status_of}
use Rattle.jp_model.specs.Json.Status.{parsed}
use Rattle.jp_model.specs.Json.Tree.{Tree, node, Value, null, boolean, number, string, container, array, object, span, value_of}
use Rattle.jp_cut.specs.Cuts.{Piece, Cut, line_feeds_in, take_in, all_of}
use Rattle.jp_cut.specs.Machine.{is_opening, is_closing, is_array_start, ends_word, is_whole, behind, xor, nothing_open, does, in_text, step_at, step}
use Rattle.jp_cut.specs.declared.machine.Pieces.{Pieces}
use Rattle.jp_cut.specs.declared.machine.Pieces.TheVariants.{Texts, Elements}
use Rattle.jp_cut.specs.declared.machine.Place.{Place}
use Rattle.jp_cut.specs.declared.machine.Place.TheVariants.{Between, Word, Text, ArrayStart}
use Rattle.jp_cut.specs.declared.machine.Known.{Known}
use Rattle.jp_cut.specs.declared.machine.Turn.TheVariants.{Passed, Kept, Last}
use Rattle.jp_cut_laws.specs.Elements.{IsArray}
use Rattle.jp_cut_laws.specs.Values.{IsValue, IsTaken, may_end_word, is_split, AreValues, white, value, split, bytes_of}
use Rattle.jp_cut_laws.proofs.Arrays.{resting}
use Rattle.jp_cut_laws.proofs.Coming.{Rest, Runs, InArray, RunsBetween, RunsWord, RunsText, RunsStart, longer, runs_on}
use Rattle.jp_cut_laws.proofs.Crossing.{Each, IsUnfinished, IsPlain, white_plain}
use Rattle.jp_cut_laws.proofs.Streams.{white_taken}
use Rattle.jp_cut_laws.proofs.Taken.{between, begun_at, one_more, taken, array_begins, text_begins, word_begins, word_goes_on, word_ended}
use Rattle.jp_cut_laws.proofs.Values.{IsOfWord, open_of_word}
use Rattle.jp_cut_laws.proofs.Whole.{status_is, value_written}
use Rattle.jp_cut_laws.proofs.Written.{Writes, WritesValue}

-- ---- an accepted piece is a value

-- bytes that are accepted and do not begin with white space begin with their value
pub starts : (bytes : List ℕ) (t : Tree) (first : ℕ) (tail : List ℕ) → bytes ≡ first ∷ tail → is_white first ≡ false → status_of Lines bytes ≡ parsed t → (span t).start ≡ 0
starts bytes t first tail begins at_first accepted =
    let text = (status_is bytes t accepted).1 in
    elim (cases_lt 0 (span t).start) [
      | inl lt ↦ absurd (both_ways (is_white first) at_first (ap (λ xs. is_white (byte_at xs 0)) (sym begins) ∙ text.before.white 0 (omega arith) lt))
      | inr le ↦ (let e : (span t).start ≡ 0 = omega arith in e)
    ]

-- a piece that neither begins nor ends with white space is a value, where it is accepted
pub value_is : (bytes : List ℕ) (t : Tree) (first last : ℕ) (tail front : List ℕ) → bytes ≡ first ∷ tail → is_white first ≡ false → bytes ≡ front ++ last ∷ [] → is_white last ≡ false → status_of Lines bytes ≡ parsed t → IsValue bytes t
value_is bytes t first last tail front begins at_first ends at_last accepted =
    let text = (status_is bytes t accepted).1 in
    record {
      accepted = accepted;
      start = starts bytes t first tail begins at_first accepted;
      end = elim (cases_lt (span t).end (length bytes)) [
        | inl lt ↦
            (let l : length bytes ≡ length front + 1 = ap length ends ∙ length-append front (last ∷ []) in
            let there : byte_at bytes (length front) ≡ last = ap (λ xs. byte_at xs (length front)) ends ∙ get_or_at front last [] 0 (length front) refl in
            absurd (both_ways (is_white last) at_last (ap is_white (sym there) ∙ text.after.white (length front) (omega (arith, l, lt)) (omega (arith, l)))))
        | inr le ↦ (let o = text.after.order in let e : (span t).end ≡ length bytes = omega (arith, o, le) in e)
      ];
    }

-- ---- where white space does not end a text

whole_by : Bool → ℕ → Bool → Bool → Bool → Bool → Bool
whole_by inside depth escaped opening closing quote = ((if inside then depth else (if opening then depth + 1 else (if closing then depth - 1 else depth))) == 0) && not (xor inside (quote && not escaped))

plain_whole : (place : Place) (depth : ℕ) (inside escaped : Bool) (byte : ℕ) → IsPlain byte
    → is_whole (behind (record { place = place; depth = depth; inside = inside; escaped = escaped }) byte) ≡ is_whole (record { place = place; depth = depth; inside = inside; escaped = escaped })
unfolding whole_by
plain_whole place depth inside escaped byte h =
    ap (λ b. whole_by inside depth escaped b (is_closing byte) (is_quote byte)) h.no_opening
    ∙ ap (λ b. whole_by inside depth escaped false b (is_quote byte)) h.no_closing
    ∙ ap (λ b. whole_by inside depth escaped false false b) h.no_quote
    ∙ same inside
  where
    same : (is : Bool) → whole_by is depth escaped false false false ≡ ((depth == 0) && not is)
    same true = refl
    same false = refl

last_no_white : (known : Known) (byte : ℕ) → IsUnfinished known → is_whole (behind known byte) ≡ true → is_white byte ≡ false
last_no_white known byte unfinished whole =
    false_from_ne_true (is_white byte) (λ w. both_ways (is_whole known) unfinished (sym (plain_whole known.place known.depth known.inside known.escaped byte (white_plain byte w)) ∙ whole))

bracket_unfinished : (byte : ℕ) → is_opening byte ≡ true → IsUnfinished (behind (nothing_open Text) byte)
bracket_unfinished byte h =
    elim (or_cases _ _ h) [
      | inl e ↦ subst (λ b. IsUnfinished (behind (nothing_open Text) b)) (sym (eqb-true byte 0x5B e)) refl
      | inr e ↦ subst (λ b. IsUnfinished (behind (nothing_open Text) b)) (sym (eqb-true byte 0x7B e)) refl
    ]

first_unfinished : (byte : ℕ) → (is_opening byte || is_quote byte) ≡ true → IsUnfinished (behind (nothing_open Text) byte)
first_unfinished byte h =
    elim (or_cases _ _ h) [
      | inl e ↦ bracket_unfinished byte e
      | inr e ↦ subst (λ b. IsUnfinished (behind (nothing_open Text) b)) (sym (eqb-true byte 0x22 e)) refl
    ]

-- ---- a piece that begins

follow_by : (isOpen : Bool) (after : List ℕ) → (isOpen ≡ true → may_end_word after ≡ true) → (not isOpen || may_end_word after) ≡ true
follow_by true after h = h refl
follow_by false after h = refl

-- a value whose bytes alone do not show its end is a word
ends_by : (isWord : Bool) (byte : ℕ) (bytes tail after : List ℕ) (t : Tree) → bytes ≡ byte ∷ tail → IsValue bytes t → (is_opening byte || is_quote byte) ≡ not isWord → (isWord ≡ true → may_end_word after ≡ true) → has_open_end (value_of t) ≡ true → may_end_word after ≡ true
ends_by true byte bytes tail after t begins is shows ends e = ends refl
ends_by false byte bytes tail after t begins is shows ends e =
    let all = subst (Each IsOfWord) begins (open_of_word t bytes (value_written bytes t is) e).0 in
    absurd (both_ways (is_opening byte || is_quote byte) (or_from _ _ all.0.plain.no_opening all.0.plain.no_quote) shows)

-- a value that begins with no array's bracket is no array
split_first : (pieces : Pieces) (v : Value) (bytes : List ℕ) → WritesValue bytes v → is_split pieces v ≡ true → (tail : List ℕ) × (bytes ≡ 0x5B ∷ tail) × (is_array_start pieces 0x5B ≡ true)
split_first Texts v bytes h e = absurd (cc)
split_first Elements null bytes h e = absurd (cc)
split_first Elements (boolean b) bytes h e = absurd (cc)
split_first Elements (number m x) bytes h e = absurd (cc)
split_first Elements (string points) bytes h e = absurd (cc)
split_first Elements (container array children) bytes h e = (h.0, h.1, refl)
split_first Elements (container object children) bytes h e = absurd (cc)

not_split : (pieces : Pieces) (byte : ℕ) (bytes tail : List ℕ) (t : Tree) → bytes ≡ byte ∷ tail → is_array_start pieces byte ≡ false → Writes bytes t → is_split pieces (value_of t) ≡ false
not_split pieces byte bytes tail (node s v) begins no_array h =
    false_from_ne_true (is_split pieces v)
    (λ e. (let found = split_first pieces v bytes h e in
    let same : byte ≡ 0x5B = ap (λ xs. head_of xs) (sym begins ∙ found.1) in
    both_ways (is_array_start pieces byte) no_array (ap (is_array_start pieces) same ∙ found.2)))

-- a piece that began with this byte is a value
begun_value : (pieces : Pieces) (isWord : Bool) (byte : ℕ) (rest : List ℕ) (new : List Piece) → is_white byte ≡ false → (is_opening byte || is_quote byte) ≡ not isWord → is_array_start pieces byte ≡ false → Rest pieces isWord (byte ∷ []) rest new → AllByRecursion IsTaken new → AreValues pieces (byte ∷ rest) (bytes_of new)
begun_value pieces isWord byte rest new no_white shows no_array f h =
    let all = subst (AllByRecursion IsTaken) f.parts h in
    let accepted = all.0.accepted in
    let is = value_is f.piece.bytes all.0.tree byte f.last f.tail f.front f.full no_white f.stops f.no_white accepted in
    let joined : f.piece.bytes ++ f.after ≡ byte ∷ rest = ap (λ xs. xs ++ f.after) f.full ∙ ap (λ xs. byte ∷ xs) (sym f.joined) in
    let found = value f.piece.bytes all.0.tree f.after (bytes_of f.more) is (not_split pieces byte f.piece.bytes f.tail all.0.tree f.full no_array (value_written f.piece.bytes all.0.tree is)) (follow_by (has_open_end (value_of all.0.tree)) f.after (ends_by isWord byte f.piece.bytes f.tail f.after all.0.tree f.full is shows f.ends)) f.values in
    subst (λ xs. AreValues pieces xs (bytes_of new)) joined (subst (λ (ps : List Piece). AreValues pieces (f.piece.bytes ++ f.after) (bytes_of ps)) (sym f.parts) found)

-- ---- one byte more

-- the elements of an array are pieces where its bracket says so
splits_at : (pieces : Pieces) (byte : ℕ) → is_array_start pieces byte ≡ true → (pieces ≡ Elements) × (byte ≡ 0x5B)
splits_at Texts byte e = absurd (cc)
splits_at Elements byte e = (refl, eqb-true byte 0x5B e)

module _ (pieces : Pieces) (byte : ℕ) (rest : List ℕ) (between_rest : RunsBetween pieces rest) (word_rest : RunsWord pieces rest) (text_rest : RunsText pieces rest) (start_rest : RunsStart pieces rest) where
  -- the elements of an array, and what follows
  array_values : (splits : is_array_start pieces byte ≡ true) (new : List Piece) → InArray pieces true rest new → AreValues pieces (byte ∷ rest) (bytes_of new)
  array_values splits new f =
      let is = splits_at pieces byte splits in
      let array : IsArray (byte ∷ f.inside) f.elements = record { inside = f.inside; opened = ap (λ b. b ∷ f.inside) is.1; are = f.are } in
      let found = split (byte ∷ f.inside) f.elements f.after (bytes_of f.more) is.0 array f.values in
      subst (λ xs. AreValues pieces xs (bytes_of new)) (ap (λ xs. byte ∷ xs) (sym f.joined)) (subst (λ (xs : List (List ℕ)). AreValues pieces (byte ∷ (f.inside ++ f.after)) xs) (sym f.parts) found)

  between_by : (isWhite splits shows : Bool) → is_white byte ≡ isWhite → is_array_start pieces byte ≡ splits → (is_opening byte || is_quote byte) ≡ shows → RunsBetween pieces (byte ∷ rest)
  between_by true splits shows w a s ended n =
      runs_on pieces (between ended n) (between ended (n + line_feeds_in (byte ∷ []))) byte rest (λ new. AreValues pieces rest (bytes_of new)) (λ new. AreValues pieces (byte ∷ rest) (bytes_of new)) (white_taken pieces ended n byte w) refl
      (between_rest ended (n + line_feeds_in (byte ∷ []))) (λ new h values. white byte rest (bytes_of new) w values)
  between_by false true shows w a s ended n =
      runs_on pieces (between ended n) (resting ArrayStart ended (n + line_feeds_in (byte ∷ []))) byte rest (InArray pieces true rest) (λ new. AreValues pieces (byte ∷ rest) (bytes_of new))
      (taken pieces (between ended n) byte Passed (nothing_open ArrayStart) (array_begins pieces byte w a)) refl
      (start_rest true ended (n + line_feeds_in (byte ∷ []))) (λ new h f. array_values a new f)
  between_by false false true w a s ended n =
      runs_on pieces (between ended n) (begun_at ended n (byte ∷ []) (behind (nothing_open Text) byte)) byte rest (Rest pieces false (byte ∷ []) rest) (λ new. AreValues pieces (byte ∷ rest) (bytes_of new))
      (taken pieces (between ended n) byte Kept (behind (nothing_open Text) byte) (text_begins pieces byte w a s)) refl
      (text_rest ended n (byte ∷ []) (behind (nothing_open Text) byte) refl (first_unfinished byte s)) (λ new h f. begun_value pieces false byte rest new w s a f h)
  between_by false false false w a s ended n =
      runs_on pieces (between ended n) (begun_at ended n (byte ∷ []) (nothing_open Word)) byte rest (Rest pieces true (byte ∷ []) rest) (λ new. AreValues pieces (byte ∷ rest) (bytes_of new))
      (taken pieces (between ended n) byte Kept (nothing_open Word) (word_begins pieces byte w a s)) refl
      (word_rest ended n (byte ∷ []) [] byte refl w) (λ new h f. begun_value pieces true byte rest new w s a f h)

  pub between_more : RunsBetween pieces (byte ∷ rest)
  between_more = between_by (is_white byte) (is_array_start pieces byte) (is_opening byte || is_quote byte) refl refl refl

  no_end : (a b c : Bool) → (a || b || c) ≡ false → a ≡ false
  no_end true b c e = absurd (cc)
  no_end false b c e = refl

  word_by : (ends : Bool) → ends_word byte ≡ ends → RunsWord pieces (byte ∷ rest)
  word_by true e ended n bytes front last stops no_white =
      let piece : Piece = record { bytes = bytes; is_closed = true; line_feeds = n } in
      let r = between_more (ended ++ piece ∷ []) (n + line_feeds_in bytes) in
      record {
        new = piece ∷ r.new;
        are = ap all_of (word_ended pieces ended n bytes byte rest e) ∙ r.are ∙ append_assoc ended (piece ∷ []) r.new;
        come = λ h. record { tail = []; after = byte ∷ rest; piece = piece; more = r.new; joined = refl; parts = refl; full = sym (append-nil bytes); front = front; last = last; stops = stops; no_white = no_white; ends = λ is. e; values = r.come h.1 };
      }
  word_by false e ended n bytes front last stops no_white =
      runs_on pieces (begun_at ended n bytes (nothing_open Word)) (begun_at ended n (bytes ++ byte ∷ []) (nothing_open Word)) byte rest (Rest pieces true (bytes ++ byte ∷ []) rest) (Rest pieces true bytes (byte ∷ rest))
      (taken pieces (begun_at ended n bytes (nothing_open Word)) byte Kept (nothing_open Word) (word_goes_on pieces byte e)) refl
      (word_rest ended n (bytes ++ byte ∷ []) bytes byte refl (no_end (is_white byte) (is_opening byte) (is_quote byte) e)) (λ new h f. longer pieces true bytes byte rest new f)

  pub word_more : RunsWord pieces (byte ∷ rest)
  word_more = word_by (ends_word byte) refl

  last_step : (whole : Bool) (known : Known) → whole ≡ true → (if whole then does Last (nothing_open Between) else does Kept known) ≡ does Last (nothing_open Between)
  last_step true known e = refl
  last_step false known e = absurd (cc)

  kept_step : (whole : Bool) (known : Known) → whole ≡ false → (if whole then does Last (nothing_open Between) else does Kept known) ≡ does Kept known
  kept_step true known e = absurd (cc)
  kept_step false known e = refl

  text_step : (known : Known) → known.place ≡ Text → step pieces known byte ≡ in_text (behind known byte)
  unfolding step
  text_step known e = ap (λ p. step_at p pieces known byte) e

  text_by : (whole : Bool) (known : Known) → is_whole (behind known byte) ≡ whole → known.place ≡ Text → IsUnfinished known → (ended : List Piece) (n : ℕ) (bytes : List ℕ) → Runs pieces (begun_at ended n bytes known) (byte ∷ rest) (Rest pieces false bytes (byte ∷ rest))
  text_by true known w place unfinished ended n bytes =
      let piece : Piece = record { bytes = bytes ++ byte ∷ []; is_closed = true; line_feeds = n } in
      let r = between_rest (ended ++ piece ∷ []) (n + line_feeds_in (bytes ++ byte ∷ [])) in
      let closes : take_in pieces (begun_at ended n bytes known) byte ≡ one_more ended n (bytes ++ byte ∷ []) = taken pieces (begun_at ended n bytes known) byte Last (nothing_open Between) (text_step known place ∙ last_step (is_whole (behind known byte)) (behind known byte) w) in
      record {
        new = piece ∷ r.new;
        are = ap (λ (c : Cut). all_of (fold (take_in pieces) c rest)) closes ∙ r.are ∙ append_assoc ended (piece ∷ []) r.new;
        come = λ h. record { tail = byte ∷ []; after = rest; piece = piece; more = r.new; joined = refl; parts = refl; full = refl; front = bytes; last = byte; stops = refl; no_white = last_no_white known byte unfinished w; ends = λ is. absurd (cc); values = r.come h.1 };
      }
  text_by false known w place unfinished ended n bytes =
      runs_on pieces (begun_at ended n bytes known) (begun_at ended n (bytes ++ byte ∷ []) (behind known byte)) byte rest (Rest pieces false (bytes ++ byte ∷ []) rest) (Rest pieces false bytes (byte ∷ rest))
      (taken pieces (begun_at ended n bytes known) byte Kept (behind known byte) (text_step known place ∙ kept_step (is_whole (behind known byte)) (behind known byte) w)) refl
      (text_rest ended n (bytes ++ byte ∷ []) (behind known byte) place w) (λ new h f. longer pieces false bytes byte rest new f)

  pub text_more : RunsText pieces (byte ∷ rest)
  text_more ended n bytes known place unfinished = text_by (is_whole (behind known byte)) known refl place unfinished ended n bytes
