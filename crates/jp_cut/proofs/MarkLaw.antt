-- The front of a stream, where a byte order mark may be.
use Rattle.std.proofs.Common.{◌≡◌, ℕ, ◌-◌, ◌≤◌, min, Bool, true, false, ◌&&◌, eqb, List, [], ◌∷◌, ◌++◌, ◌≢◌, length, take, drop, arith, refl, sym, ap, subst, ◌∙◌, cond}
use Rattle.std.proofs.lemmas.Bool.{eqb-true}
use Rattle.std.proofs.lemmas.List.{drop_min, length-drop}
use Rattle.jp_model.specs.Characters.{text_equal}
use Rattle.jp_model.specs.Lines.{without_byte_order_mark}
use Rattle.jp_cut.specs.Cuts.{Piece, cut_of, take_in, pieces_of}
use Rattle.jp_cut.specs.Front.{may_become_mark}
use Rattle.jp_cut.specs.Machine.{step}
use Rattle.jp_cut.specs.declared.machine.Pieces.{Pieces}
use Rattle.jp_cut.specs.declared.machine.Pieces.TheVariants.{Texts, Elements}

-- ---- where enough bytes came, whether a mark is there does not hang on what comes

not_first : (x z : Bool) (d w : List ℕ) → x ≡ false → cond (x && z) d w ≡ w
not_first false z d w e = refl
not_first true z d w e = absurd (cc)

not_second : (x y z : Bool) (d w : List ℕ) → (x && y) ≡ false → cond (x && (y && z)) d w ≡ w
not_second false y z d w e = refl
not_second true false z d w e = refl
not_second true true z d w e = absurd (cc)

no_first : (a : ℕ) (rest : List ℕ) → eqb a 0xEF ≡ false → without_byte_order_mark (a ∷ rest) ≡ a ∷ rest
no_first a rest e = not_first (eqb a 0xEF) (text_equal (take 2 rest) (0xBB ∷ 0xBF ∷ [])) (drop 2 rest) (a ∷ rest) e

no_second : (a b : ℕ) (rest : List ℕ) → (eqb a 0xEF && eqb b 0xBB) ≡ false → without_byte_order_mark (a ∷ b ∷ rest) ≡ a ∷ b ∷ rest
no_second a b rest e = not_second (eqb a 0xEF) (eqb b 0xBB) (text_equal (take 1 rest) (0xBF ∷ [])) (drop 1 rest) (a ∷ b ∷ rest) e

either_more : (t : Bool) (x y more : List ℕ) → cond t (x ++ more) (y ++ more) ≡ cond t x y ++ more
either_more true x y more = refl
either_more false x y more = refl

pub settled : (stream more : List ℕ) → may_become_mark stream ≡ false → without_byte_order_mark (stream ++ more) ≡ without_byte_order_mark stream ++ more
settled [] more e = absurd (cc)
settled (a ∷ []) more e = no_first a more e ∙ ap (λ xs. xs ++ more) (sym (no_first a [] e))
settled (a ∷ b ∷ []) more e = no_second a b more e ∙ ap (λ xs. xs ++ more) (sym (no_second a b [] e))
settled (a ∷ b ∷ c ∷ rest) more e = either_more (text_equal (a ∷ b ∷ c ∷ []) (0xEF ∷ 0xBB ∷ 0xBF ∷ [])) rest (a ∷ b ∷ c ∷ rest) more

-- what is dropped are the bytes at the front that are not kept
either_dropped : (t : Bool) (xs : List ℕ) → drop (length xs - length (cond t (drop 3 xs) xs)) xs ≡ cond t (drop 3 xs) xs
either_dropped true xs =
    let n : length xs - length (drop 3 xs) ≡ min 3 (length xs) = omega (arith, length-drop 3 xs) in
    ap (λ k. drop k xs) n ∙ drop_min 3 xs
either_dropped false xs = let n : length xs - length xs ≡ 0 = omega arith in ap (λ k. drop k xs) n

pub mark_dropped : (xs : List ℕ) → drop (length xs - length (without_byte_order_mark xs)) xs ≡ without_byte_order_mark xs
mark_dropped xs = either_dropped (text_equal (take 3 xs) (0xEF ∷ 0xBB ∷ 0xBF ∷ [])) xs

short_rest : (t : Bool) (xs : List ℕ) → length (cond t (drop 3 xs) xs) ≤ length xs
short_rest true xs = omega (arith, length-drop 3 xs)
short_rest false xs = omega arith

-- at most all is kept
pub kept_short : (xs : List ℕ) → length (without_byte_order_mark xs) ≤ length xs
kept_short xs = short_rest (text_equal (take 3 xs) (0xEF ∷ 0xBB ∷ 0xBF ∷ [])) xs

-- ---- a part of a mark

-- the bytes of a part of a mark are one text
pub part_pieces : List ℕ → List Piece
part_pieces [] = []
part_pieces (a ∷ rest) = record { bytes = a ∷ rest; is_closed = true; line_feeds = 0 } ∷ []

both : (x y : Bool) → (x && y) ≡ true → (x ≡ true) × (y ≡ true)
both true true e = (refl, refl)
both true false e = absurd (cc)
both false y e = absurd (cc)

-- the bytes of a part
a_part : (P : List ℕ → Type 0) → P [] → P (0xEF ∷ []) → P (0xEF ∷ 0xBB ∷ []) → (stream : List ℕ) → may_become_mark stream ≡ true → P stream
a_part P none one two [] e = none
a_part P none one two (a ∷ []) e = subst (λ x. P (x ∷ [])) (sym (eqb-true a 0xEF e)) one
a_part P none one two (a ∷ b ∷ []) e =
    let parts = both (eqb a 0xEF) (eqb b 0xBB) e in
    subst (λ x. P (x ∷ b ∷ [])) (sym (eqb-true a 0xEF parts.0)) (subst (λ x. P (0xEF ∷ x ∷ [])) (sym (eqb-true b 0xBB parts.1)) two)
a_part P none one two (a ∷ b ∷ c ∷ rest) e = absurd (cc)

none_ended : (pieces : Pieces) → ((cut_of pieces (without_byte_order_mark [])).ended ≡ []) × ((cut_of pieces (0xEF ∷ [])).ended ≡ []) × ((cut_of pieces (0xEF ∷ 0xBB ∷ [])).ended ≡ [])
unfolding cut_of take_in step
none_ended Texts = (refl, refl, refl)
none_ended Elements = (refl, refl, refl)

-- no piece ended in a part of a mark
pub part_ended : (pieces : Pieces) (stream : List ℕ) → may_become_mark stream ≡ true → (cut_of pieces (without_byte_order_mark stream)).ended ≡ []
part_ended pieces stream e =
    let made = none_ended pieces in
    a_part (λ xs. (cut_of pieces (without_byte_order_mark xs)).ended ≡ []) made.0 made.1 made.2 stream e

last_parts : (pieces : Pieces) → (pieces_of pieces [] ≡ part_pieces []) × (pieces_of pieces (0xEF ∷ []) ≡ part_pieces (0xEF ∷ [])) × (pieces_of pieces (0xEF ∷ 0xBB ∷ []) ≡ part_pieces (0xEF ∷ 0xBB ∷ []))
unfolding cut_of take_in step part_pieces
last_parts Texts = (refl, refl, refl)
last_parts Elements = (refl, refl, refl)

-- the pieces of a part of a mark
part_all : (pieces : Pieces) (stream : List ℕ) → may_become_mark stream ≡ true → pieces_of pieces stream ≡ part_pieces stream
part_all pieces stream e =
    let made = last_parts pieces in
    a_part (λ xs. pieces_of pieces xs ≡ part_pieces xs) made.0 made.1 made.2 stream e

no_part : part_pieces [] ≡ []
unfolding part_pieces
no_part = refl

pub part_none : (pieces : Pieces) (stream : List ℕ) → stream ≡ [] → pieces_of pieces stream ≡ []
part_none pieces stream e = ap (pieces_of pieces) e ∙ (last_parts pieces).0 ∙ no_part

some_part : (stream : List ℕ) → length stream ≢ 0 → part_pieces stream ≡ record { bytes = stream; is_closed = true; line_feeds = 0 } ∷ []
unfolding part_pieces
some_part [] some = absurd (some refl)
some_part (a ∷ rest) some = refl

pub part_one : (pieces : Pieces) (stream : List ℕ) → may_become_mark stream ≡ true → length stream ≢ 0 → pieces_of pieces stream ≡ record { bytes = stream; is_closed = true; line_feeds = 0 } ∷ []
part_one pieces stream e some = part_all pieces stream e ∙ some_part stream some
