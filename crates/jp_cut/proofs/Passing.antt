-- Bytes of a piece that leave a bracket of it open.
use Rattle.std.proofs.Common.{◌≡◌, ℕ, ◌+◌, ◌-◌, ◌<◌, ◌≤◌, Bool, true, false, ◌&&◌, eqb, List, [], ◌∷◌, ◌++◌, length, take, drop, arith, refl, sym, ap, subst, ◌∙◌, append_assoc, inl, inr}
use Rattle.std.proofs.lemmas.Bool.Decides.{eqb_tells}
use Rattle.std.proofs.Math.Seq.{take-add}
use Rattle.std.proofs.lemmas.List.{append-nil, take-append-drop, take-take, drop-drop}
use Rattle.std.proofs.lemmas.List.Sums.{fold-append}
use Rattle.std.specs.Prelude.{◌==◌, slice_range, fold, if◌then◌else◌}
use Rattle.jp_cut.specs.Cuts.{Piece, Cut, start, take_in, cut_of}
use Rattle.jp_cut.specs.Holding.{HasCut}
use Rattle.jp_cut.specs.Machine.{behind, is_whole, does, nothing_open, step_at, step}
use Rattle.jp_cut.specs.Passing.{AreKept, Keeps, Passes, StaysOpen, behind_all, is_inside, known_after}
use Rattle.jp_cut.proofs.Depth.{behind_le}
use Rattle.jp_cut.specs.declared.cutter.Cutter.{Cutter}
use Rattle.jp_cut.specs.declared.machine.Pieces.{Pieces}
use Rattle.jp_cut.specs.declared.machine.Known.{Known}
use Rattle.jp_cut.specs.declared.machine.Place.{Place}
use Rattle.jp_cut.specs.declared.machine.Place.TheVariants.{Between, Word, Text, ArrayStart, NextElement, Element}
use Rattle.jp_cut.specs.declared.machine.Step.{Step}
use Rattle.jp_cut.specs.declared.machine.Turn.TheVariants.{Kept, Last, Ended}
use Rattle.jp_cut.proofs.Taking.{take_in-turned}

-- one byte more stays open
pub stays_more : (known : Known) (bytes : List ℕ) (byte : ℕ) → StaysOpen known bytes → 0 < (behind (behind_all known bytes) byte).depth → StaysOpen known (bytes ++ byte ∷ [])
stays_more known [] byte stays more = (stays, more)
stays_more known (b ∷ rest) byte stays more = (stays.0, stays_more (behind known b) rest byte stays.1 more)

pub behind_all-more : (known : Known) (bytes : List ℕ) (byte : ℕ) → behind_all known (bytes ++ byte ∷ []) ≡ behind (behind_all known bytes) byte
behind_all-more known bytes byte = fold-append behind known bytes (byte ∷ [])

-- ---- such bytes are kept

not_zero : (d : ℕ) → 0 < d → eqb d 0 ≡ false
not_zero d some = elim (eqb_tells d 0) [ inl same ↦ absurd (omega (arith, same.1)) | inr other ↦ other.0 ]

not_whole : (d : ℕ) (other : Bool) → 0 < d → (eqb d 0 && other) ≡ false
not_whole d other some = ap (λ b. b && other) (not_zero d some)

pub kept_in_text : (whole : Bool) (known : Known) → whole ≡ false → (if whole then does Last (nothing_open Between) else does Kept known) ≡ does Kept known
kept_in_text true known e = absurd (cc)
kept_in_text false known e = refl

pub kept_in_element : (whole a b c : Bool) (known : Known) → whole ≡ false
    → (if whole && a then does Ended (nothing_open NextElement) else (if whole && b then does Ended (nothing_open Between) else (if whole && c then does Last (nothing_open Between) else does Kept known))) ≡ does Kept known
kept_in_element true a b c known e = absurd (cc)
kept_in_element false a b c known e = refl

kept_at : (place : Place) (pieces : Pieces) (known : Known) (byte : ℕ) → is_inside place ≡ true → 0 < known.depth → 0 < (behind known byte).depth → step_at place pieces known byte ≡ does Kept (behind known byte)
kept_at Between pieces known byte e some more = absurd (cc)
kept_at Word pieces known byte e some more = absurd (cc)
kept_at Text pieces known byte e some more = kept_in_text (is_whole (behind known byte)) (behind known byte) (not_whole (behind known byte).depth _ more)
kept_at ArrayStart pieces known byte e some more = absurd (cc)
kept_at NextElement pieces known byte e some more = absurd (cc)
kept_at Element pieces known byte e some more = kept_in_element (is_whole known) (byte == 0x2C) (byte == 0x5D) (byte == 0x7D) (behind known byte) (not_whole known.depth _ some)

kept : (pieces : Pieces) (known : Known) (byte : ℕ) → is_inside known.place ≡ true → 0 < known.depth → 0 < (behind known byte).depth → step pieces known byte ≡ does Kept (behind known byte)
unfolding step
kept pieces known byte e some more = kept_at known.place pieces known byte e some more

now_open : (known : Known) (bytes : List ℕ) → StaysOpen known bytes → 0 < known.depth
now_open known [] stays = stays
now_open known (b ∷ rest) stays = stays.0

-- what bytes that stay open are cut into
abbrev pub behind_kept : Cut → List ℕ → Cut
behind_kept cut bytes = record { ended = cut.ended; begun = cut.begun ++ bytes; line_feeds = cut.line_feeds; known = behind_all cut.known bytes }

pub kept_one : (pieces : Pieces) (cut : Cut) (byte : ℕ) → step pieces cut.known byte ≡ does Kept (behind cut.known byte) → take_in pieces cut byte ≡ behind_kept cut (byte ∷ [])
kept_one pieces cut byte e =
    take_in-turned pieces cut byte Kept (ap (λ x. x.turn) e)
    ∙ ap (λ (k : Known). let made : Cut = record { ended = cut.ended; begun = cut.begun ++ byte ∷ []; line_feeds = cut.line_feeds; known = k } in made) (ap (λ x. x.known) e)

-- where a bracket stays open
pub keeps_open : (pieces : Pieces) (known : Known) (bytes : List ℕ) → is_inside known.place ≡ true → StaysOpen known bytes
    → AreKept pieces known bytes × (known_after pieces known bytes ≡ behind_all known bytes)
keeps_open pieces known [] inside stays = (tt, refl)
keeps_open pieces known (byte ∷ rest) inside stays =
    let one = kept pieces known byte inside stays.0 (now_open (behind known byte) rest stays.1) in
    let next = ap (λ (s : Step). s.known) one in
    let more = keeps_open pieces (behind known byte) rest inside stays.1 in
    ((ap (λ (s : Step). s.turn) one, subst (λ (k : Known). AreKept pieces k rest) (sym next) more.0), ap (λ (k : Known). known_after pieces k rest) next ∙ more.1)

are_more : (pieces : Pieces) (known : Known) (bytes : List ℕ) (byte : ℕ) → AreKept pieces known bytes → (step pieces (known_after pieces known bytes) byte).turn ≡ Kept → AreKept pieces known (bytes ++ byte ∷ [])
are_more pieces known [] byte are more = (more, tt)
are_more pieces known (b ∷ rest) byte are more = (are.0, are_more pieces (step pieces known b).known rest byte are.1 more)

-- one byte more is kept
pub keeps_more : (pieces : Pieces) (known now : Known) (bytes : List ℕ) (byte : ℕ) → Keeps pieces known bytes now → (step pieces now byte).turn ≡ Kept → Keeps pieces known (bytes ++ byte ∷ []) (step pieces now byte).known
keeps_more pieces known now bytes byte keeps more = record {
  are = are_more pieces known bytes byte keeps.are (ap (λ (k : Known). (step pieces k byte).turn) (sym keeps.same) ∙ more);
  same = ap (λ (k : Known). (step pieces k byte).known) keeps.same ∙ sym (fold-append (λ now byte. (step pieces now byte).known) known bytes (byte ∷ []));
}

-- what bytes that are kept are cut into
abbrev after_kept : Pieces → Cut → List ℕ → Cut
after_kept pieces cut bytes = record { ended = cut.ended; begun = cut.begun ++ bytes; line_feeds = cut.line_feeds; known = known_after pieces cut.known bytes }

kept_all : (pieces : Pieces) (cut : Cut) (bytes : List ℕ) → AreKept pieces cut.known bytes → fold (take_in pieces) cut bytes ≡ after_kept pieces cut bytes
kept_all pieces cut [] are =
    ap (λ (b : List ℕ). let made : Cut = record { ended = cut.ended; begun = b; line_feeds = cut.line_feeds; known = cut.known } in made) (sym (append-nil cut.begun))
kept_all pieces cut (byte ∷ rest) are =
    ap (λ (c : Cut). fold (take_in pieces) c rest) (take_in-turned pieces cut byte Kept are.0)
    ∙ kept_all pieces (after_kept pieces cut (byte ∷ [])) rest are.1
    ∙ ap (λ (b : List ℕ). let made : Cut = record { ended = cut.ended; begun = b; line_feeds = cut.line_feeds; known = known_after pieces (step pieces cut.known byte).known rest } in made) (append_assoc cut.begun (byte ∷ []) rest)

-- ---- and so they are of what a cutter holds

-- a part, and the next
slice_range_join : (xs : List ℕ) (a c n : ℕ) → a ≤ c → slice_range xs a c ++ take n (drop c xs) ≡ slice_range xs a (c + n)
slice_range_join xs a c n order =
    let parts : c + n - a ≡ (c - a) + n = omega arith in
    let there : a + (c - a) ≡ c = omega arith in
    sym (ap (λ k. take k (drop a xs)) parts ∙ take-add (c - a) n (drop a xs) ∙ ap (λ ys. slice_range xs a c ++ take n ys) (drop-drop (c - a) a xs ∙ ap (λ k. drop k xs) there))

pub passed : (pieces : Pieces) (fed : List ℕ) (handed : List Piece) (s t : Cutter) (n : ℕ) → HasCut pieces fed handed s → Keeps s.pieces s.known (take n (drop s.cut s.held.items)) t.known
    → t.held ≡ s.held → t.cut ≡ s.cut + n → t.start ≡ s.start → t.line_feeds ≡ s.line_feeds → t.pieces ≡ s.pieces → HasCut pieces fed handed t
unfolding cut_of
passed pieces fed handed s t n h keeps held cut start_is lines p =
    let some = take n (drop s.cut s.held.items) in
    let are = subst (λ (q : Pieces). Keeps q s.known some t.known) h.are keeps in
    record {
      cut = h.cut ++ some;
      line_feeds = h.line_feeds;
      are = p ∙ h.are;
      joined = h.joined ∙ ap (λ xs. h.cut ++ xs) (sym (take-append-drop n (drop s.cut s.held.items)) ∙ ap (λ xs. some ++ xs) (drop-drop n s.cut s.held.items))
          ∙ sym (append_assoc h.cut some (drop (s.cut + n) s.held.items)) ∙ ap (λ k. (h.cut ++ some) ++ drop k s.held.items) (sym cut) ∙ ap (λ v. (h.cut ++ some) ++ drop t.cut v.items) (sym held);
      state = fold-append (take_in pieces) start h.cut some
          ∙ ap (λ (c : Cut). fold (take_in pieces) c some) h.state
          ∙ kept_all pieces (record { ended = handed; begun = slice_range s.held.items s.start s.cut; line_feeds = h.line_feeds; known = s.known }) some are.are
          ∙ ap (λ (b : List ℕ). let made : Cut = record { ended = handed; begun = b; line_feeds = h.line_feeds; known = known_after pieces s.known some } in made)
          (slice_range_join s.held.items s.start s.cut n (omega (arith, s.order)) ∙ ap (λ k. slice_range s.held.items s.start k) (sym cut) ∙ ap (λ k. slice_range s.held.items k t.cut) (sym start_is) ∙ ap (λ v. slice_range v.items t.start t.cut) (sym held))
          ∙ ap (λ (k : Known). let made : Cut = record { ended = handed; begun = slice_range t.held.items t.start t.cut; line_feeds = h.line_feeds; known = k } in made) (sym are.same);
      counted = lines ∙ h.counted;
    }

-- ---- passed over part by part

-- a bracket is open after such bytes
pub still_open : (known : Known) (bytes : List ℕ) → StaysOpen known bytes → 0 < (behind_all known bytes).depth
still_open known [] stays = stays
still_open known (byte ∷ rest) stays = still_open (behind known byte) rest stays.1

-- at most one bracket opens at each byte
pub behind_all_le : (known : Known) (bytes : List ℕ) → (behind_all known bytes).depth ≤ known.depth + length bytes
behind_all_le known [] = omega arith
behind_all_le known (byte ∷ rest) = omega (arith, behind_all_le (behind known byte) rest, behind_le known byte)

stays_join : (known : Known) (first second : List ℕ) → StaysOpen known first → StaysOpen (behind_all known first) second → StaysOpen known (first ++ second)
stays_join known [] second stays more = more
stays_join known (byte ∷ rest) second stays more = (stays.0, stays_join (behind known byte) rest second stays.1 more)

-- bytes of a block are those of the bytes that it is of
pub part_of : (bytes block : List ℕ) (at size n : ℕ) → block ≡ take size (drop at bytes) → n ≤ size → take n block ≡ take n (drop at bytes)
part_of bytes block at size n is few = ap (take n) is ∙ take-take n size (drop at bytes) few

-- a part, and the next
pub passes_on : (known middle next : Known) (bytes : List ℕ) (at count : ℕ) → Passes known (take at bytes) middle → Passes middle (take count (drop at bytes)) next → Passes known (take (at + count) bytes) next
passes_on known middle next bytes at count first second =
    let parts = take-add at count bytes in
    let both = stays_join known (take at bytes) (take count (drop at bytes)) first.stays (subst (λ (k : Known). StaysOpen k (take count (drop at bytes))) first.same second.stays) in
    record {
      stays = subst (StaysOpen known) (sym parts) both;
      same = second.same ∙ ap (λ (k : Known). behind_all k (take count (drop at bytes))) first.same ∙ sym (fold-append behind known (take at bytes) (take count (drop at bytes))) ∙ ap (behind_all known) (sym parts);
    }
