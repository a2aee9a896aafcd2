-- The last block, of which only the first bytes were read.
use Rattle.std.proofs.Common.{◌≡◌, ℕ, zero, suc, ◌+◌, ◌-◌, ◌<◌, ◌≤◌, nat_lt, Bool, true, false, ◌||◌, List, ◌++◌, length, take, get_or, refl, sym, ap, ap₂, ◌∙◌, arith, append_assoc, subst, replicate, Some, ◌⊎◌, inl, inr}
use Rattle.std.proofs.lemmas.Bool.{cases_lt, lt-ltb, le-ltb, false≢true}
use Rattle.std.proofs.lemmas.List.{length-append, length-replicate, get_or-append-add}
use Rattle.std.proofs.Math.Seq.{take-append_seam}
use Rattle.std.proofs.lemmas.Str.{IsUtf8-take, IsCharBoundary-before_ascii}
use Rattle.std.specs.Str.{IsUtf8}
use lib.Bits.{bit_and, bit_or}
use Rattle.jp_model.specs.declared.Framing.{Framing}
use Rattle.jp_lanes.specs.Word.{bit, Says}
use Rattle.jp_lanes.proofs.Words.{bit-or}
use Rattle.jp_masks.specs.Positions.{set_bits}
use Rattle.jp_masks.specs.Ends.{is_end}
use Rattle.jp_masks.specs.Machine.{is_marked, before}
use Rattle.jp_masks.specs.Sinks.{add_positions, sink_of}
use Rattle.jp_masks.proofs.Bits.{bit-and}
use Rattle.jp_masks.proofs.LineMore.{known_after}
use Rattle.jp_masks.proofs.LineBlocks.{and-true, and-false}
use Rattle.jp_masks.proofs.SinkLaw.{block_law}

module _ (ones n : ℕ) (at_ones : Says ones (λ i. nat_lt i n)) where
  below : (word i : ℕ) → i < n → i < 64 → bit (bit_and word ones) i ≡ bit word i
  below word i low within = bit-and word ones i ∙ and-true (bit word i) (bit ones i) (at_ones i within ∙ lt-ltb i n low)

  above : (word i : ℕ) → n ≤ i → i < 64 → bit (bit_and word ones) i ≡ false
  above word i high within = bit-and word ones i ∙ and-false (bit word i) (bit ones i) (at_ones i within ∙ le-ltb i n high)

  none_above : (m e i : ℕ) → n ≤ i → i < 64 → bit (bit_or (bit_and m ones) (bit_and e ones)) i ≡ false
  none_above m e i high within = bit-or (bit_and m ones) (bit_and e ones) i ∙ ap₂ (λ (x y : Bool). x || y) (above m i high within) (above e i high within)

  -- a bit that is set tells of a byte that was read
  pub set_below : (m e i : ℕ) → i < 64 → bit (bit_or (bit_and m ones) (bit_and e ones)) i ≡ true → i < n
  set_below m e i within set = go (cases_lt i n)
    where
      go : (i < n) ⊎ (n ≤ i) → i < n
      go (inl low) = low
      go (inr high) = absurd (false≢true (sym (none_above m e i high within) ∙ set))

  module _ (framing : Framing) (text whole held block : List ℕ) (base m e : ℕ) (n_is : n ≡ length held) (short : n < 64) (block_is : block ≡ held ++ replicate (64 - length held) 0) (base_is : base ≡ length whole)
      (joined : text ≡ whole ++ held) (at_marks : Says m (λ i. is_marked (before (Some framing) (known_after (Some framing) whole) block i) (get_or block i 0)))
      (at_ends : Says e (λ i. is_end (Some framing) (get_or block i 0))) where
    long : length block ≡ 64
    long = ap length block_is ∙ omega (arith, n_is, length-append held (replicate (64 - length held) 0), length-replicate {A = ℕ} (64 - length held) 0)

    front : take n block ≡ held
    front = ap₂ (λ k (b : List ℕ). take k b) n_is block_is ∙ take-append_seam held (replicate (64 - length held) 0)

    pub last_law : add_positions framing (bit_and e ones) base (sink_of framing whole) (set_bits (bit_or (bit_and m ones) (bit_and e ones))) ≡ sink_of framing text
    last_law =
        block_law framing whole block (bit_and m ones) (bit_and e ones) base n long (omega arith) (sym base_is)
        (λ i low. below m i low (omega arith) ∙ at_marks i (omega arith)) (λ i low. below e i low (omega arith) ∙ at_ends i (omega arith)) (none_above m e)
        ∙ ap (sink_of framing) (ap (λ l. whole ++ l) front ∙ sym joined)

  -- zeros after a text do not make it UTF-8
  pub utf8_law : (text whole held block : List ℕ) → n ≡ length held → n < 64 → block ≡ held ++ replicate (64 - length held) 0 → text ≡ whole ++ held → IsUtf8 (whole ++ block) → IsUtf8 text
  utf8_law text whole held block n_is short block_is joined u =
      let zeros : List ℕ = replicate (64 - length held) 0 in
      let all : whole ++ block ≡ text ++ zeros = ap (λ b. whole ++ b) block_is ∙ sym (append_assoc whole held zeros) ∙ ap (λ t. t ++ zeros) (sym joined) in
      let v : IsUtf8 (text ++ zeros) = subst IsUtf8 all u in
      let room : length text < length (text ++ zeros) = omega (arith, n_is, short, length-append text zeros, length-replicate {A = ℕ} (64 - length held) 0) in
      let zero_there : get_or (text ++ zeros) (length text) 0 ≡ 0 =
      (let here : length text ≡ length text + 0 = omega arith in ap (λ i. get_or (text ++ zeros) i 0) here) ∙ get_or-append-add text zeros 0 0 ∙ zero_first (64 - length held) in
      subst IsUtf8 (take-append_seam text zeros) (IsUtf8-take (text ++ zeros) (length text) v (IsCharBoundary-before_ascii (text ++ zeros) (length text) room (omega (arith, zero_there))))
    where
      zero_first : (k : ℕ) → get_or {A = ℕ} (replicate k 0) 0 0 ≡ 0
      zero_first zero = refl
      zero_first (suc k) = refl
