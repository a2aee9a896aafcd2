-- Steps over the bytes of a text, as far as they are ASCII.
use Rattle.std.proofs.Common.{◌≡◌, ℕ, zero, suc, ◌+◌, ◌<◌, ◌↔◌, List, [], ◌∷◌, ◌++◌, length, drop, map, get_or, slice_index, bit_and, arith, sym, ◌∙◌, ap, subst}
use Rattle.std.proofs.lemmas.List.{drop_more}
use Rattle.std.proofs.lemmas.Nat.Bits.{bit_at-zero}
use Rattle.std.proofs.lemmas.Str.{chars-append, chars-IsAscii, IsUtf8-from_ascii}
use Rattle.std.specs.Str.{chars, IsAscii}
use Rattle.jp_iregexp.specs.declared.automaton.Automaton.{Automaton}
use Rattle.jp_iregexp.specs.Layouts.{state_of}
use Rattle.jp_iregexp.specs.States.{State, HasState, IsStep, Leads, WaitsAfter}
use Rattle.jp_iregexp.proofs.Leading.{stepped}
use Rattle.jp_iregexp.proofs.Masks.{masked_step}

one_ascii : (b : ℕ) → b < 128 → IsAscii (b ∷ [])
one_ascii b few = λ i. by i
  where
    by : (i : ℕ) → get_or (b ∷ []) i 0 < 128
    by zero = few
    by (suc i) = omega arith

-- an ASCII byte is a scalar by itself
ascii_first : (b : ℕ) (bs : List ℕ) → b < 128 → chars (b ∷ bs) ≡ b ∷ chars bs
ascii_first b bs few =
    let one = one_ascii b few in
    chars-append (b ∷ []) bs (IsUtf8-from_ascii (b ∷ []) one) ∙ ap (λ l. l ++ chars bs) (chars-IsAscii (b ∷ []) one)

-- the scalars from a position on, where an ASCII byte stands
pub ascii_cut : (text bytes : List ℕ) (i : ℕ) → bytes ≡ text → i < length bytes → slice_index bytes i < 128 → chars (drop i text) ≡ slice_index bytes i ∷ chars (drop (i + 1) text)
ascii_cut text bytes i same inside few = subst (λ (l : List ℕ). chars (drop i l) ≡ slice_index bytes i ∷ chars (drop (i + 1) l)) same (ap chars (drop_more bytes i 0 inside) ∙ ascii_first (slice_index bytes i) (drop (i + 1) bytes) few)

-- the states that wait after those that are ready
pub ready_step : (a : Automaton) (waiting byte ready next : ℕ) → byte < 128 → ready ≡ bit_and waiting (get_or a.ascii.items byte 0)
    → ((q : ℕ) → HasState next q ↔ WaitsAfter (map state_of a.states.items) ready q) → IsStep (map state_of a.states.items) waiting byte next
ready_step a waiting byte ready next few is after =
    masked_step (map state_of a.states.items) a.ascii.items waiting byte next a.masks (omega (arith, few, a.all))
    (subst (λ n. (q : ℕ) → HasState next q ↔ WaitsAfter (map state_of a.states.items) n q) is after)

none_waits : (states : List State) (q : ℕ) → HasState 0 q ↔ WaitsAfter states 0 q
none_waits states q = ((λ h. let z = bit_at-zero q in absurd (omega (arith, z, h))), (λ w. let z = bit_at-zero w.number in let h = w.is_ready in absurd (omega (arith, z, h))))

-- where no state is ready nothing waits after the scalar
pub none_after : (a : Automaton) (waiting byte ready : ℕ) → byte < 128 → ready ≡ bit_and waiting (get_or a.ascii.items byte 0) → ready ≡ 0 → IsStep (map state_of a.states.items) waiting byte 0
none_after a waiting byte ready few is none = ready_step a waiting byte 0 0 few (sym none ∙ is) (none_waits (map state_of a.states.items))

-- the states that wait lead over the rest of a text exactly where those after an ASCII byte lead over what follows it
pub leads_byte : (states : List State) (waiting next : ℕ) (text bytes : List ℕ) (i : ℕ) → bytes ≡ text → i < length bytes → slice_index bytes i < 128 → IsStep states waiting (slice_index bytes i) next
    → Leads states waiting (chars (drop i text)) ↔ Leads states next (chars (drop (i + 1) text))
leads_byte states waiting next text bytes i same inside few step =
    subst (λ r. Leads states waiting r ↔ Leads states next (chars (drop (i + 1) text))) (sym (ascii_cut text bytes i same inside few)) (stepped states waiting next (slice_index bytes i) (chars (drop (i + 1) text)) step)
