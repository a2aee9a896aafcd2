-- Bytes of a cell that stand for themselves.
use Rattle.std.proofs.Common.{arith, inl, inr, ◌≡◌, ◌∙◌, ◌+◌, ◌<◌, ◌≤◌, ◌==◌, ◌++◌, ◌∷◌, [], ℕ, zero, suc, List, Bool, true, false, refl, sym, ap, ap₂, subst, drop, length, take}
use Rattle.std.specs.Prelude.{slice_index}
use Rattle.std.proofs.Math.Seq.{drop-cons}
use Rattle.std.proofs.lemmas.Bool.Decides.{eqb_tells}
use Rattle.std.proofs.lemmas.List.Concat.{flat_map-cons}
use Rattle.jp_lanes.specs.Search.{is_special}
use Rattle.jp_table.specs.Tables.{byte_text, bytes_text}
use Rattle.jp_form.specs.declared.form.Table.{Table}
use Rattle.jp_form.specs.declared.form.Table.TheVariants as tables

-- a byte that does not pass a test is none that does
pub differs : (test : ℕ → Bool) (byte special : ℕ) → test special ≡ true → test byte ≡ false → (byte == special) ≡ false
differs test byte special is plain = elim (eqb_tells byte special) [
  | inl same ↦ absurd (by (sym is ∙ sym (ap test same.1) ∙ plain))
  | inr other ↦ other.0
]
  where
    by : true ≡ false → ⊥
    by e = cc

plain_byte : (table : Table) (byte : ℕ) → is_special byte ≡ false → byte_text table byte ≡ byte ∷ []
plain_byte tables.Tabs byte plain = rw (differs is_special byte 0x09 refl plain, differs is_special byte 0x0A refl plain, differs is_special byte 0x0D refl plain, differs is_special byte 0x5C refl plain) refl
plain_byte tables.Commas byte plain = rw (differs is_special byte 0x22 refl plain) refl
plain_byte tables.Canonical byte plain = refl

-- from the position `at` on, `n` bytes stand for themselves
pub plain_run : (table : Table) (cell : List ℕ) (n at : ℕ) → at + n ≤ length cell → ((k : ℕ) → at ≤ k → k < at + n → is_special (slice_index cell k) ≡ false)
    → bytes_text table (take n (drop at cell)) ≡ take n (drop at cell)
plain_run table cell zero at within plain = refl
plain_run table cell (suc n) at within plain =
    let byte = slice_index cell at in
    let rest = drop (suc at) cell in
    let whole : drop at cell ≡ byte ∷ rest = drop-cons cell at 0 (omega (arith, within)) in
    let one = plain_byte table byte (plain at (omega arith) (omega arith)) in
    let others = plain_run table cell n (suc at) (omega (arith, within)) (λ k low high. plain k (omega (arith, low)) (omega (arith, high))) in
    subst (λ l. bytes_text table (take (suc n) l) ≡ take (suc n) l) (sym whole) (flat_map-cons (byte_text table) byte (take n rest) ∙ ap₂ (λ a b. a ++ b) one others)
