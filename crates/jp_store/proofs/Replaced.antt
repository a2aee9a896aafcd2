-- Why a line is not replaced, or that nothing is in the way.
use Rattle.std.proofs.Common.{◌≡◌, ◌∙◌, ◌≤◌, ◌+◌, ◌-◌, ℕ, Bool, List, length, map, get_or, true, false, sym, ap, subst, arith, if◌then◌else◌}
use Rattle.std.specs.Prelude.{None, Some, slice_set, nat_lt, nat_le, ◌&&◌, ◌==◌}
use Rattle.std.specs.List.{list_any}
use Rattle.std.proofs.lemmas.List.{length-map, get_or-map}
use Rattle.std.proofs.lemmas.List.Sums.{sum_by-set}
use Rattle.jp_model.specs.declared.Framing.{Framing}
use Rattle.jp_model.specs.Lines.{separator_of}
use Rattle.jp_model.specs.Steps.{Step}
use Rattle.jp_model.specs.Script.Machine.{bytes_held}
use Rattle.jp_index.specs.declared.index.ValueIndex.{ValueIndex}
use Rattle.jp_store.specs.Collections.{Collection, replaced}
use Rattle.jp_store.specs.Edits.{RefusesText}
use Rattle.jp_store.specs.Faults.{RefusesEdit, edit_fault, has_separator, replace_fault}
use Rattle.jp_store.specs.Stored.{IsKept}
use Rattle.jp_lines.specs.Stored.{stored_text}
use Rattle.jp_store.specs.declared.EditFault.{EditFault}
use Rattle.jp_store.specs.declared.EditFault.TheVariants as edits
use Rattle.jp_store.specs.declared.counts.Counts.{Counts}
use Rattle.jp_lines.specs.declared.line.Line.{Line}
use Rattle.jp_store.proofs.Commits.{held_least}

-- a collection of these lines
abbrev pub shown : Framing → ℕ → Bool → List (List ℕ) → List (List Step) → Collection
shown f most is_metered texts paths = record { framing = f; most = most; state = record { lines = texts; paths = paths }; is_metered = is_metered }

module _ (c : Collection) (n : ℕ) (text : List ℕ) (low : 1 ≤ n) (high : n ≤ length c.state.lines) where
  there : replace_fault n text c ≡ edit_fault text (replaced n text c) c
  there =
      let yes : nat_le 1 n && nat_le n (length c.state.lines) ≡ true = search (arith, low, high) in
      ap (λ b. if b then edit_fault text (replaced n text c) c else Some edits.NoLine) yes

  pub none : bytes_held (replaced n text c) ≤ c.most → has_separator text c ≡ false → replace_fault n text c ≡ None
  none fits free =
      let small : nat_lt c.most (bytes_held (replaced n text c)) ≡ false = search (arith, fits) in
      there ∙ ap (λ b. if b then Some edits.Size else if has_separator text c then Some edits.Separator else None) small ∙ ap (λ b. if b then Some edits.Separator else None) free

  pub some : (fault : EditFault) → RefusesText fault (bytes_held (replaced n text c)) c.most c.framing text → RefusesEdit fault (replace_fault n text c)
  some edits.NoLine h = absurd h
  some edits.Size h =
      let large : nat_lt c.most (bytes_held (replaced n text c)) ≡ true = search (arith, h) in
      there ∙ ap (λ b. if b then Some edits.Size else if has_separator text c then Some edits.Separator else None) large
  some edits.Separator h =
      let fits : bytes_held (replaced n text c) ≤ c.most = h.0 in
      let small : nat_lt c.most (bytes_held (replaced n text c)) ≡ false = search (arith, fits) in
      there ∙ ap (λ b. if b then Some edits.Size else if has_separator text c then Some edits.Separator else None) small ∙ ap (λ b. if b then Some edits.Separator else None) h.1
  some edits.Memory h = absurd h

module _ (f : Framing) (bytes tapes : List ℕ) (lines : List Line) (counts : Counts) (xs : List ValueIndex) (kept : IsKept f bytes tapes lines counts xs) (n : ℕ) (low : 1 ≤ n) (high : n ≤ length lines)
    (before : Line) (old : List ℕ) (is : old ≡ stored_text bytes (get_or lines (n - 1) before)) where
  -- what the other lines hold
  pub others : length old + 1 ≤ counts.held
  others = omega (arith, held_least f bytes tapes lines (n - 1) before (omega (arith, low, high)) counts kept.each kept.counted, ap length is)

  -- the size with another text in the place of that line's
  pub size : (text : List ℕ) → counts.held - length old - 1 + (length text + 1) ≡ bytes_held (slice_set (map (stored_text bytes) lines) (n - 1) text)
  size text =
      let texts : List (List ℕ) = map (stored_text bytes) lines in
      let sums = sum_by-set (λ (l : List ℕ). length l + 1) texts (n - 1) text (stored_text bytes before) (omega (arith, low, high, length-map lines (stored_text bytes))) in
      let at : get_or texts (n - 1) (stored_text bytes before) ≡ old = get_or-map (stored_text bytes) lines (n - 1) before (stored_text bytes before) (omega (arith, low, high)) ∙ sym is in
      omega (arith, others, sums, ap length at, kept.counted.held_is)

  module _ (most : ℕ) (is_metered : Bool) (text : List ℕ) (paths : List (List Step)) where
    abbrev now : Collection
    now = shown f most is_metered (map (stored_text bytes) lines) paths

    within : n ≤ length now.state.lines
    within = omega (arith, high, length-map lines (stored_text bytes))

    pub nothing : (held : ℕ) → held ≡ counts.held - length old - 1 + (length text + 1) → held ≤ most → list_any (λ b. b == separator_of f) text ≡ false → replace_fault n text now ≡ None
    nothing held is fits free = none now n text low within (omega (arith, is, fits, size text)) free

    pub something : (fault : EditFault) → RefusesText fault (counts.held - length old - 1 + (length text + 1)) most f text → RefusesEdit fault (replace_fault n text now)
    something fault h = some now n text low within fault (subst (λ k. RefusesText fault k most f text) (size text) h)
