-- The line is after the others, and the counts and the indexes are of it too; after want of memory they are as before.
use Rattle.std.proofs.Common.{◌≡◌, ◌∙◌, ◌≤◌, ◌+◌, ◌++◌, List, [], ◌∷◌, ℕ, ap, ap₂, sym, subst, arith, length, map}
use Rattle.std.specs.Prelude.{None}
use Rattle.std.proofs.lemmas.List.{length-map, map-append}
use Rattle.jp_model.specs.Script.Machine.{bytes_held}
use Rattle.jp_model.specs.Steps.{Step}
use Rattle.jp_store.specs.Collections.{Collection, appended, with_lines}
use Rattle.jp_store.specs.Edits.{AreEdited}
use Rattle.jp_store.specs.Faults.{append_fault}
use Rattle.jp_index.specs.Numbered.{with_number}
use Rattle.jp_store.specs.Stored.{IsKept, path_of}
use Rattle.jp_lines.specs.Stored.{told_of, IsRead, is_fault_status, told_tree, stored_text}
use Rattle.jp_lines.specs.declared.line.Line.{Line}
use Rattle.jp_store.proofs.Commits.{few_trees, kept_same, kept_more}
use Rattle.jp_store.proofs.Edited.{lines_fit, same_paths, edited_paths, appends}
use Rattle.jp_store.proofs.store.Store.append.Goals as goal

pub root_of_line-root-requires : goal.root_of_line-root-requires
root_of_line-root-requires c = record { framing = c.self.inside.framing; read = (c.in-Ok-read_edited.ensures c.deref.result.now c.deref-2.result.now).0 }

pub invariant_of-self-in_default-edit_indexes : goal.invariant_of-self-in_default-edit_indexes
invariant_of-self-in_default-edit_indexes c =
    let s = c.self.inside in
    let inv = c.self.invariant in
    let ys = c.edit_indexes.new.indexes.items in
    subst (λ lines. IsKept s.framing s.bytes.items s.tapes.items lines c.reserve-2.new.self ys) (sym c.in-Ok-reserve.ensures.items)
    (kept_same s.framing s.bytes.items s.tapes.items s.lines.items s.counts c.reserve-2.new.self s.indexes.items ys inv c.in-Ok-reserve-2.ensures.held c.in-Ok-reserve-2.ensures.trees c.in-Ok-reserve-2.ensures.refused c.in_default-edit_indexes.ensures.err)

pub returns-in_default-edit_indexes : goal.returns-in_default-edit_indexes
returns-in_default-edit_indexes c =
    let s = c.self.inside in
    let texts : List (List ℕ) = map (stored_text s.bytes.items) s.lines.items in
    let fits : bytes_held texts + (length c.args.text.now + 1) ≤ s.most = omega (arith, c.in-Ok.ensures.0, c.in-Ok.ensures.1, c.self.invariant.counted.held_is) in
    let shown : List (List Step) → List Line → Collection = λ ps ls. record { framing = s.framing; most = s.most; state = record { lines = map (stored_text s.bytes.items) ls; paths = ps }; is_metered = s.is_metered } in (
      subst (λ v. append_fault c.args.text.now v ≡ None) c.self.view_is (appends (shown (map path_of s.indexes.items) s.lines.items) c.args.text.now fits c.in-Ok.ensures.2),
      ap₂ shown (same_paths s.indexes.items c.edit_indexes.new.indexes.items c.in_default-edit_indexes.ensures.err) c.in-Ok-reserve.ensures.items ∙ c.self.view_is,
    )

pub overflow_add-n : goal.overflow_add-n
overflow_add-n c =
    let s = c.self.inside in
    let texts : List (List ℕ) = map (stored_text s.bytes.items) s.lines.items in
    omega (arith, c.in-Ok.ensures.0, c.in-Ok.ensures.1, c.self.invariant.counted.held_is, lines_fit texts, length-map s.lines.items (stored_text s.bytes.items), c.len.ensures, ap length c.in-Ok-reserve.ensures.items, c.self.invariant.few)

pub change-requires-clause-most : goal.change-requires-clause-most
change-requires-clause-most c =
    let s = c.self.inside in
    let texts : List (List ℕ) = map (stored_text s.bytes.items) s.lines.items in
    omega (arith, c.in-Ok.ensures.0, c.in-Ok.ensures.1, c.self.invariant.counted.held_is, c.self.invariant.counted.trees_is, lines_fit texts, few_trees s.framing texts, c.in-Ok-reserve-2.ensures.trees)

module _ (c : goal.After-push_reserved) where
  read : IsRead c.self.inside.framing c.self.inside.bytes.items c.self.inside.tapes.items c.in-Ok-read_edited.line
  read = (c.in-Ok-read_edited.ensures c.self.inside.bytes.items c.self.inside.tapes.items).0

  text_is : stored_text c.self.inside.bytes.items c.in-Ok-read_edited.line ≡ c.args.text.now
  text_is = (c.in-Ok-read_edited.ensures c.self.inside.bytes.items c.self.inside.tapes.items).1

  lines_are : c.push_reserved.new.self.items ≡ c.self.inside.lines.items ++ c.in-Ok-read_edited.line ∷ []
  lines_are = c.push_reserved.ensures.items ∙ ap (λ l. l ++ c.in-Ok-read_edited.line ∷ []) c.in-Ok-reserve.ensures.items

  edited : AreEdited (c.len.result + 1) (told_tree (told_of c.in-Ok-read_edited.line) (stored_text c.self.inside.bytes.items c.in-Ok-read_edited.line)) c.self.inside.indexes.items c.edit_indexes.new.indexes.items
  edited = subst (λ t. AreEdited (c.len.result + 1) t c.self.inside.indexes.items c.edit_indexes.new.indexes.items) (c.root_of_line-root.ensures ∙ ap (λ b. told_tree (told_of c.in-Ok-read_edited.line) (stored_text b c.in-Ok-read_edited.line)) c.deref.ensures.value) c.in-Ok-edit_indexes.ensures.ok

pub invariant_of-self-2 : goal.invariant_of-self-2
invariant_of-self-2 c =
    let s = c.self.inside in
    let inv = c.self.invariant in
    let line = c.in-Ok-read_edited.line in
    let texts : List (List ℕ) = map (stored_text s.bytes.items) s.lines.items in
    subst (λ lines. IsKept s.framing s.bytes.items s.tapes.items lines c.change.new.self c.edit_indexes.new.indexes.items) (sym (lines_are c))
    (kept_more s.framing s.bytes.items s.tapes.items s.lines.items line (read c) (c.len.result + 1) (omega (arith, c.len.ensures, ap length c.in-Ok-reserve.ensures.items))
    s.counts c.change.new.self s.indexes.items c.edit_indexes.new.indexes.items inv
    (omega (arith, c.in-Ok.ensures.0, c.in-Ok.ensures.1, inv.counted.held_is, lines_fit texts, length-map s.lines.items (stored_text s.bytes.items), c.len.ensures, ap length c.in-Ok-reserve.ensures.items))
    (omega (arith, c.change.ensures.held, c.in-Ok.ensures.0, ap length (text_is c)))
    (omega (arith, c.change.ensures.trees, c.in-Ok-reserve-2.ensures.trees))
    (c.change.ensures.refused ∙ ap (with_number (c.len.result + 1) (is_fault_status (told_of line))) c.in-Ok-reserve-2.ensures.refused)
    (edited c))

pub returns : goal.returns
returns c =
    let s = c.self.inside in
    let text = c.args.text.now in
    let texts : List (List ℕ) = map (stored_text s.bytes.items) s.lines.items in
    let line = c.in-Ok-read_edited.line in
    let fits : bytes_held texts + (length text + 1) ≤ s.most = omega (arith, c.in-Ok.ensures.0, c.in-Ok.ensures.1, c.self.invariant.counted.held_is) in
    let shown : List (List Step) → List (List ℕ) → Collection = λ ps ls. record { framing = s.framing; most = s.most; state = record { lines = ls; paths = ps }; is_metered = s.is_metered } in (
      subst (λ v. append_fault text v ≡ None) c.self.view_is (appends (shown (map path_of s.indexes.items) texts) text fits c.in-Ok.ensures.2),
      ap₂ shown (edited_paths (c.len.result + 1) (told_tree (told_of line) (stored_text s.bytes.items line)) s.indexes.items c.edit_indexes.new.indexes.items (edited c))
          (ap (map (stored_text s.bytes.items)) (lines_are c) ∙ map-append (stored_text s.bytes.items) s.lines.items (line ∷ []) ∙ ap (λ t. texts ++ t ∷ []) (text_is c))
          ∙ ap (λ v. with_lines (appended text v) v) c.self.view_is,
      omega (arith, c.len.ensures, ap length c.in-Ok-reserve.ensures.items, ap (λ (v : Collection). length v.state.lines) c.self.view_is, length-map s.lines.items (stored_text s.bytes.items)),
    )
