-- The line stands in the place of the other, and the counts and the indexes are of it too; after a refusal they are as before.
use Rattle.std.proofs.Common.{◌≡◌, ◌∙◌, ◌≤◌, ◌-◌, List, ℕ, ap, ap₂, refl, subst, arith, length, map, set, get_or}
use Rattle.std.specs.Prelude.{None}
use Rattle.std.proofs.lemmas.List.{map-set}
use Rattle.jp_store.specs.Collections.{replaced, with_lines}
use Rattle.jp_store.specs.Edits.{AreEdited}
use Rattle.jp_store.specs.Faults.{RefusesEdit, replace_fault}
use Rattle.jp_index.specs.Numbered.{with_number}
use Rattle.jp_store.specs.Stored.{path_of}
use Rattle.jp_lines.specs.Stored.{told_of, IsRead, is_fault_status, is_tree_status, told_tree, stored_text}
use Rattle.jp_lines.specs.declared.line.Line.{Line}
use Rattle.jp_store.proofs.Commits.{bit, kept_same, kept_set, trees_least, trees_most}
use Rattle.jp_store.proofs.Edited.{edited_paths, same_paths}
use Rattle.jp_store.proofs.Replaced.{nothing, others, shown, something}
use Rattle.jp_store.proofs.store.Store.replace.Goals as goal

text_is : (bytes : List ℕ) (lines : List Line) (i : ℕ) (line : Line) (b text : List ℕ) → text ≡ stored_text b line → b ≡ bytes → line ≡ get_or lines i line → text ≡ stored_text bytes (get_or lines i line)
text_is bytes lines i line b text e f g = e ∙ ap₂ stored_text f g

pub overflow_sub-rest : goal.overflow_sub-rest
overflow_sub-rest c =
    let s = c.self.inside in
    let low : 1 ≤ c.args.n = omega (arith, c.if-n-eq0.false) in
    let high : c.args.n ≤ length s.lines.items = omega (arith, c.if-n-len.false, c.len.ensures) in
    let is = text_is s.bytes.items s.lines.items (c.args.n - 1) c.index-old.result.now c.deref.result.now c.text_of.result.now c.text_of.ensures c.deref.ensures.value c.index-old.ensures in
    omega (arith, others s.framing s.bytes.items s.tapes.items s.lines.items s.counts s.indexes.items c.self.invariant c.args.n low high c.index-old.result.now c.text_of.result.now is)

pub overflow_sub-rest-2 : goal.overflow_sub-rest-2
overflow_sub-rest-2 c =
    let s = c.self.inside in
    let low : 1 ≤ c.args.n = omega (arith, c.if-n-eq0.false) in
    let high : c.args.n ≤ length s.lines.items = omega (arith, c.if-n-len.false, c.len.ensures) in
    let is = text_is s.bytes.items s.lines.items (c.args.n - 1) c.index-old.result.now c.deref.result.now c.text_of.result.now c.text_of.ensures c.deref.ensures.value c.index-old.ensures in
    omega (arith, others s.framing s.bytes.items s.tapes.items s.lines.items s.counts s.indexes.items c.self.invariant c.args.n low high c.index-old.result.now c.text_of.result.now is)

pub returns-in-Err : goal.returns-in-Err
returns-in-Err c =
    let s = c.self.inside in
    let low : 1 ≤ c.args.n = omega (arith, c.if-n-eq0.false) in
    let high : c.args.n ≤ length s.lines.items = omega (arith, c.if-n-len.false, c.len.ensures) in
    let is = text_is s.bytes.items s.lines.items (c.args.n - 1) c.index-old.result.now c.deref.result.now c.text_of.result.now c.text_of.ensures c.deref.ensures.value c.index-old.ensures in
    (subst (λ v. RefusesEdit c.in-Err.fault (replace_fault c.args.n c.args.text.now v)) c.self.view_is (something s.framing s.bytes.items s.tapes.items s.lines.items s.counts s.indexes.items c.self.invariant c.args.n low high c.index-old.result.now c.text_of.result.now is s.most s.is_metered c.args.text.now (map path_of s.indexes.items) c.in-Err.fault c.in-Err.ensures), refl)

pub returns-in_default : goal.returns-in_default
returns-in_default c =
    let s = c.self.inside in
    let low : 1 ≤ c.args.n = omega (arith, c.if-n-eq0.false) in
    let high : c.args.n ≤ length s.lines.items = omega (arith, c.if-n-len.false, c.len.ensures) in
    let is = text_is s.bytes.items s.lines.items (c.args.n - 1) c.index-old.result.now c.deref.result.now c.text_of.result.now c.text_of.ensures c.deref.ensures.value c.index-old.ensures in
    (subst (λ v. replace_fault c.args.n c.args.text.now v ≡ None) c.self.view_is (nothing s.framing s.bytes.items s.tapes.items s.lines.items s.counts s.indexes.items c.self.invariant c.args.n low high c.index-old.result.now c.text_of.result.now is s.most s.is_metered c.args.text.now (map path_of s.indexes.items) c.in-Ok.held c.in-Ok.ensures.0 c.in-Ok.ensures.1 c.in-Ok.ensures.2), refl)

pub returns-in_default-reserve : goal.returns-in_default-reserve
returns-in_default-reserve c =
    let s = c.self.inside in
    let low : 1 ≤ c.args.n = omega (arith, c.if-n-eq0.false) in
    let high : c.args.n ≤ length s.lines.items = omega (arith, c.if-n-len.false, c.len.ensures) in
    let is = text_is s.bytes.items s.lines.items (c.args.n - 1) c.index-old.result.now c.deref.result.now c.text_of.result.now c.text_of.ensures c.deref.ensures.value c.index-old.ensures in
    (subst (λ v. replace_fault c.args.n c.args.text.now v ≡ None) c.self.view_is (nothing s.framing s.bytes.items s.tapes.items s.lines.items s.counts s.indexes.items c.self.invariant c.args.n low high c.index-old.result.now c.text_of.result.now is s.most s.is_metered c.args.text.now (map path_of s.indexes.items) c.in-Ok.held c.in-Ok.ensures.0 c.in-Ok.ensures.1 c.in-Ok.ensures.2), c.self.view_is)

pub root_of_line-root-requires : goal.root_of_line-root-requires
root_of_line-root-requires c =
    record { framing = c.self.inside.framing; read = (c.in-Ok-read_edited.ensures c.deref-2.result.now c.deref-3.result.now).0 }

pub invariant_of-self-in_default-edit_indexes : goal.invariant_of-self-in_default-edit_indexes
invariant_of-self-in_default-edit_indexes c =
    let s = c.self.inside in
    kept_same s.framing s.bytes.items s.tapes.items s.lines.items s.counts c.reserve.new.self s.indexes.items c.edit_indexes.new.indexes.items c.self.invariant c.in-Ok-reserve.ensures.held c.in-Ok-reserve.ensures.trees c.in-Ok-reserve.ensures.refused
    c.in_default-edit_indexes.ensures.err

pub returns-in_default-edit_indexes : goal.returns-in_default-edit_indexes
returns-in_default-edit_indexes c =
    let s = c.self.inside in
    let low : 1 ≤ c.args.n = omega (arith, c.if-n-eq0.false) in
    let high : c.args.n ≤ length s.lines.items = omega (arith, c.if-n-len.false, c.len.ensures) in
    let is = text_is s.bytes.items s.lines.items (c.args.n - 1) c.index-old.result.now c.deref.result.now c.text_of.result.now c.text_of.ensures c.deref.ensures.value c.index-old.ensures in (
      subst (λ v. replace_fault c.args.n c.args.text.now v ≡ None) c.self.view_is (nothing s.framing s.bytes.items s.tapes.items s.lines.items s.counts s.indexes.items c.self.invariant c.args.n low high c.index-old.result.now c.text_of.result.now is s.most s.is_metered c.args.text.now (map path_of s.indexes.items) c.in-Ok.held c.in-Ok.ensures.0 c.in-Ok.ensures.1 c.in-Ok.ensures.2),
      ap (shown s.framing s.most s.is_metered (map (stored_text s.bytes.items) s.lines.items)) (same_paths s.indexes.items c.edit_indexes.new.indexes.items c.in_default-edit_indexes.ensures.err) ∙ c.self.view_is,
    )

pub change-requires-clause-least : goal.change-requires-clause-least
change-requires-clause-least c =
    let s = c.self.inside in
    let low : 1 ≤ c.args.n = omega (arith, c.if-n-eq0.false) in
    let high : c.args.n ≤ length s.lines.items = omega (arith, c.if-n-len.false, c.len.ensures) in
    let had = ap bit (c.is_tree-had_tree.ensures ∙ ap (λ (l : Line). is_tree_status (told_of l)) c.index-old.ensures) in
    omega (arith, trees_least s.framing s.bytes.items s.tapes.items s.lines.items (c.args.n - 1) c.index-old.result.now (omega (arith, low, high)) s.counts c.self.invariant.each c.self.invariant.counted, had, c.in-Ok-reserve.ensures.trees)

pub change-requires-clause-most : goal.change-requires-clause-most
change-requires-clause-most c =
    let s = c.self.inside in
    let low : 1 ≤ c.args.n = omega (arith, c.if-n-eq0.false) in
    let high : c.args.n ≤ length s.lines.items = omega (arith, c.if-n-len.false, c.len.ensures) in
    let had = ap bit (c.is_tree-had_tree.ensures ∙ ap (λ (l : Line). is_tree_status (told_of l)) c.index-old.ensures) in
    omega (arith, trees_most s.framing s.bytes.items s.tapes.items s.lines.items (c.args.n - 1) c.index-old.result.now (omega (arith, low, high)) s.counts c.self.invariant.each c.self.invariant.counted, had, c.in-Ok-reserve.ensures.trees, c.self.invariant.few)

module _ (c : goal.Joined-index_mut-line) where
  read : IsRead c.self.inside.framing c.self.inside.bytes.items c.self.inside.tapes.items c.in-Ok-read_edited.line
  read = (c.in-Ok-read_edited.ensures c.self.inside.bytes.items c.self.inside.tapes.items).0

  text_now : stored_text c.self.inside.bytes.items c.in-Ok-read_edited.line ≡ c.args.text.now
  text_now = (c.in-Ok-read_edited.ensures c.self.inside.bytes.items c.self.inside.tapes.items).1

  edited : AreEdited c.args.n (told_tree (told_of c.in-Ok-read_edited.line) (stored_text c.self.inside.bytes.items c.in-Ok-read_edited.line)) c.self.inside.indexes.items c.edit_indexes.new.indexes.items
  edited = subst (λ t. AreEdited c.args.n t c.self.inside.indexes.items c.edit_indexes.new.indexes.items) (c.root_of_line-root.ensures ∙ ap (λ b. told_tree (told_of c.in-Ok-read_edited.line) (stored_text b c.in-Ok-read_edited.line)) c.deref-2.ensures.value) c.in-Ok-edit_indexes.ensures.ok

pub invariant_of-self-2 : goal.invariant_of-self-2
invariant_of-self-2 c =
    let s = c.self.inside in
    let low : 1 ≤ c.args.n = omega (arith, c.if-n-eq0.false) in
    let high : c.args.n ≤ length s.lines.items = omega (arith, c.if-n-len.false, c.len.ensures) in
    let is = text_is s.bytes.items s.lines.items (c.args.n - 1) c.index-old.result.now c.deref.result.now c.text_of.result.now c.text_of.ensures c.deref.ensures.value c.index-old.ensures in
    let had = (c.is_tree-had_tree.ensures ∙ ap (λ (l : Line). is_tree_status (told_of l)) c.index-old.ensures) in
    let line = c.in-Ok-read_edited.line in
    kept_set s.framing s.bytes.items s.tapes.items s.lines.items line (read c) c.args.n (c.args.n - 1) c.index-old.result.now (omega (arith, low, high)) (omega (arith, low))
    s.counts c.change.new.self s.indexes.items c.edit_indexes.new.indexes.items c.self.invariant
    (omega (arith, c.change.ensures.held, c.in-Ok.ensures.0, others s.framing s.bytes.items s.tapes.items s.lines.items s.counts s.indexes.items c.self.invariant c.args.n low high c.index-old.result.now c.text_of.result.now is, ap length is, ap length (text_now c)))
    (omega (arith, c.change.ensures.trees, c.in-Ok-reserve.ensures.trees, ap bit had))
    (c.change.ensures.refused ∙ ap (with_number c.args.n (is_fault_status (told_of line))) c.in-Ok-reserve.ensures.refused)
    (edited c)

pub returns : goal.returns
returns c =
    let s = c.self.inside in
    let low : 1 ≤ c.args.n = omega (arith, c.if-n-eq0.false) in
    let high : c.args.n ≤ length s.lines.items = omega (arith, c.if-n-len.false, c.len.ensures) in
    let is = text_is s.bytes.items s.lines.items (c.args.n - 1) c.index-old.result.now c.deref.result.now c.text_of.result.now c.text_of.ensures c.deref.ensures.value c.index-old.ensures in
    let line = c.in-Ok-read_edited.line in (
      subst (λ v. replace_fault c.args.n c.args.text.now v ≡ None) c.self.view_is (nothing s.framing s.bytes.items s.tapes.items s.lines.items s.counts s.indexes.items c.self.invariant c.args.n low high c.index-old.result.now c.text_of.result.now is s.most s.is_metered c.args.text.now (map path_of s.indexes.items) c.in-Ok.held c.in-Ok.ensures.0 c.in-Ok.ensures.1 c.in-Ok.ensures.2),
      ap₂ (shown s.framing s.most s.is_metered) (map-set (stored_text s.bytes.items) s.lines.items (c.args.n - 1) line ∙ ap (set (map (stored_text s.bytes.items) s.lines.items) (c.args.n - 1)) (text_now c))
          (edited_paths c.args.n (told_tree (told_of line) (stored_text s.bytes.items line)) s.indexes.items c.edit_indexes.new.indexes.items (edited c))
          ∙ ap (λ v. with_lines (replaced c.args.n c.args.text.now v) v) c.self.view_is,
    )
