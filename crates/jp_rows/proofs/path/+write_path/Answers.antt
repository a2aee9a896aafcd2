-- The path of a node is that of its parent, and then the step to the node.
use Rattle.std.proofs.Common.{◌≡◌, ◌++◌, ◌∷◌, [], List, ℕ, sym, ◌∙◌, ap, subst, encode_utf8_all}
use Rattle.jp_devices.specs.Devices.{Writes}
use Rattle.jp_model.specs.Meaning.Nodes.{step_to}
use Rattle.jp_model.specs.Meaning.Paths.{step_text, path_text}
use Rattle.jp_nodes.specs.declared.cursor.Cursor.{Cursor}
use Rattle.jp_nodes.specs.Cursors.{node_of, name_of, index_of}
use Rattle.jp_devices.proofs.Chains.{part_more, ends_behind, ends_in_part}
use Rattle.jp_rows.proofs.Printed.{path-push}
use Rattle.jp_rows.proofs.path.+write_path.Goals as goal

-- the bytes of the last step
abbrev last_bytes : Cursor → List ℕ
last_bytes c = encode_utf8_all (step_text (step_to (index_of c) (name_of c)))

path-of : (c p : Cursor) → (node_of c).location ≡ (node_of p).location ++ step_to (index_of c) (name_of c) ∷ [] → path_text (node_of c).location ≡ path_text (node_of p).location ++ last_bytes c
path-of c p e = ap path_text e ∙ path-push (node_of p).location (step_to (index_of c) (name_of c))

pub returns-in_err-write_path-clause-text : goal.returns-in_err-write_path-clause-text
returns-in_err-write_path-clause-text g t c =
    let cursor = c.args.cursor in
    subst (λ b. Writes g.W.Write.contents c.args.out.now c.write_path.new.out c.from_residual.result b) (sym (path-of cursor c.in-Some.parent c.in-Some.ensures.location))
    (ends_in_part c.from_residual.result _ _ _ c.from_residual.ensures.0 (part_more _ _ _ (last_bytes cursor) c.in_err-write_path.ensures.text))

pub returns-clause-text : goal.returns-clause-text
returns-clause-text g t c =
    let cursor = c.args.cursor in
    let parent = c.in-Some.parent in
    subst (λ b. Writes g.W.Write.contents c.args.out.now c.write_step.new.out c.write_step.result b) (sym (path-of cursor parent c.in-Some.ensures.location))
    (ends_behind c.write_step.result _ _ _ (path_text (node_of parent).location) (last_bytes cursor) c.in_ok-write_path.ensures.text c.write_step.ensures.text)
