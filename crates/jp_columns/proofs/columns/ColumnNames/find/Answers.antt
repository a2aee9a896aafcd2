-- One more member is noted for its columns.
use Rattle.std.proofs.Common.{◌≡◌, ◌∙◌, ◌+◌, ◌<◌, ℕ, List, [], length, get_or, false, true, All, IfSome, Option, Some, None, sym, ap, refl, subst, inr, arith}
use Rattle.std.specs.List.{list_all}
use Rattle.std.specs.Option.{is_some}
use Rattle.std.proofs.lemmas.Bool.{true≢false}
use Rattle.std.proofs.lemmas.List.{length-map}
use Rattle.std.proofs.lemmas.List.Elements.{All-from_get_or}
use Rattle.std.proofs.lemmas.List.Sums.{AllPass-from_list_all}
use Rattle.jp_model.specs.Json.Faults.{names, has_repeated}
use Rattle.jp_model.specs.Json.Tree.{Children}
use Rattle.jp_model.specs.Meaning.Nodes.{Node}
use Rattle.jp_model.specs.Meaning.Slices.{is_name}
use Rattle.jp_nodes.specs.declared.cursor.Cursor.{Cursor}
use Rattle.jp_nodes.specs.Cursors.{line_of, name_of, node_of, children_after, children_from}
use Rattle.jp_nodes.proofs.Cursors.{sound, standing}
use Rattle.jp_children.specs.Found.{node_list}
use Rattle.jp_children.specs.Walks.{IsAt}
use Rattle.jp_children.proofs.Members.{distinct_behind, distinct_children}
use Rattle.jp_children.proofs.NoMembers.{no_members}
use Rattle.jp_children.proofs.Walks.{all_chosen, at_first, at_next}
use Rattle.jp_columns.specs.Columns.{names_of}
use Rattle.jp_columns.specs.Names.{text_of}
use Rattle.jp_columns.proofs.Members.{IsFound, all_columns, found_already, found_each, found_last, lined_each, written_back}
use Rattle.jp_columns.proofs.columns.ColumnNames.find.Goals as goal

pub returns-then-ne-clause-nodes : goal.returns-then-ne-clause-nodes
returns-then-ne-clause-nodes c =
    let n : Node = node_of c.args.node in
    let names = c.args.self.now.names in
    let texts = names_of c.args.self.now in
    let found : List (Option Cursor) = c.resize.new.self.items in
    let e = c.in_ok-resize.ensures in
    let many : length found ≡ c.len.result = omega (arith, e.len, c.resize.new.self.ok.0) in
    let count : length found ≡ length texts = omega (arith, many, c.len.ensures, names.ok.0, length-map names.items text_of) in
    all_columns n texts found count (λ column within.
    ap node_list (e.by_index.1 column None refl (omega (arith, c.clear.ensures.len)) (omega (arith, many, within)))
    ∙ sym (no_members (line_of c.args.node) (get_or texts column []) n (standing c.args.node).spells (λ is.
    let differs = rw (c.kind.ensures ∙ is) at c.ne.ensures in
    true≢false (sym c.if-ne.true ∙ differs))))

pub loop-next-init : goal.loop-next-init
loop-next-init c =
    let n : Node = node_of c.args.node in
    let names_kept = c.args.self.now.names in
    let texts = names_of c.args.self.now in
    let found : List (Option Cursor) = c.resize.new.self.items in
    let e = c.in_ok-resize.ensures in
    let f = c.first_child-next.ensures in
    let next : Option Cursor = c.first_child-next.result in
    let many : length found ≡ c.len.result = omega (arith, e.len, c.resize.new.self.ok.0) in
    let none : (column : ℕ) → column < length found → get_or found column None ≡ None =
    λ column within. e.by_index.1 column None refl (omega (arith, c.clear.ensures.len)) (omega (arith, many, within)) in
    let at : IsAt n 0 next = at_first n next f.nodes f.children in
    record {
      index = 0;
      at = at;
      each = λ column within. inr (none column within, all_chosen (is_name (get_or texts column [])) n next at);
      length = omega (arith, many, c.len.ensures, names_kept.ok.0, length-map names_kept.items text_of);
      once = subst (λ (x : Children). has_repeated (names x) ≡ false) (sym f.children) (distinct_children n.tree (sound c.args.node).distinct);
      line = f.line;
      lines = All-from_get_or (λ some. IfSome some (λ d. line_of d ≡ line_of c.args.node)) found None (λ column within.
          subst (λ some. IfSome some (λ d. line_of d ≡ line_of c.args.node)) (sym (none column within)) tt);
    }

pub note-requires : goal.note-requires
note-requires c = ap length c.deref_mut.ensures.value ∙ c.loop-next.invariant.length

pub loop-next-preserved : goal.loop-next-preserved
loop-next-preserved c =
    let n : Node = node_of c.args.node in
    let texts = names_of c.args.self.now in
    let child : Cursor = c.in-Some.member in
    let next : Option Cursor = c.next_sibling-next.result in
    let e = c.next_sibling-next.ensures in
    let before = c.loop-next.invariant in
    let i = before.index in
    let old : List (Option Cursor) = c.deref_mut.result.now in
    let new : List (Option Cursor) = c.note.new.found in
    let value = c.deref_mut.ensures.value in
    let at : IsAt n i (Some child) = subst (IsAt n i) c.in-Some.is before.at in
    let once : has_repeated (names (children_from (Some child))) ≡ false = subst (λ (some : Option Cursor). has_repeated (names (children_from some)) ≡ false) c.in-Some.is before.once in
    let line : line_of child ≡ line_of c.args.node = subst (λ (some : Option Cursor). IfSome some (λ d. line_of d ≡ line_of c.args.node)) c.in-Some.is before.line in
    let same = written_back c.loop-next.found.len new c.loop-next.found.items (c.note.ensures.length ∙ ap length value) (omega (arith, c.loop-next.found.ok.0)) in
    let each = subst (λ (l : List (Option Cursor)). (column : ℕ) → column < length l → IsFound n i (Some child) (get_or texts column []) (get_or l column None)) (sym value)
    (subst (λ some. (column : ℕ) → column < length c.loop-next.found.items → IsFound n i some (get_or texts column []) (get_or c.loop-next.found.items column None)) c.in-Some.is before.each) in
    let each_next = found_each n texts old new child c.note.ensures.length c.note.ensures.named c.note.ensures.others i next at once e.children each in
    let lines_next = lined_each n texts old new child c.note.ensures.length c.note.ensures.named c.note.ensures.others (line_of c.args.node) line
    (subst (All (λ some. IfSome some (λ d. line_of d ≡ line_of c.args.node))) (sym value) before.lines) in
    record {
      index = i + 1;
      at = at_next n i child next at e.nodes e.children;
      each = subst (λ (l : List (Option Cursor)). (column : ℕ) → column < length l → IsFound n (i + 1) next (get_or texts column []) (get_or l column None)) (sym same) each_next;
      length = ap length same ∙ c.note.ensures.length ∙ ap length value ∙ before.length;
      once = subst (λ (y : Children). has_repeated (names y) ≡ false) (sym e.children) (distinct_behind (name_of child) (node_of child).tree (children_after child) once);
      line = subst (λ (l : List ℕ). IfSome next (λ d. line_of d ≡ l)) line e.line;
      lines = subst (All (λ some. IfSome some (λ d. line_of d ≡ line_of c.args.node))) (sym same) lines_next;
    }

pub returns-then-have_all-clause-nodes : goal.returns-then-have_all-clause-nodes
returns-then-have_all-clause-nodes c =
    let n : Node = node_of c.args.node in
    let texts = names_of c.args.self.now in
    let found = c.loop-next.found.items in
    let before = c.loop-next.invariant in
    let all : list_all is_some found ≡ true = ap (list_all is_some) (sym c.deref.ensures.value) ∙ sym c.have_all.ensures ∙ c.if-have_all.true in
    all_columns n texts found before.length (λ column within.
    found_already n (get_or texts column []) (get_or found column None) before.index c.loop-next.next
    (AllPass-from_list_all is_some found all column None within) (before.each column within))

pub returns-clause-nodes : goal.returns-clause-nodes
returns-clause-nodes c =
    let n : Node = node_of c.args.node in
    let texts = names_of c.args.self.now in
    let before = c.loop-next.invariant in
    all_columns n texts c.loop-next.found.items before.length (λ column within.
    let x : List ℕ = get_or texts column [] in
    let some : Option Cursor = get_or c.loop-next.found.items column None in
    found_last n x some before.index (subst (λ (next : Option Cursor). IsFound n before.index next x some) c.in_default.is (before.each column within)))

pub returns-clause-lines : goal.returns-clause-lines
returns-clause-lines c = c.loop-next.invariant.lines
