-- What is known of nodes, with one node more.
use Rattle.std.proofs.Common.{ℕ, List, [], ◌∷◌, Vec, Global, subst, sym}
use Rattle.jp_model.specs.Meaning.Selecting.{nodes}
use Rattle.jp_model.specs.Query.Syntax.{Segments}
use Rattle.jp_nodes.specs.declared.cursor.Cursor.{Cursor}
use Rattle.jp_nodes.specs.Cursors.{line_of, node_of}
use Rattle.jp_eval.specs.Answers.{AreSums, table_in, tree_in}
use Rattle.jp_eval.specs.Programs.{tail_at}
use Rattle.jp_eval.specs.Tallies.{IsKnown}
use Rattle.jp_eval.specs.declared.frame.Run.{Run}
use Rattle.jp_eval.proofs.Remembered.{one_more_known}
use Rattle.jp_eval.proofs.frame.Run.note.Goals as goal

pub keep_at-requires-clause-right : goal.keep_at-requires-clause-right
keep_at-requires-clause-right c =
    let run : Run = c.args.self in
    let ss : Segments = tail_at (table_in run) c.args.position in
    let taken = c.take_sums-sums.ensures in
    let room = c.in_ok-prepare.ensures in
    let found : List Cursor = c.prepare.new.frame.found.items in
    let same = subst (λ (v : Vec Cursor Global). IsKnown (line_of run.root.now) v.items c.args.most (nodes ss (node_of c.args.node ∷ []) (tree_in run)) c.args.known) (sym room.found) c.requires.is in
    let is = subst (λ (k : ℕ). IsKnown (line_of run.root.now) found k (nodes ss (node_of c.args.node ∷ []) (tree_in run)) c.args.known) (sym taken.most) same in
    subst (λ (v : Vec Cursor Global). AreSums run v.items ss c.note-noted.new.self) (sym taken.found)
    (one_more_known run found ss c.take_sums-sums.result c.note-noted.new.self c.args.node c.place.result c.args.known taken.sums c.note-noted.ensures.most c.note-noted.ensures.known c.requires.line c.place.ensures.value is)
