-- Without a node to begin at no node is selected, and nothing is remembered.
use Rattle.std.proofs.Common.{◌∙◌, Option, ap, map, sym}
use Rattle.jp_children.specs.Found.{node_list}
use Rattle.jp_eval.specs.Compiled.{program_view}
use Rattle.jp_lines.specs.Views.{text_of_view}
use Rattle.jp_model.proofs.Seek.{no_nodes}
use Rattle.jp_model.specs.Meaning.Selecting.{nodes}
use Rattle.jp_nodes.specs.Cursors.{node_of}
use Rattle.jp_nodes.specs.declared.cursor.Cursor.{Cursor}
use Rattle.jp_grep.specs.Asked.{asked_tree}
use Rattle.jp_grep.proofs.asked.AskedQuery.find_from.Goals as goal

pub returns-in-None-clause-nodes : goal.returns-in-None-clause-nodes
returns-in-None-clause-nodes c =
    let program = program_view c.args.self.now.program in
    let t = asked_tree c.args.asked.now in
    ap (map node_of) c.forget.ensures.found ∙ sym (no_nodes program t) ∙ ap (λ (o : Option Cursor). nodes program (node_list o) t) (sym c.in-None.is) ∙ c.requires.start

pub returns-in-None-clause-remembers : goal.returns-in-None-clause-remembers
returns-in-None-clause-remembers c = c.forget.ensures.remembers _ (text_of_view c.args.asked.now.line)
