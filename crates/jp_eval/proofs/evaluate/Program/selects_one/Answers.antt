-- One node decides, and none was counted before.
use Rattle.std.proofs.Common.{◌∙◌, ◌∷◌, [], ℕ, List, ap, refl}
use Rattle.jp_model.specs.Meaning.Nodes.{Node}
use Rattle.jp_model.specs.Meaning.Selecting.{nodes}
use Rattle.jp_nodes.specs.Cursors.{line_of, node_of}
use Rattle.jp_eval.specs.Compiled.{program_view}
use Rattle.jp_eval.specs.Tallies.{Total, cut, plus}
use Rattle.jp_eval.specs.declared.frame.Frame.{Frame}
use Rattle.jp_eval.proofs.Remembering.{apart_remembered}
use Rattle.jp_eval.proofs.Totals.{has_some, total_so}
use Rattle.jp_eval.proofs.evaluate.Program.selects_one.Goals as goal

pub returns-clause-ok : goal.returns-clause-ok
returns-clause-ok c =
    let line : List ℕ = line_of c.args.root in
    let new : Frame = c.push_up_to-result.new.frame in
    let old : Frame = c.args.frame.now in
    let found : List Node = nodes (program_view c.args.self.now) (node_of c.args.start ∷ []) (node_of c.args.root).tree in
    has_some line new.sum found ((total_so line 1 new old [] found refl c.in_ok-result.ensures.told).1 ∙ ap (λ (t : Total). cut 1 (plus t found)) c.requires.sum)

pub returns-clause-remembers : goal.returns-clause-remembers
returns-clause-remembers c = apart_remembered c.args.self.now.slots.items (line_of c.args.root) c.push_up_to-result.new.frame c.forget_found.new.self c.forget_found.ensures.answers c.push_up_to-result.ensures.remembers

pub returns-in_err-result-clause-remembers : goal.returns-in_err-result-clause-remembers
returns-in_err-result-clause-remembers c = apart_remembered c.args.self.now.slots.items (line_of c.args.root) c.push_up_to-result.new.frame c.forget_found.new.self c.forget_found.ensures.answers c.push_up_to-result.ensures.remembers
