-- Each node was listed.
use Rattle.std.proofs.Common.{◌≡◌, ◌∙◌, ◌++◌, ◌∷◌, [], List, map, ap, append-nil, sym, Result, Ok, Err}
use Rattle.std.specs.Prelude.{OnOk}
use Rattle.jp_model.specs.Meaning.Nodes.{Node}
use Rattle.jp_model.specs.Meaning.Selecting.{nodes}
use Rattle.jp_nodes.specs.Cursors.{line_of, node_of}
use Rattle.jp_eval.specs.Compiled.{program_view}
use Rattle.jp_eval.specs.Tallies.{Tally, tally}
use Rattle.jp_eval.proofs.evaluate.Program.push_all.Goals as goal

on_ok : {A E : Type 0} (r : Result A E) (P Q : Type 0) → (P → Q) → OnOk r P → OnOk r Q
on_ok (Ok x) P Q f h = f h
on_ok (Err e) P Q f h = tt

pub returns-clause-ok : goal.returns-clause-ok
returns-clause-ok c =
    let old = c.args.frame.now in
    let new = c.push_up_to.new.frame in
    let found : List Node = nodes (program_view c.args.self.now) (node_of c.args.start ∷ []) (node_of c.args.root).tree in
    on_ok c.push_up_to.result (tally (line_of c.args.root) 18446744073709551615 new [] ≡ tally (line_of c.args.root) 18446744073709551615 old found)
    (map node_of new.found.items ≡ map node_of old.found.items ++ found)
    (λ e. sym (append-nil (map node_of new.found.items)) ∙ ap (λ (t : Tally). t.nodes) e)
    c.push_up_to.ensures.told
