-- Each key leads on to a child, or to none; where all were taken the node is the one.
use Rattle.std.proofs.Common.{◌≡◌, ◌∙◌, ◌+◌, List, [], ◌∷◌, drop, ap, sym, arith}
use Rattle.std.proofs.lemmas.List.{drop_all}
use Rattle.jp_model.proofs.Seek.{no_nodes}
use Rattle.jp_model.specs.Meaning.Selecting.{nodes}
use Rattle.jp_nodes.specs.Cursors.{node_of}
use Rattle.jp_nodes.specs.declared.cursor.Cursor.{Cursor}
use Rattle.jp_eval.specs.Keys.{keys_view}
use Rattle.jp_eval.specs.declared.question.Key.{Key}
use Rattle.jp_eval.proofs.Following.{key_follows}
use Rattle.jp_eval.proofs.question.follow_several.Goals as goal

pub returns-in-None : goal.returns-in-None
returns-in-None c = λ t.
    let all : List Key = c.args.keys.now in
    let i = c.loop-key.key-index in
    sym (no_nodes (keys_view (drop (i + 1) all)) t)
    ∙ key_follows all i c.key-item.result (node_of c.loop-key.node) [] _ t c.loop-key-test.true c.key-item.is c.in-None.ensures.nodes (c.loop-key.invariant.left t)

pub loop-key-preserved : goal.loop-key-preserved
loop-key-preserved c = record {
  left = λ t. key_follows c.args.keys.now c.loop-key.key-index c.key-item.result (node_of c.loop-key.node) (node_of c.in-Some.child ∷ []) _ t c.loop-key-test.true c.key-item.is c.in-Some.ensures.nodes (c.loop-key.invariant.left t);
}

pub returns : goal.returns
returns c = λ t.
    let all : List Key = c.args.keys.now in
    let n : Cursor = c.loop-key.node in
    let ended : drop c.loop-key.key-index all ≡ [] = drop_all c.loop-key.key-index all (omega (arith, c.loop-key-test.false)) in
    sym (ap (λ (ks : List Key). nodes (keys_view ks) (node_of n ∷ []) t) ended) ∙ c.loop-key.invariant.left t
