use Rattle.std.proofs.Common.{refl}
use Rattle.jp_model.specs.Pattern.Language.{Language}
use Rattle.jp_iregexp.specs.declared.graph.State.TheVariants.{Fan}
use Rattle.jp_iregexp.specs.Nodes.{tree_of}
use Rattle.jp_iregexp.proofs.Entering.{spelled}
use Rattle.jp_iregexp.proofs.entries.built.Goals as goal

pub returns : goal.returns
returns c =
    let p = c.in_ok-end.ensures in
    λ text. spelled c.new.result.items c.push.new.self.states.items c.entry.new.self.states.items (Language (tree_of c.args.root.now)) (Fan c.new-2.result) c.in_ok-end.end c.in_ok-start.start
    c.new.ensures.items p.1 p.0 (record { free = c.new-2.ensures.items; behind = λ x. refl }) c.in_ok-start.ensures text
