use Rattle.std.proofs.Common.{IsTrue}
use Rattle.jp_model.specs.Pattern.Classes.{in_class}
use Rattle.jp_iregexp.specs.Nodes.{class_of}
use Rattle.jp_iregexp.proofs.OnePass.{RunsBelow}
use Rattle.jp_iregexp.proofs.runs.run_ends.Given as goal

abbrev pub invariant-loop-p : goal.invariant-loop-p
invariant-loop-p l = RunsBelow (λ s. IsTrue (in_class (class_of l.class) s)) l.text l.starts l.out l.least l.most l.p l.begin l.start
