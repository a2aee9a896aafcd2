use Rattle.jp_model.specs.Pattern.Language.{Language}
use Rattle.jp_model.specs.Pattern.Tree.{one_of}
use Rattle.jp_iregexp.specs.Nodes.{class_of}
use Rattle.jp_iregexp.proofs.Reaching.{EndsBelow}
use Rattle.jp_iregexp.proofs.matcher.class_ends.Given as goal

abbrev pub invariant-loop-p : goal.invariant-loop-p
invariant-loop-p l = EndsBelow l.p (Language (one_of (class_of l.class))) l.text l.starts l.out
