-- The pattern that the program's value stands for.
use Rattle.jp_iregexp.specs.declared.pattern.Pattern.{Pattern as ProgramPattern}
use Rattle.jp_model.specs.Pattern.Tree.{Pattern}
use Rattle.jp_iregexp.specs.Nodes.{tree_of}

-- that of its tree
abbrev pub pattern_view : ProgramPattern → Pattern
pattern_view p = tree_of p.compiled.root
