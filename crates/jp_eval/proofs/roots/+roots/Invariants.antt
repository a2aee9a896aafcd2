-- All arguments ask the root alone where those that are left do.
use Rattle.std.proofs.Common.{◌≡◌, drop}
use Rattle.jp_syntax.specs.View.{arguments_view}
use Rattle.jp_eval.specs.Roots.{arguments_ask_root}
use Rattle.jp_eval.proofs.roots.+roots.Given as goal

abbrev pub invariant-call_asks_root-loop-argument : goal.invariant-call_asks_root-loop-argument
invariant-call_asks_root-loop-argument l = arguments_ask_root (arguments_view (drop l.argument-index l.argument-items)) ≡ arguments_ask_root (arguments_view l.argument-items)
