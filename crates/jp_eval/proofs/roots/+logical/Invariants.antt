-- All expressions ask the root alone where those that are left do.
use Rattle.std.proofs.Common.{◌≡◌, drop}
use Rattle.jp_syntax.specs.View.{logicals_view}
use Rattle.jp_eval.specs.Roots.{logicals_ask_root}
use Rattle.jp_eval.proofs.roots.+logical.Given as goal

abbrev pub invariant-all_ask_root-loop-part : goal.invariant-all_ask_root-loop-part
invariant-all_ask_root-loop-part l = logicals_ask_root (logicals_view (drop l.part-index l.parts)) ≡ logicals_ask_root (logicals_view l.parts)
