use Rattle.std.proofs.Common.{map}
use Rattle.std.proofs.Math.Logic.{∥∥₁_elim}
use mathlib.Core.Bool.{Bool-set}
use Rattle.std.specs.Str.{chars}
use Rattle.jp_iregexp.specs.declared.automaton.Automaton.{Automaton}
use Rattle.jp_iregexp.specs.Layouts.{state_of}
use Rattle.jp_iregexp.specs.Nodes.{tree_of}
use Rattle.jp_iregexp.specs.States.{Accepts, Leads}
use Rattle.jp_iregexp.proofs.Layouts.{some_of}
use Rattle.jp_iregexp.proofs.Answering.{answers_match}
use Rattle.jp_iregexp.proofs.pattern.Pattern.matches.Goals as goal

pub returns-in-Some : goal.returns-in-Some
returns-in-Some c =
    let a = c.in-Some.automaton in
    let tree = tree_of c.args.self.now.compiled.root in
    ∥∥₁_elim c.args.self.now.compiled.same (Bool-set _ _)
    (λ all. answers_match (Leads (map state_of a.states.items) a.starts) tree (chars c.args.text.now) c.accepts.result (some_of (λ (x : Automaton). Accepts (map state_of x.states.items) x.starts tree) c.args.self.now.compiled.automaton a c.in-Some.is all) c.accepts.ensures)
