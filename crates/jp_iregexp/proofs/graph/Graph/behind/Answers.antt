use Rattle.std.proofs.Common.{rules}
use Rattle.jp_iregexp.proofs.Walking.{behind_some, behind_none}
use Rattle.jp_iregexp.proofs.graph.Graph.behind.Goals as goal

pub returns-in-Some : goal.returns-in-Some
returns-in-Some c = behind_some c.args.self.now.states.items c.args.number c.args.scalar c.in-Some.state.now c.behind.result (search rules) (search rules) c.behind.ensures

pub returns-in-None : goal.returns-in-None
returns-in-None c = behind_none c.args.self.now.states.items c.args.number c.args.scalar (search rules)
