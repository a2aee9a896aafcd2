use Rattle.std.proofs.Common.{rules}
use Rattle.jp_iregexp.proofs.Walking.{free_some, free_none}
use Rattle.jp_iregexp.proofs.graph.Graph.free.Goals as goal

pub returns-in-Some : goal.returns-in-Some
returns-in-Some c = free_some c.args.self.now.states.items c.args.number c.in-Some.state.now c.free.result.now (search rules) (search rules) c.free.ensures

pub returns-in-None : goal.returns-in-None
returns-in-None c = free_none c.args.self.now.states.items c.args.number (search rules)
