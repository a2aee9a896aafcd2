use Rattle.std.proofs.Common.{refl, arith}
use Rattle.jp_tape.proofs.Nodes.{name_told}
use Rattle.jp_tape.proofs.builder.nodes.NodesListener.name.Goals as goal

pub returns : goal.returns
returns c line from frames room found plain some h =
    name_told line from frames room c.args.name c.args.self.now _ found plain h refl refl refl c.span_to_word-self.ensures c.push_reserved.ensures.items c.push_reserved.ensures.capacity c.note.ensures

pub push_reserved-requires : goal.push_reserved-requires
push_reserved-requires c =
    let l = c.requires.listens in
    let room = l.4.name_capacity in
    let some = l.3 in
    let size = c.args.self.now.names.ok.0 in
    omega (arith, room, some, size)
