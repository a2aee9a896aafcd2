use Rattle.std.proofs.Common.{refl}
use Rattle.jp_nodes.specs.Cursors.{place_of}
use Rattle.jp_nodes.proofs.Cursors.{within, node_at}
use Rattle.jp_nodes.proofs.cursor.Cursor.place.Goals as goal

pub returns : goal.returns
unfolding place_of
returns c = record { value = refl; within = within c.args.self; node = node_at c.args.self }
