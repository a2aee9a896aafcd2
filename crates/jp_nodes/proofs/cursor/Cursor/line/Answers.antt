use Rattle.std.proofs.Common.{refl}
use Rattle.jp_nodes.specs.Cursors.{line_of}
use Rattle.jp_nodes.proofs.Cursors.{text, short, whole, exponents, distinct}
use Rattle.jp_nodes.proofs.cursor.Cursor.line.Goals as goal

pub returns : goal.returns
unfolding line_of
returns c = record { bytes = refl; text = text c.args.self; short = short c.args.self; whole = whole c.args.self; exponents = exponents c.args.self; distinct = distinct c.args.self }
