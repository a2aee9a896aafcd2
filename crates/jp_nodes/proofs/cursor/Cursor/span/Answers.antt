use Rattle.std.proofs.Common.{◌≡◌, ◌<◌, ◌≤◌, length, subst, sym, arith}
use Rattle.jp_model.specs.declared.Span.{Span}
use Rattle.jp_model.specs.Json.Tree.{span}
use Rattle.jp_nodes.specs.Cursors.{line_of, node_of}
use Rattle.jp_nodes.proofs.Cursors.{short, standing, sound, span_room}
use Rattle.jp_nodes.proofs.cursor.Cursor.span.Goals as goal

pub returns : goal.returns
returns c =
    let self = c.args.self in
    let room = span_room self in
    let few = short self in
    let e : c.unpack.result ≡ span (node_of self).tree = c.unpack.ensures (span (node_of self).tree) (omega (arith, room, few)) c.body.ensures in
    record {
      value = e;
      spells = (standing self).spells;
      whole = (sound self).whole;
      exponents = (sound self).exponents;
      distinct = (sound self).distinct;
      order = subst (λ (s : Span). s.start < s.end) (sym e) room.0;
      within = subst (λ (s : Span). s.end ≤ length (line_of self)) (sym e) room.1;
    }
