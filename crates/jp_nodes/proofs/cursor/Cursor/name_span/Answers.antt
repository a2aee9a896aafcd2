use Rattle.std.proofs.Common.{◌≡◌, ◌<◌, ◌≤◌, ◌∙◌, Some, length, subst, sym, ap, arith}
use Rattle.std.specs.Prelude.{option_map}
use Rattle.jp_model.specs.declared.Span.{Span}
use Rattle.jp_model.specs.Json.Tree.{Name}
use Rattle.jp_nodes.specs.Cursors.{line_of}
use Rattle.jp_nodes.proofs.Cursors.{short, body_spells, name_whole, step_named, no_name, has_name}
use Rattle.jp_nodes.proofs.cursor.Cursor.name_span.Goals as goal

pub returns-else-word-gt0 : goal.returns-else-word-gt0
returns-else-word-gt0 c =
    let self = c.args.self in
    record {
      body = ap (option_map (λ (n : Name). n.body)) (sym (no_name self c.label-word.result c.label-word.ensures.word (omega (arith, c.if-word-gt0.false))));
      spells = body_spells self;
      whole = name_whole self;
      step = step_named self;
      within = tt;
    }

pub returns-then-word-gt0 : goal.returns-then-word-gt0
returns-then-word-gt0 c =
    let self = c.args.self in
    let few = short self in
    let name = has_name self c.label-word.result c.label-word.ensures.word c.label-word.ensures.index c.if-word-gt0.true in
    let order = name.order in
    let inside = name.inside in
    let e : c.unpack.result ≡ name.own.body = c.unpack.ensures name.own.body (omega (arith, few, inside)) (c.label-word.ensures.word ∙ name.packed) in
    record {
      body = ap (λ (s : Span). Some s) e ∙ ap (option_map (λ (n : Name). n.body)) (sym name.is);
      spells = body_spells self;
      whole = name_whole self;
      step = step_named self;
      within = subst (λ (s : Span). (s.start ≤ s.end) × (s.end < length (line_of self))) (sym e) (order, inside);
    }
