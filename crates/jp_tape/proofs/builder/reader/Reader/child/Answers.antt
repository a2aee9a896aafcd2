use Rattle.std.proofs.Common.{ℕ, List, length, sym, ap, subst, arith, length-drop, None, Some}
use Rattle.jp_model.specs.Json.Tree.{Container}
use Rattle.jp_tape.specs.Ahead.{IsClosed}
use Rattle.jp_tape.specs.Reader.{IsNamed}
use Rattle.jp_tape.proofs.More.{drop_closed}
use Rattle.jp_nodes.specs.Kinds.{container_if}
use Rattle.jp_tape.proofs.Labels.{no_label}
use Rattle.jp_tape.proofs.builder.reader.Reader.child.Goals as goal

pub returns-then-not-is_object-clause-named : goal.returns-then-not-is_object-clause-named
returns-then-not-is_object-clause-named g c =
    let stands = g.L.Listener.stands c.args.listener.now in
    subst (λ (k : Container). IsNamed stands stands c.args.line.now k c.args.from c.args.from c.args.self.now c.args.self.now) (sym (ap container_if c.if-not-is_object.true))
    (record { own = None; label = no_label c.args.line.now c.args.from; fewer = omega arith; told = λ frames room some h. h })

pub returns-clause-named : goal.returns-clause-named
returns-clause-named g c =
    let l = c.in-Some.label in
    let e = c.in-Some.ensures in
    let before = c.args.self.now in
    let left = ap length c.marks_behind-self.ensures in
    let count = length-drop 3 before.marks.now in
    let old = g.L.Listener.stands c.args.listener.now in
    let new = g.L.Listener.stands c.name.new.self in
    subst (λ (k : Container). IsNamed old new c.args.line.now k c.args.from l.value before (record { marks = c.marks_behind-self.result; stack = before.stack; most_depth = before.most_depth })) (sym (ap container_if c.if-not-is_object.false))
    (record {
      own = Some e.found.name;
      label = e.found.label;
      fewer = omega (arith, left, count);
      told = λ frames room some h. c.name.ensures c.args.line.now c.args.from frames room e.found e.plain some h;
    })

pub returns-clause-some : goal.returns-clause-some
returns-clause-some g c =
    let more = c.in-Some.ensures.marks in
    let left = ap (λ (xs : List ℕ). length xs) c.marks_behind-self.ensures in
    let count = length-drop 3 c.args.self.now.marks.now in
    omega (arith, more, left, count)

pub returns-clause-closed : goal.returns-clause-closed
returns-clause-closed g c = subst (λ (ms : List ℕ). IsClosed c.args.line.now ms) (sym c.marks_behind-self.ensures) (drop_closed c.args.line.now c.args.self.now.marks.now 3 c.requires.closed)
