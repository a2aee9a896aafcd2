use Rattle.std.proofs.Common.{◌<◌, ◌-◌, ◌≤◌, List, ℕ, length, ap, sym, subst, arith, length-drop}
use Rattle.jp_model.specs.Json.Tree.{Tree, node}
use Rattle.jp_model.specs.Json.Faults.{depth}
use Rattle.jp_tape.specs.Ahead.{IsAhead, IsClosed}
use Rattle.jp_tape.proofs.More.{drop_closed}
use Rattle.jp_tape.specs.Machine.{Value_at, After_value}
use Rattle.jp_tape.proofs.Steps.{scalar_step, no_value_step, leads_on}
use Rattle.jp_tape.proofs.Reader.{no_text}
use Rattle.jp_tape.proofs.Held.{flat_depth, shallow_open}
use Rattle.jp_tape.proofs.builder.reader.Reader.text.Goals as goal

pub returns-in_default-clause-refused : goal.returns-in_default-clause-refused
returns-in_default-clause-refused g c =
    let v = c.requires.next in
    no_text c.args.line.now (Value_at v.frames v.own c.args.at) v.leads (no_value_step c.args.line.now v.frames v.own c.args.at c.in_default.ensures.none)

pub returns-clause-reached : goal.returns-clause-reached
returns-clause-reached g c =
    let line = c.args.line.now in
    let v = c.requires.next in
    let r = c.in-Some.text in
    let e = c.in-Some.ensures in
    let w = c.next_token.ensures in
    let enough = v.enough in
    let passed = v.roomy.passed in
    let above = shallow_open v.frames c.args.self.now.most_depth v.shallow in
    let within = e.ahead.within in
    let left = ap length c.marks_behind-self.ensures in
    let count = length-drop 2 c.args.self.now.marks.now in
    let closed : 0 < length v.frames → IsClosed line c.marks_behind-self.result.now = λ f. subst (λ (ms : List ℕ). IsClosed line ms) (sym c.marks_behind-self.ensures) (drop_closed line c.args.self.now.marks.now 2 (v.roomy.closed f)) in
    let t : Tree = node (record { start = c.args.at; end = r.end }) e.found.value in
    record {
      frames = v.frames;
      own = v.own;
      tree = t;
      roomy = record { stack = v.roomy.stack; capacity = v.roomy.capacity; passed = omega (arith, passed, within, left, count); closed = closed };
      shallow = subst (λ n. n ≤ c.args.self.now.most_depth) (flat_depth v.frames (depth t) e.found.flat) v.shallow;
      room = v.room - 1;
      enough = omega (arith, enough, within, left, count, above);
      told = c.leaf.ensures line v.frames v.own v.room e.found v.suits (omega (arith, enough, within, above)) v.told;
      ended = r.end;
      leads = leads_on line (Value_at v.frames v.own c.args.at) (After_value v.frames v.own t r.end) v.leads (scalar_step line v.frames v.own c.args.at r e.found);
      white = w.white;
      stops = w.stops;
      within = w.white.within;
      ahead = w.ahead;
      more = λ f. (let two = e.more (v.roomy.closed f) in omega (arith, two, left, count));
    }

pub next_token-requires-clause-ahead : goal.next_token-requires-clause-ahead
next_token-requires-clause-ahead g c = subst (λ (ms : List ℕ). IsAhead c.args.line.now c.in-Some.text.end ms) (sym c.marks_behind-self.ensures) c.in-Some.ensures.ahead.ahead

pub text_at-requires-clause-two : goal.text_at-requires-clause-two
text_at-requires-clause-two g c = c.requires.next.begins.quoted c.requires.opens.is
