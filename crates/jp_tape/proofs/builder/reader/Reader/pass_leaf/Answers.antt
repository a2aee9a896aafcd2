use Rattle.std.proofs.Common.{◌-◌, ◌≤◌, List, ℕ, length, ap, sym, subst, refl, arith, length-drop}
use Rattle.jp_model.specs.Json.Places.{byte_at}
use Rattle.jp_model.specs.Json.Tree.{Tree, node}
use Rattle.jp_model.specs.Json.Faults.{depth}
use Rattle.jp_tape.specs.Ahead.{IsAhead, IsClosed}
use Rattle.jp_tape.specs.Machine.{Value_at, After_value}
use Rattle.jp_tape.proofs.Steps.{scalar_step, leads_on}
use Rattle.jp_tape.proofs.More.{drop_closed, more_behind, token_open}
use Rattle.jp_tape.proofs.Held.{flat_depth, shallow_open}
use Rattle.jp_tape.proofs.builder.reader.Reader.pass_leaf.Goals as goal

pub returns-clause-reached : goal.returns-clause-reached
returns-clause-reached g c =
    let line = c.args.line.now in
    let v = c.requires.next in
    let r = c.args.leaf in
    let found = c.requires.found in
    let ms = c.args.self.now.marks.now in
    let w = c.skip_white.ensures in
    let enough = v.enough in
    let passed = v.roomy.passed in
    let above = shallow_open v.frames c.args.self.now.most_depth v.shallow in
    let within = c.requires.passed.within in
    let left = ap (λ (xs : List ℕ). length xs) c.marks_behind-self.ensures in
    let count = length-drop 1 ms in
    let t : Tree = node (record { start = c.args.at; end = r.end }) found.value in
    record {
      frames = v.frames;
      own = v.own;
      tree = t;
      roomy = record {
        stack = v.roomy.stack;
        capacity = v.roomy.capacity;
        passed = omega (arith, passed, within, left, count);
        closed = λ f. subst (λ (xs : List ℕ). IsClosed line xs) (sym c.marks_behind-self.ensures) (drop_closed line ms 1 (v.roomy.closed f));
      };
      shallow = subst (λ n. n ≤ c.args.self.now.most_depth) (flat_depth v.frames (depth t) found.flat) v.shallow;
      room = v.room - 1;
      enough = omega (arith, enough, within, left, count, above);
      told = c.leaf.ensures line v.frames v.own v.room found v.suits (omega (arith, enough, within, above)) v.told;
      ended = r.end;
      leads = leads_on line (Value_at v.frames v.own c.args.at) (After_value v.frames v.own t r.end) v.leads (scalar_step line v.frames v.own c.args.at r found);
      white = w.white;
      stops = w.stops;
      within = w.white.within;
      ahead = w.ahead;
      more = λ f. (let two = more_behind line ms 0 c.args.at (byte_at line c.args.at) (v.roomy.closed f) v.begins.some v.ahead.first refl (token_open (byte_at line c.args.at) c.requires.token) in omega (arith, two, left, count));
    }

pub skip_white-requires-clause-ahead : goal.skip_white-requires-clause-ahead
skip_white-requires-clause-ahead g c = subst (λ (ms : List ℕ). IsAhead c.args.line.now c.args.leaf.end ms) (sym c.marks_behind-self.ensures) c.requires.passed.ahead
