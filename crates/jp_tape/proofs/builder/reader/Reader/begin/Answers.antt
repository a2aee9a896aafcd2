use Rattle.std.proofs.Common.{◌≡◌, ◌+◌, ◌-◌, ◌++◌, ◌∷◌, [], ℕ, List, length, ap, sym, ◌∙◌, subst, refl, arith, vec_capacity}
use Rattle.std.specs.Prelude.{Vec}
use Rattle.std.specs.Global.{Global}
use Rattle.jp_model.specs.Json.Places.{Has, byte_at}
use Rattle.jp_tape.specs.Ahead.{IsClosed}
use Rattle.std.proofs.lemmas.Bool.{eqb-true}
use Rattle.jp_tape.proofs.builder.reader.Reader.begin.Goals.{else-is_empty-via-then-is_empty+else-not-is_empty, else-is_empty-via-else-is_empty}
use Rattle.jp_tape.proofs.Ahead.{not_empty, passes_structural, bracket_structural}
use Rattle.jp_tape.proofs.More.{more_on, drop_closed, opening_open}
use Rattle.jp_model.specs.Json.Tree.{Tree, node, container, no_child}
use Rattle.jp_model.specs.Json.Spelling.{opening, closing}
use Rattle.jp_nodes.specs.Kinds.{container_if}
use Rattle.jp_tape.specs.Machine.{entered, Value_at, After_value}
use Rattle.jp_tape.proofs.Steps.{empty_step, enter_stuck, leads_on}
use Rattle.jp_tape.proofs.Reader.{no_text, stops_on, stack_length, ends_early, open_on, first_next}
use Rattle.jp_tape.proofs.Deep.{deeper}
use Rattle.jp_tape.proofs.builder.reader.Reader.begin.Goals as goal

pub pass_on-inside-requires : goal.pass_on-inside-requires
pass_on-inside-requires g c =
    let v = c.requires.next in
    let h = c.requires.opens in
    let kind = container_if c.args.is_object in
    record { more = more_on c.args.line.now c.args.self.now.marks.now c.args.at (opening kind) (v.begins.closed kind h.is) v.ahead.ahead h.inside h.is (bracket_structural kind (opening kind) refl) (opening_open kind) }

pub is_byte-requires : goal.is_byte-requires
is_byte-requires g c = (open_on (container_if c.args.is_object) c.requires.opens c.requires.next c.pass_on-inside.ensures.marks c.pass_on-inside.ensures.value).inside

pub returns-in-Ok-clause-reached : goal.returns-in-Ok-clause-reached
returns-in-Ok-clause-reached g c =
    let line = c.args.line.now in
    let kind = container_if c.args.is_object in
    let p = c.pass_on-inside.ensures in
    let w = open_on kind c.requires.opens c.requires.next p.marks p.value in
    let before = c.args.self.now in
    let child = c.in-Ok.ensures in
    let items = λ (s : Vec ℕ Global). s.items in
    let stack : c.child.new.self.stack.now.items ≡ before.stack.now.items ++ closing kind ∷ [] = cc (ap items child.same, ap items p.same, c.push_reserved.ensures.items, c.closing_of-closing.ensures) in
    let items_room : vec_capacity c.child.new.self.stack.now ≡ vec_capacity before.stack.now = cc (ap (λ (s : Vec ℕ Global). vec_capacity s) child.same, ap (λ (s : Vec ℕ Global). vec_capacity s) p.same, c.push_reserved.ensures.capacity) in
    let size = before.stack.now.ok.0 in
    let len = c.len.ensures in
    let few = c.if-len-self.false in
    first_next kind c.requires.opens w.white w.stops
    (λ h. c.is_byte.ensures.no c.if-is_byte.false (subst (λ x. Has line c.pass_on-inside.result x) (sym c.closing_of-closing.ensures) h)) (c.open.ensures line) child.named w.fewer stack items_room (c.child.ensures.limit ∙ p.limit) (omega (arith, size, len, few)) child.order.1 child.ahead child.some child.closed c.requires.next

pub returns-in-Err-clause-refused : goal.returns-in-Err-clause-refused
returns-in-Err-clause-refused g c =
    let line = c.args.line.now in
    let v = c.requires.next in
    let p = c.pass_on-inside.ensures in
    let w = open_on (container_if c.args.is_object) c.requires.opens v p.marks p.value in
    stops_on line c.args.self.now.most_depth c.in-Err.fault
    (λ l. no_text line (Value_at v.frames v.own c.args.at) v.leads (enter_stuck line (container_if c.args.is_object) c.args.at c.pass_on-inside.result v.frames v.own c.requires.opens w.white w.stops
    (λ h. c.is_byte.ensures.no c.if-is_byte.false (subst (λ x. Has line c.pass_on-inside.result x) (sym c.closing_of-closing.ensures) h)) l))
    c.in-Err.ensures.stuck

pub returns-then-len-self-clause-refused : goal.returns-then-len-self-clause-refused
returns-then-len-self-clause-refused g c =
    let line = c.args.line.now in
    let v = c.requires.next in
    let r = c.args.self.now in
    let opened_count = stack_length line v.frames r v.roomy in
    let size = r.stack.now.ok.0 in
    let len = c.len.ensures in
    let many = c.if-len-self.true in
    let passed = v.roomy.passed in
    let h = c.requires.opens in
    let kind = container_if c.args.is_object in
    let mark = (passes_structural line r.marks.now c.args.at h.inside (bracket_structural kind (byte_at line c.args.at) h.is) v.ahead.ahead).within in (
      omega (arith, passed, opened_count, size, len, many, mark),
      λ whole text. let d = deeper line kind v.frames v.own c.args.at h v.leads whole text in omega (arith, d, opened_count, size, len, many),
    )

pub child-requires-clause-told : goal.child-requires-clause-told
child-requires-clause-told g c =
    let line = c.args.line.now in
    let v = c.requires.next in
    let before = c.args.self.now in
    let opened_count = stack_length line v.frames before v.roomy in
    let size = before.stack.now.ok.0 in
    let len = c.len.ensures in
    let few = c.if-len-self.false in
    let enough = v.enough in
    let p = c.pass_on-inside.ensures in
    let fewer = (open_on (container_if c.args.is_object) c.requires.opens v p.marks p.value).fewer in
    (entered (container_if c.args.is_object) c.args.at v.own ∷ v.frames, v.room - 1, omega (arith, enough, opened_count, size, len, few, fewer), c.open.ensures line v.frames v.own v.room v.suits (omega (arith, enough, opened_count, size, len, few)) v.told)

pub child-requires-clause-inside : goal.child-requires-clause-inside
child-requires-clause-inside g c = let p = c.pass_on-inside.ensures in (open_on (container_if c.args.is_object) c.requires.opens c.requires.next p.marks p.value).inside

pub child-requires-clause-ahead : goal.child-requires-clause-ahead
child-requires-clause-ahead g c = let p = c.pass_on-inside.ensures in (open_on (container_if c.args.is_object) c.requires.opens c.requires.next p.marks p.value).next

pub child-requires-clause-stops : goal.child-requires-clause-stops
child-requires-clause-stops g c = let p = c.pass_on-inside.ensures in (open_on (container_if c.args.is_object) c.requires.opens c.requires.next p.marks p.value).stops

pub child-requires-clause-some : goal.child-requires-clause-some
child-requires-clause-some g c = let p = c.pass_on-inside.ensures in (open_on (container_if c.args.is_object) c.requires.opens c.requires.next p.marks p.value).some

pub child-requires-clause-closed : goal.child-requires-clause-closed
child-requires-clause-closed g c = let p = c.pass_on-inside.ensures in (open_on (container_if c.args.is_object) c.requires.opens c.requires.next p.marks p.value).closed

pub pass_closing-next-requires-clause-ahead : goal.pass_closing-next-requires-clause-ahead
pass_closing-next-requires-clause-ahead g c = let p = c.pass_on-inside.ensures in (open_on (container_if c.args.is_object) c.requires.opens c.requires.next p.marks p.value).next.ahead

pub empty-requires-clause-fits : goal.empty-requires-clause-fits
empty-requires-clause-fits g c =
    let p = c.pass_on-inside.ensures in
    let w = open_on (container_if c.args.is_object) c.requires.opens c.requires.next p.marks p.value in
    let order = w.white.order in
    let inside = w.inside in
    let room = c.requires.line.room in
    (omega (arith, order), omega (arith, inside, room))

pub returns-then-not-is_empty-clause-refused : goal.returns-then-not-is_empty-clause-refused
returns-then-not-is_empty-clause-refused g c =
    let line = c.args.line.now in
    let v = c.requires.next in
    let kind = container_if c.args.is_object in
    let p = c.pass_on-inside.ensures in
    let w = open_on kind c.requires.opens v p.marks p.value in
    let q = c.pass_closing-next.ensures in
    let place = c.pass_on-inside.result in
    let has = c.is_byte.ensures.yes c.if-is_byte.true in
    let t : Tree = node (record { start = c.args.at; end = place + 1 }) (container kind no_child) in
    let opened_count = stack_length line v.frames c.args.self.now v.roomy in
    let held = ap (λ (s : Vec ℕ Global). length s.items) (q.same ∙ p.same) in
    let all = c.pass_closing-next.new.self.stack.now.ok.0 in
    let some = not_empty _ c.if-not-is_empty.ensures in
    ends_early v.frames
    (leads_on line (Value_at v.frames v.own c.args.at) (After_value v.frames v.own t (place + 1)) v.leads
    (empty_step line kind c.args.at place v.frames v.own c.requires.opens w.white (subst (λ x. Has line place x) c.closing_of-closing.ensures has)))
    (omega (arith, some, all, held, opened_count)) q.white q.stops q.next (eqb-true _ _ (sym c.if-is_empty.ensures))

pub returns-then-is_byte-clause-reached : goal.returns-then-is_byte-clause-reached
returns-then-is_byte-clause-reached g c =
    let line = c.args.line.now in
    let v = c.requires.next in
    let kind = container_if c.args.is_object in
    let p = c.pass_on-inside.ensures in
    let w = open_on kind c.requires.opens v p.marks p.value in
    let q = c.pass_closing-next.ensures in
    let place = c.pass_on-inside.result in
    let has = c.is_byte.ensures.yes c.if-is_byte.true in
    let enough = v.enough in
    let fewer = w.fewer in
    let last = q.fewer in
    let before = c.args.self.now in
    let opened_count = stack_length line v.frames before v.roomy in
    let size = before.stack.now.ok.0 in
    let len = c.len.ensures in
    let few = c.if-len-self.false in
    let same = q.same ∙ p.same in
    let limit = q.limit ∙ p.limit in
    let room = ap (λ (s : Vec ℕ Global). vec_capacity s) same in
    let held = ap (λ (s : Vec ℕ Global). length s.items) same in
    let all = c.pass_closing-next.new.self.stack.now.ok.0 in
    let capacity = v.roomy.capacity in
    let passed = v.roomy.passed in
    let shallow = v.shallow in
    let closed : IsClosed line c.pass_closing-next.new.self.marks.now = subst (λ (xs : List ℕ). IsClosed line xs) (sym q.marks) (drop_closed line c.pass_on-inside.new.self.marks.now 1 w.closed) in
    let t : Tree = node (record { start = c.args.at; end = place + 1 }) (container kind no_child) in
    record {
      frames = v.frames;
      own = v.own;
      tree = t;
      roomy = record {
        stack = ap (λ (s : Vec ℕ Global). s.items) same ∙ v.roomy.stack;
        capacity = omega (arith, capacity, room, limit);
        passed = omega (arith, passed, fewer, last);
        closed = λ f. closed;
      };
      shallow = omega (arith, shallow, opened_count, size, len, few, limit);
      room = v.room - 1;
      enough = omega (arith, enough, fewer, last, opened_count, size, len, few, limit);
      told = c.empty.ensures line v.frames v.own v.room v.suits (omega (arith, enough, opened_count, size, len, few)) v.told;
      ended = place + 1;
      leads = leads_on line (Value_at v.frames v.own c.args.at) (After_value v.frames v.own t (place + 1)) v.leads
          (empty_step line kind c.args.at place v.frames v.own c.requires.opens w.white (subst (λ x. Has line place x) c.closing_of-closing.ensures has));
      white = q.white;
      stops = q.stops;
      within = q.white.within;
      ahead = q.next.ahead;
      more = λ f. elim c.else-is_empty.branch [
        | else-is_empty-via-then-is_empty+else-not-is_empty w ↦ (let none = eqb-true _ _ (sym w.if-not-is_empty.ensures) in omega (arith, none, all, held, opened_count, f))
        | else-is_empty-via-else-is_empty w ↦ not_empty _ w.if-is_empty.ensures
      ];
    }

pub returns-then-is_byte-clause-less : goal.returns-then-is_byte-clause-less
returns-then-is_byte-clause-less g c =
    let p = c.pass_on-inside.ensures in
    let w = open_on (container_if c.args.is_object) c.requires.opens c.requires.next p.marks p.value in
    let before = w.white.order in
    let after = c.pass_closing-next.ensures.white.order in
    let inside = w.inside in
    omega (arith, before, after, inside)

pub returns-in-Ok-clause-less : goal.returns-in-Ok-clause-less
returns-in-Ok-clause-less g c =
    let p = c.pass_on-inside.ensures in
    let w = open_on (container_if c.args.is_object) c.requires.opens c.requires.next p.marks p.value in
    let before = w.white.order in
    let after = c.in-Ok.ensures.order.0 in
    let inside = c.requires.opens.inside in
    omega (arith, before, after, inside)
