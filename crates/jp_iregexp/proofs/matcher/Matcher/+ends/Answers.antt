use Rattle.std.proofs.Common.{◌≡◌, ℕ, List, get_or, ◌+◌, ◌*◌, ◌-◌, ◌≤◌, ◌↔◌, inl, inr, refl, Some, IfOk, length, drop, arith, rules, sym, ◌∙◌, ap, subst}
use Rattle.jp_iregexp.specs.declared.node.Node.{Node, the_lemmas}
use Rattle.jp_iregexp.specs.declared.positions.PositionSet.{PositionSet}
use Rattle.jp_model.specs.Pattern.Language.{Language, Repeats, RepeatsWithin}
use Rattle.jp_model.specs.Pattern.Tree.{Pattern, empty, times}
use Rattle.jp_iregexp.specs.Positions.{Has, AreEnds}
use Rattle.jp_iregexp.proofs.Evens.{even_ends, even_none}
use Rattle.jp_iregexp.specs.Nodes.{most_of, tree_of, sequence_list, choice_list}
use Rattle.jp_iregexp.proofs.Parts.{tree_of_Sequence, tree_of_Choice, drop_item, drop_past, if_ok_map}
use Rattle.jp_iregexp.proofs.Turns.{continue_start, sequence_step, sequence_end, gather_step, gather_end, exact_start, exact_step, exact_exit, exact_end, further_start, further_step, further_exit, further_end, front_start, front_step, times_some}
use Rattle.jp_iregexp.proofs.Joined.{joined_ends, turns_ends, only_numbered, only_length, only_ends, table_alike}
use Rattle.jp_iregexp.proofs.Reaching.{ends_none, same_over}
use Rattle.jp_iregexp.proofs.Tails.{closed_numbered, front_left, kept_stays}
use Rattle.jp_iregexp.proofs.Rows.{from_one, rows_push, table_ends}
use Rattle.jp_iregexp.specs.Kept.{IsAdded}
use Rattle.jp_iregexp.specs.Right.{AreRight}
use Rattle.jp_iregexp.specs.Tables.{AreInRows, IsTable, Numbered, NumberedList, bodies_of}
use Rattle.jp_iregexp.proofs.Keeping.{numbered_at, from_Sequence, from_Choice, more_made}
use Rattle.jp_iregexp.proofs.matcher.Matcher.+ends.Goals as goal

pub choice_ends-loop-part-preserved : goal.choice_ends-loop-part-preserved
choice_ends-loop-part-preserved t c =
    let e = c.in_ok-add_all.ensures in
    record {
      gathers = gather_step c.args.parts.now c.loop-part.part-index c.part-item.result c.args.self.now.text.now c.args.starts.now c.loop-part.all c.in_ok-reached.reached c.add_all.new.self
          (drop_item c.args.parts.now c.loop-part.part-index c.part-item.result (omega arith) c.part-item.is) c.loop-part.invariant.gathers c.in_ok-reached.ensures.ends e.old e.added e.new;
      right = c.in_ok-reached.ensures.kept;
    }

pub choice_ends-returns-clause-ends : goal.choice_ends-returns-clause-ends
choice_ends-returns-clause-ends t c =
    gather_end c.args.parts.now c.loop-part.part-index c.args.self.now.text.now c.args.starts.now c.loop-part.all
    (drop_past c.args.parts.now c.loop-part.part-index (omega arith)) c.loop-part.invariant.gathers

pub sequence_ends-loop-part-init : goal.sequence_ends-loop-part-init
sequence_ends-loop-part-init t c =
    record { continues = continue_start (Language (sequence_list c.args.parts.now)) c.args.self.now.text.now c.args.starts.now c.in_ok-reached.reached c.requires.starts.over c.in_ok-reached.ensures; right = c.requires.right }

pub sequence_ends-loop-part-preserved : goal.sequence_ends-loop-part-preserved
sequence_ends-loop-part-preserved t c =
    record {
      continues = sequence_step c.args.parts.now c.loop-part.part-index c.part-item.result (Language (sequence_list c.args.parts.now)) c.args.self.now.text.now c.args.starts.now c.loop-part.reached c.in_ok-reached-2.reached
          (drop_item c.args.parts.now c.loop-part.part-index c.part-item.result (omega arith) c.part-item.is) c.loop-part.invariant.continues c.in_ok-reached-2.ensures.ends;
      right = c.in_ok-reached-2.ensures.kept;
    }

pub sequence_ends-returns-clause-ends : goal.sequence_ends-returns-clause-ends
sequence_ends-returns-clause-ends t c =
    sequence_end c.args.parts.now c.loop-part.part-index (Language (sequence_list c.args.parts.now)) c.args.self.now.text.now c.args.starts.now c.loop-part.reached
    (drop_past c.args.parts.now c.loop-part.part-index (omega arith)) c.loop-part.invariant.continues

pub ends-returns-in-Sequence-clause-ends : goal.ends-returns-in-Sequence-clause-ends
ends-returns-in-Sequence-clause-ends t c =
    let tree : tree_of c.args.node.now ≡ sequence_list c.as_slice.result.now = ap tree_of c.in-Sequence.is ∙ tree_of_Sequence c.in-Sequence.parts ∙ ap sequence_list (sym c.as_slice.ensures.value) in
    subst (λ (r : Pattern). IfOk c.sequence_ends.result (λ (out : PositionSet). AreEnds (Language r) c.args.self.now.text.now c.args.starts.now out)) (sym tree) c.sequence_ends.ensures.ends

pub ends-returns-in-Choice-clause-ends : goal.ends-returns-in-Choice-clause-ends
ends-returns-in-Choice-clause-ends t c =
    let tree : tree_of c.args.node.now ≡ choice_list c.as_slice-in-Choice.result.now = ap tree_of c.in-Choice.is ∙ tree_of_Choice c.in-Choice.parts ∙ ap choice_list (sym c.as_slice-in-Choice.ensures.value) in
    subst (λ (r : Pattern). IfOk c.choice_ends.result (λ (out : PositionSet). AreEnds (Language r) c.args.self.now.text.now c.args.starts.now out)) (sym tree) c.choice_ends.ensures.ends

pub even_turns-returns-then-distance-self-clause-ends : goal.even_turns-returns-then-distance-self-clause-ends
even_turns-returns-then-distance-self-clause-ends t c =
    even_none (Language (tree_of c.args.body.now)) c.args.length c.requires.length c.args.self.now.text.now c.args.starts.now c.empty.result c.args.count (c.args.count * c.args.length) refl (omega (arith, c.if-distance-self.true)) c.empty.ensures

pub even_turns-returns-clause-ends : goal.even_turns-returns-clause-ends
even_turns-returns-clause-ends t c =
    let member = Language (tree_of c.args.body.now) in
    let text = c.args.self.now.text.now in
    let starts = c.args.starts.now in
    let step = c.args.length in
    let distance = c.args.count * step in
    let from = c.in_ok-from.ensures in
    if_ok_map (λ (out : PositionSet). (q : ℕ) → Has out q ↔ (distance ≤ q × Has starts (q - distance) × Has c.in_ok-all.all q)) (λ (out : PositionSet). AreEnds (Repeats member c.args.count) text starts out) c.moved_within.result
    (λ out moved. even_ends member step c.requires.length c.requires.some text c.low.result c.min-high.result c.in_ok-from.from c.in_ok-once.once (record { sound = from.sound; each = from.each }) c.in_ok-once.ensures.ends
    starts c.in_ok-all.all out c.args.count distance refl c.requires.many c.low.ensures (λ p h fits. let high = c.high.ensures.above p h in let min = c.min-high.ensures in omega (arith, high, min, fits)) c.in_ok-all.ensures moved) c.moved_within.ensures

pub counted_turns-loop-turn-init : goal.counted_turns-loop-turn-init
counted_turns-loop-turn-init t c =
    record { continues = exact_start (Language (tree_of c.args.body.now)) c.args.count c.args.self.now.text.now c.args.starts.now c.in_ok-reached.reached c.requires.starts.over c.in_ok-reached.ensures; right = c.requires.right }

pub counted_turns-loop-turn-preserved : goal.counted_turns-loop-turn-preserved
counted_turns-loop-turn-preserved t c =
    let member = Language (tree_of c.args.body.now) in
    record {
      continues = exact_step member (Repeats member c.args.count) c.args.self.now.text.now c.args.starts.now c.loop-turn.reached c.in_ok-next.next c.args.count c.loop-turn.turn (omega arith) c.loop-turn.invariant.continues c.in_ok-next.ensures.ends;
      right = c.in_ok-next.ensures.kept;
    }

pub counted_turns-returns-then-is_same-clause-ends : goal.counted_turns-returns-then-is_same-clause-ends
counted_turns-returns-then-is_same-clause-ends t c =
    let member = Language (tree_of c.args.body.now) in
    exact_exit member (Repeats member c.args.count) c.args.self.now.text.now c.args.starts.now c.loop-turn.reached c.in_ok-next.next c.args.count c.loop-turn.turn c.loop-turn.invariant.continues c.in_ok-next.ensures.ends (c.is_same.ensures c.if-is_same.true)

pub counted_turns-returns-clause-ends : goal.counted_turns-returns-clause-ends
counted_turns-returns-clause-ends t c =
    let member = Language (tree_of c.args.body.now) in
    exact_end member (Repeats member c.args.count) c.args.self.now.text.now c.args.starts.now c.loop-turn.reached c.loop-turn.reached c.args.count c.loop-turn.turn (omega arith) c.loop-turn.invariant.continues

pub added_turns-loop-turn-init : goal.added_turns-loop-turn-init
added_turns-loop-turn-init t c =
    let member = Language (tree_of c.args.body.now) in
    let reached = c.in_ok-reached.reached in
    record {
      continues = further_start member c.args.most c.args.self.now.text.now c.args.starts.now reached c.requires.starts.over c.in_ok-reached.ensures;
      fronts = front_start member c.args.self.now.text.now c.args.starts.now reached c.in_ok-frontier.frontier c.in_ok-reached.ensures c.in_ok-frontier.ensures;
      inside = same_over (length c.args.self.now.text.now) c.args.starts.now c.in_ok-frontier.frontier c.in_ok-frontier.ensures c.requires.starts.over;
      right = c.requires.right;
    }

pub added_turns-loop-turn-preserved : goal.added_turns-loop-turn-preserved
added_turns-loop-turn-preserved t c =
    let member = Language (tree_of c.args.body.now) in
    let l = c.loop-turn in
    let i = l.invariant in
    let text = c.args.self.now.text.now in
    let next = c.in_ok-next.next in
    let fresh = c.in_ok-fresh.fresh in
    let f = c.in_ok-fresh.ensures in
    let both = c.add_all.new.self in
    let e = c.in_ok-add_all.ensures in
    record {
      continues = further_step member (RepeatsWithin member 0 (Some c.args.most)) text c.args.starts.now l.reached next l.frontier both c.args.most l.turn (omega arith) i.continues i.fronts c.in_ok-next.ensures.ends
          (λ q h. elim (f.complete q h) [ inl n ↦ e.added q n | inr o ↦ e.old q o ]) e.old (λ q h. elim (e.new q h) [ inl o ↦ inr o | inr n ↦ inl (f.sound q n) ]);
      fronts = front_step member text l.reached l.frontier next fresh both i.fronts c.in_ok-next.ensures.ends f.complete e.added e.old e.new;
      inside = record { within = λ q h. c.in_ok-next.ensures.ends.over.within q (f.sound q h) };
      right = c.in_ok-next.ensures.kept;
    }

pub added_turns-returns-then-stays-clause-ends : goal.added_turns-returns-then-stays-clause-ends
added_turns-returns-then-stays-clause-ends t c =
    let member = Language (tree_of c.args.body.now) in
    let text = c.args.self.now.text.now in
    let l = c.loop-turn in
    let i = l.invariant in
    let closed = kept_stays text c.args.self.now.root.now c.args.body.now c.args.number l.tables.closed.rows.items l.reached l.frontier c.requires.numbered.1 i.right.closed (c.stays.ensures c.if-stays.true) i.fronts in
    further_exit member (RepeatsWithin member 0 (Some c.args.most)) text c.args.starts.now l.reached l.reached c.args.most l.turn i.continues closed

pub added_turns-keep_closed-requires-clause-closed : goal.added_turns-keep_closed-requires-clause-closed
added_turns-keep_closed-requires-clause-closed t c =
    let member = Language (tree_of c.args.body.now) in
    let text = c.args.self.now.text.now in
    let l = c.loop-turn in
    closed_numbered text c.args.self.now.root.now c.args.body.now c.args.number l.reached c.requires.numbered.1
    (front_left member text l.reached l.frontier c.in_ok-next.next l.invariant.fronts c.in_ok-next.ensures.ends
    (λ q h. elim (c.in_ok-fresh.ensures.complete q h) [ inl n ↦ absurd (let some = c.has_any.ensures.none q n in let none = c.if-not-has_any.true in cc) | inr o ↦ o ]))

pub added_turns-returns-then-not-has_any-clause-ends : goal.added_turns-returns-then-not-has_any-clause-ends
added_turns-returns-then-not-has_any-clause-ends t c =
    let member = Language (tree_of c.args.body.now) in
    let text = c.args.self.now.text.now in
    let l = c.loop-turn in
    let closed = front_left member text l.reached l.frontier c.in_ok-next.next l.invariant.fronts c.in_ok-next.ensures.ends
    (λ q h. elim (c.in_ok-fresh.ensures.complete q h) [ inl n ↦ absurd (let some = c.has_any.ensures.none q n in let none = c.if-not-has_any.true in cc) | inr o ↦ o ]) in
    further_exit member (RepeatsWithin member 0 (Some c.args.most)) text c.args.starts.now l.reached l.reached c.args.most l.turn l.invariant.continues closed

pub added_turns-returns-clause-ends : goal.added_turns-returns-clause-ends
added_turns-returns-clause-ends t c =
    let member = Language (tree_of c.args.body.now) in
    let l = c.loop-turn in
    further_end member (RepeatsWithin member 0 (Some c.args.most)) c.args.self.now.text.now c.args.starts.now l.reached l.reached c.args.most l.turn (omega arith) l.invariant.continues

pub choice_ends-ends-requires : goal.choice_ends-ends-requires
choice_ends-ends-requires t c =
    let numbered = numbered_at (bodies_of c.args.self.now.root.now) c.args.parts.now c.loop-part.part-index c.part-item.result (omega arith) c.part-item.is c.requires.numbered in
    (search (rules, the_lemmas), (search rules, (numbered, c.loop-part.invariant.right)))

pub sequence_ends-ends-requires : goal.sequence_ends-ends-requires
sequence_ends-ends-requires t c =
    let numbered = numbered_at (bodies_of c.args.self.now.root.now) c.args.parts.now c.loop-part.part-index c.part-item.result (omega arith) c.part-item.is c.requires.numbered in
    (search (rules, the_lemmas), (search rules, (numbered, c.loop-part.invariant.right)))

pub ends-sequence_ends-requires : goal.ends-sequence_ends-requires
ends-sequence_ends-requires t c =
    let bodies = bodies_of c.args.self.now.root.now in
    let numbered = subst (NumberedList bodies) (sym c.as_slice.ensures.value) (from_Sequence bodies c.in-Sequence.parts (subst (Numbered bodies) c.in-Sequence.is c.requires.numbered)) in
    (search (rules, the_lemmas), (search rules, (numbered, c.requires.right)))

pub ends-choice_ends-requires : goal.ends-choice_ends-requires
ends-choice_ends-requires t c =
    let bodies = bodies_of c.args.self.now.root.now in
    let numbered = subst (NumberedList bodies) (sym c.as_slice-in-Choice.ensures.value) (from_Choice bodies c.in-Choice.parts (subst (Numbered bodies) c.in-Choice.is c.requires.numbered)) in
    (search (rules, the_lemmas), (search rules, (numbered, c.requires.right)))

pub ends-returns-in-Repeated-clause-ends : goal.ends-returns-in-Repeated-clause-ends
ends-returns-in-Repeated-clause-ends t c =
    let n = c.in-Repeated in
    let text = c.args.self.now.text.now in
    let starts = c.args.starts.now in
    let member = Language (tree_of c.deref.result.now) in
    let tree : tree_of c.args.node.now ≡ times (tree_of c.deref.result.now) n.least (most_of n.least n.further) = ap tree_of n.is ∙ ap (λ b. times (tree_of b) n.least (most_of n.least n.further)) (sym c.deref.ensures) in
    subst (λ (r : Pattern). IfOk c.repeated_ends.result (λ (out : PositionSet). AreEnds (Language r) text starts out)) (sym tree)
    (if_ok_map (λ (out : PositionSet). AreEnds (RepeatsWithin member n.least (Some (n.least + c.turns-further.result))) text starts out) (λ (out : PositionSet). AreEnds (RepeatsWithin member n.least (most_of n.least n.further)) text starts out) c.repeated_ends.result
    (λ out a. turns_ends member n.least n.further text starts out (subst (λ k. AreEnds (RepeatsWithin member n.least (Some (n.least + k))) text starts out) c.turns-further.ensures.turns a)) c.repeated_ends.ensures.ends)

pub repeated_ends-returns-in-Class-clause-ends : goal.repeated_ends-returns-in-Class-clause-ends
repeated_ends-returns-in-Class-clause-ends t c =
    let least = c.args.least in
    let most = Some (least + c.args.further) in
    subst (λ (n : Node). IfOk c.run_ends.result (λ (out : PositionSet). AreEnds (RepeatsWithin (Language (tree_of n)) least most) c.args.self.now.text.now c.args.starts.now out)) (sym c.in-Class.is) c.run_ends.ensures

pub repeated_ends-returns-in-Repeated-clause-ends : goal.repeated_ends-returns-in-Repeated-clause-ends
repeated_ends-returns-in-Repeated-clause-ends t c =
    let n = c.in-Repeated in
    let text = c.args.self.now.text.now in
    let starts = c.args.starts.now in
    let least = c.args.least in
    let further = c.args.further in
    let added = c.joined-further.result in
    let member = Language (tree_of c.deref.result.now) in
    let tree : tree_of c.args.body.now ≡ times (tree_of c.deref.result.now) n.once (most_of n.once n.more) = ap tree_of n.is ∙ ap (λ b. times (tree_of b) n.once (most_of n.once n.more)) (sym c.deref.ensures) in
    subst (λ (r : Pattern). IfOk c.repeated_ends.result (λ (out : PositionSet). AreEnds (RepeatsWithin (Language r) least (Some (least + further))) text starts out)) (sym tree)
    (if_ok_map (λ (out : PositionSet). AreEnds (RepeatsWithin member (least * n.once) (Some (least * n.once + added))) text starts out) (λ (out : PositionSet). AreEnds (RepeatsWithin (RepeatsWithin member n.once (most_of n.once n.more)) least (Some (least + further))) text starts out) c.repeated_ends.result
    (λ out a. joined_ends member n.once n.more least further added (n.once + c.turns.result) text starts out c.if-once-le1.true (ap (λ k. n.once + k) c.turns.ensures.turns) c.requires.starts.fits c.joined-further.ensures.fits c.joined-further.ensures.enough a) c.repeated_ends.ensures.ends)

pub repeated_ends-repeated_ends-requires-in-len1 : goal.repeated_ends-repeated_ends-requires-in-len1
repeated_ends-repeated_ends-requires-in-len1 t c =
    let low = c.in-len1.len_at_least in
    let high = c.in-len1.len_below in
    let size : length c.as_slice.result.now ≡ 1 = omega (arith, low, high) in
    let numbered = only_numbered c.args.body.now c.part-item.result c.in-Sequence.parts c.as_slice.result.now c.in-Sequence.is c.as_slice.ensures.value size c.part-item.is (bodies_of c.args.self.now.root.now) c.args.number c.requires.numbered in
    let noted = only_length c.args.body.now c.part-item.result c.in-Sequence.parts c.as_slice.result.now c.in-Sequence.is c.as_slice.ensures.value size c.part-item.is c.args.length c.requires.length in
    (search (rules, the_lemmas), (search rules, (numbered, (noted, c.requires.right))))

pub repeated_ends-returns-in-len1-clause-ends : goal.repeated_ends-returns-in-len1-clause-ends
repeated_ends-returns-in-len1-clause-ends t c =
    let text = c.args.self.now.text.now in
    let starts = c.args.starts.now in
    let least = c.args.least in
    let most = Some (least + c.args.further) in
    let low = c.in-len1.len_at_least in
    let high = c.in-len1.len_below in
    if_ok_map (λ (out : PositionSet). AreEnds (RepeatsWithin (Language (tree_of c.part-item.result)) least most) text starts out) (λ (out : PositionSet). AreEnds (RepeatsWithin (Language (tree_of c.args.body.now)) least most) text starts out) c.repeated_ends-in-len1.result
    (λ out a. only_ends c.args.body.now c.part-item.result c.in-Sequence.parts c.as_slice.result.now c.in-Sequence.is c.as_slice.ensures.value (omega (arith, low, high)) c.part-item.is least most text starts out a) c.repeated_ends-in-len1.ensures.ends

pub repeated_ends-returns-clause-ends : goal.repeated_ends-returns-clause-ends
repeated_ends-returns-clause-ends t c =
    let member = Language (tree_of c.args.body.now) in
    let text = c.args.self.now.text.now in
    let starts = c.args.starts.now in
    let reached = c.in_ok-reached.reached in
    let least = c.args.least in
    let further = c.args.further in
    if_ok_map (λ (out : PositionSet). AreEnds (RepeatsWithin member 0 (Some further)) text reached out) (λ (out : PositionSet). AreEnds (RepeatsWithin member least (Some (least + further))) text starts out) c.added_turns.result
    (λ out b. times_some member least further text starts reached out c.in_ok-reached.ensures.ends b) c.added_turns.ensures.ends

pub ends-returns-then-not-has_any-clause-ends : goal.ends-returns-then-not-has_any-clause-ends
ends-returns-then-not-has_any-clause-ends t c =
    ends_none (Language (tree_of c.args.node.now)) c.args.self.now.text.now c.args.starts.now c.empty.result
    (λ p h. let some = c.has_any.ensures.none p h in let none = c.if-not-has_any.true in cc) c.empty.ensures

pub sequence_ends-returns-then-not-has_any-clause-ends : goal.sequence_ends-returns-then-not-has_any-clause-ends
sequence_ends-returns-then-not-has_any-clause-ends t c =
    let text = c.args.self.now.text.now in
    let reached = c.loop-part.reached in
    let none : (p : ℕ) → ¬ (Has reached p) = λ p h. (let some = c.has_any.ensures.none p h in let no = c.if-not-has_any.true in cc) in
    c.loop-part.invariant.continues.rest reached (ends_none (Language (sequence_list (drop c.loop-part.part-index c.args.parts.now))) text reached reached none none)

pub rows-loop-p-preserved : goal.rows-loop-p-preserved
rows-loop-p-preserved t c =
    let member = Language (tree_of c.args.body.now) in
    let text = c.args.self.now.text.now in
    let n = c.loop-p.p in
    let start = c.in_ok-start.start in
    record {
      rows = rows_push member text n c.loop-p.rows.items c.push.new.self.items c.in_ok-row.row c.loop-p.invariant.rows c.in_ok-push.ensures.items
          (from_one member text start c.in_ok-row.row n c.in_ok-start.ensures.has c.in_ok-start.ensures.only c.in_ok-row.ensures.ends);
      right = c.in_ok-row.ensures.kept;
    }

pub make_table-returns : goal.make_table-returns
make_table-returns t c =
    let text = c.args.self.now.text.now in
    let root = c.args.self.now.root.now in
    let number = c.args.number in
    let rows = c.in_ok-rows.rows in
    let old = c.rows.new.tables.bodies.rows.items in
    let new = c.keep.new.self.rows.items in
    let alike = c.requires.numbered.1 in
    let body = Language (tree_of c.args.body.now) in
    let table = table_alike body (Language (get_or (bodies_of root) number empty)) text rows.items (record { to = alike.from; from = alike.to }) c.in_ok-rows.ensures.rows in
    if_ok_map (λ _. IsAdded number rows old new) (λ _. AreRight text root (record c.rows.new.tables { bodies = c.keep.new.self })) c.keep.result
    (λ _ added. record { bodies = more_made text root old new number rows table added c.in_ok-rows.ensures.kept.bodies; closed = c.in_ok-rows.ensures.kept.closed; after = c.in_ok-rows.ensures.kept.after }) c.keep.ensures

pub kept_turn-returns-in-Some-clause-ends : goal.kept_turn-returns-in-Some-clause-ends
kept_turn-returns-in-Some-clause-ends t c =
    let text = c.args.self.now.text.now in
    let starts = c.args.starts.now in
    let body = Language (tree_of c.args.body.now) in
    let rows = c.in-Some.rows.now in
    let kept = c.in_ok-make_table.ensures.bodies c.args.number rows c.in-Some.ensures in
    let table = subst (λ (l : List PositionSet). IsTable body text l) (sym c.as_slice.ensures.value) (table_alike (Language (get_or (bodies_of c.args.self.now.root.now) c.args.number empty)) body text rows.items c.requires.numbered.1 kept) in
    if_ok_map (λ (out : PositionSet). AreInRows c.as_slice.result.now starts out) (λ (out : PositionSet). AreEnds body text starts out) c.ends_in.result
    (λ out a. table_ends body text c.as_slice.result.now starts out table c.requires.starts.over a) c.ends_in.ensures
