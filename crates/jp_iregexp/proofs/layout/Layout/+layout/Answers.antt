use Rattle.std.proofs.Common.{IfOk, ◌≡◌, ◌≤◌, ◌+◌, ◌-◌, ◌⊎◌, ◌||◌, ◌==◌, [], ◌∷◌, ◌++◌, take, map, Some, arith, sym, ap, ◌∙◌, subst}
use Rattle.std.proofs.lemmas.List.{take_all}
use Rattle.std.specs.Option.{IfSome}
use Rattle.jp_model.specs.Pattern.Language.{Language, Splits, Repeats, RepeatsWithin}
use Rattle.jp_model.specs.Pattern.Tree.{Pattern}
use Rattle.jp_iregexp.specs.declared.layout.Part.{Part}
use Rattle.jp_iregexp.specs.declared.node.Node.{Node}
use Rattle.jp_iregexp.specs.Layouts.{LaidOnto, state_of, turns_in_front}
use Rattle.jp_iregexp.specs.Nodes.{most_of, tree_of, sequence_list, choice_list}
use Rattle.jp_iregexp.proofs.Parts.{tree_of_Sequence, tree_of_Choice, take_item}
use Rattle.jp_iregexp.proofs.Layouts.{some_of, laid_any, laid_as, laid_either, laid_left, laid_same, laid_then, only_empty, with_empty}
use Rattle.jp_iregexp.proofs.Counted.{turn_more, turn_fewer, within_more, within_fewer, as_many, at_most_none, times_join, times_split, sequence_more, sequence_fewer, choice_more, choice_fewer}
use Rattle.jp_iregexp.proofs.layout.Layout.+layout.Goals as goal

pub part-returns-in-Sequence : goal.part-returns-in-Sequence
part-returns-in-Sequence t c =
    let tree : tree_of c.args.node.now ≡ sequence_list c.as_slice.result.now = ap tree_of c.in-Sequence.is ∙ tree_of_Sequence c.in-Sequence.parts ∙ ap sequence_list (sym c.as_slice.ensures.value) in
    subst (λ (r : Pattern). IfOk c.sequence.result (λ found. IfSome found (λ (p : Part). LaidOnto (map state_of c.args.self.now.states.items) (map state_of c.sequence.new.self.states.items) (Language r) p.first p.last p.has_empty))) (sym tree) c.sequence.ensures

pub part-returns-in-Choice : goal.part-returns-in-Choice
part-returns-in-Choice t c =
    let tree : tree_of c.args.node.now ≡ choice_list c.as_slice-in-Choice.result.now = ap tree_of c.in-Choice.is ∙ tree_of_Choice c.in-Choice.parts ∙ ap choice_list (sym c.as_slice-in-Choice.ensures.value) in
    subst (λ (r : Pattern). IfOk c.choice.result (λ found. IfSome found (λ (p : Part). LaidOnto (map state_of c.args.self.now.states.items) (map state_of c.choice.new.self.states.items) (Language r) p.first p.last p.has_empty))) (sym tree) c.choice.ensures

pub part-returns-in-Repeated : goal.part-returns-in-Repeated
part-returns-in-Repeated t c =
    let e : tree_of c.args.node.now ≡ _ = ap tree_of c.in-Repeated.is in
    subst (λ (r : Pattern). IfOk c.repeated.result (λ found. IfSome found (λ (p : Part). LaidOnto (map state_of c.args.self.now.states.items) (map state_of c.repeated.new.self.states.items) (Language r) p.first p.last p.has_empty))) (sym e)
    (subst (λ (n : Node). IfOk c.repeated.result (λ found. IfSome found (λ (p : Part). LaidOnto (map state_of c.args.self.now.states.items) (map state_of c.repeated.new.self.states.items) (RepeatsWithin (Language (tree_of n)) c.in-Repeated.least (most_of c.in-Repeated.least c.in-Repeated.further)) p.first p.last p.has_empty))) c.deref.ensures c.repeated.ensures)

pub any-returns-then-turn : goal.any-returns-then-turn
any-returns-then-turn t c =
    let old = map state_of c.args.self.now.states.items in
    let mid = map state_of c.part.new.self.states.items in
    let member = Language (tree_of c.args.body.now) in
    let turn = c.in-Some.turn in
    let a = some_of (λ (p : Part). LaidOnto old mid member p.first p.last p.has_empty) _ turn c.in-Some.is c.in_ok-turn.ensures in
    laid_any old mid (map state_of c.link.new.self.states.items) member turn.first turn.last turn.has_empty a c.link.ensures c.args.least turn.has_empty
    (c.if-turn.true ∙ sym (ap (λ b. b || (c.args.least == 0)) c.if-turn.true))

pub any-returns-else-turn : goal.any-returns-else-turn
any-returns-else-turn t c =
    let old = map state_of c.args.self.now.states.items in
    let mid = map state_of c.part.new.self.states.items in
    let member = Language (tree_of c.args.body.now) in
    let turn = c.in-Some.turn in
    let a = some_of (λ (p : Part). LaidOnto old mid member p.first p.last p.has_empty) _ turn c.in-Some.is c.in_ok-turn.ensures in
    laid_any old mid (map state_of c.link.new.self.states.items) member turn.first turn.last turn.has_empty a c.link.ensures c.args.least (c.args.least == 0)
    (sym (ap (λ b. b || (c.args.least == 0)) c.if-turn.false))

pub choice-loop-part-preserved : goal.choice-loop-part-preserved
choice-loop-part-preserved t c =
    let l = c.loop-part in
    let parts = c.args.parts.now in
    let part = c.part-item.result in
    let next = c.in-Some.next in
    let old = map state_of c.args.self.now.states.items in
    let mid = map state_of l.self.states.items in
    let new = map state_of c.part.new.self.states.items in
    let before = take l.part-index parts in
    let b = some_of (λ (p : Part). LaidOnto mid new (Language (tree_of part)) p.first p.last p.has_empty) _ next c.in-Some.is c.in_ok-next.ensures in
    let or = c.or-all.ensures in
    subst (λ ps. LaidOnto old new (Language (choice_list ps)) c.or-all.result.first c.or-all.result.last c.or-all.result.has_empty) (sym (take_item parts l.part-index part (omega arith) c.part-item.is))
    (laid_as old new (Language (choice_list (before ++ part ∷ []))) _ c.or-all.result.first _ c.or-all.result.last _ c.or-all.result.has_empty or.first or.last or.has_empty
    (laid_same old new (λ x. Language (choice_list before) x ⊎ Language (tree_of part) x) _ _ _ _ (choice_more before part) (choice_fewer before part)
    (laid_either old mid new (Language (choice_list before)) (Language (tree_of part)) l.all.first next.first l.all.last next.last l.all.has_empty next.has_empty l.invariant b)))

pub choice-returns : goal.choice-returns
choice-returns t c =
    let l = c.loop-part in
    let whole = take_all l.part-index c.args.parts.now (omega arith) in
    subst (λ ps. LaidOnto (map state_of c.args.self.now.states.items) (map state_of l.self.states.items) (Language (choice_list ps)) l.all.first l.all.last l.all.has_empty) whole l.invariant

pub sequence-loop-part-preserved : goal.sequence-loop-part-preserved
sequence-loop-part-preserved t c =
    let l = c.loop-part in
    let parts = c.args.parts.now in
    let part = c.part-item.result in
    let next = c.in-Some.next in
    let old = map state_of c.args.self.now.states.items in
    let mid = map state_of l.self.states.items in
    let new = map state_of c.part.new.self.states.items in
    let all = map state_of c.joined-all.new.self.states.items in
    let before = take l.part-index parts in
    let b = some_of (λ (p : Part). LaidOnto mid new (Language (tree_of part)) p.first p.last p.has_empty) _ next c.in-Some.is c.in_ok-next.ensures in
    let j = c.joined-all.ensures in
    subst (λ ps. LaidOnto old all (Language (sequence_list ps)) c.joined-all.result.first c.joined-all.result.last c.joined-all.result.has_empty) (sym (take_item parts l.part-index part (omega arith) c.part-item.is))
    (laid_as old all (Language (sequence_list (before ++ part ∷ []))) _ c.joined-all.result.first _ c.joined-all.result.last _ c.joined-all.result.has_empty j.first j.last j.has_empty
    (laid_same old all (Splits (Language (sequence_list before)) (Language (tree_of part))) _ _ _ _ (sequence_more before part) (sequence_fewer before part)
    (laid_then old mid new all (Language (sequence_list before)) (Language (tree_of part)) l.all.first next.first l.all.last next.last l.all.has_empty next.has_empty l.invariant b j.linked)))

pub sequence-returns : goal.sequence-returns
sequence-returns t c =
    let l = c.loop-part in
    let whole = take_all l.part-index c.args.parts.now (omega arith) in
    subst (λ ps. LaidOnto (map state_of c.args.self.now.states.items) (map state_of l.self.states.items) (Language (sequence_list ps)) l.all.first l.all.last l.all.has_empty) whole l.invariant

pub exact-loop-turn-preserved : goal.exact-loop-turn-preserved
exact-loop-turn-preserved t c =
    let l = c.loop-turn in
    let member = Language (tree_of c.args.body.now) in
    let next = c.in-Some.next in
    let old = map state_of c.args.self.now.states.items in
    let mid = map state_of l.self.states.items in
    let new = map state_of c.part.new.self.states.items in
    let all = map state_of c.joined-all.new.self.states.items in
    let b = some_of (λ (p : Part). LaidOnto mid new member p.first p.last p.has_empty) _ next c.in-Some.is c.in_ok-next.ensures in
    let j = c.joined-all.ensures in
    laid_as old all (Repeats member (l.turn + 1)) _ c.joined-all.result.first _ c.joined-all.result.last _ c.joined-all.result.has_empty j.first j.last j.has_empty
    (laid_same old all (Splits (Repeats member l.turn) member) _ _ _ _ (turn_more member l.turn) (turn_fewer member l.turn)
    (laid_then old mid new all (Repeats member l.turn) member l.all.first next.first l.all.last next.last l.all.has_empty next.has_empty l.invariant b j.linked))

pub exact-returns-then-next-eq0 : goal.exact-returns-then-next-eq0
exact-returns-then-next-eq0 t c =
    let l = c.loop-turn in
    let member = Language (tree_of c.args.body.now) in
    let next = c.in-Some.next in
    let old = map state_of c.args.self.now.states.items in
    let mid = map state_of l.self.states.items in
    let new = map state_of c.part.new.self.states.items in
    let all = map state_of c.joined-all.new.self.states.items in
    let b = some_of (λ (p : Part). LaidOnto mid new member p.first p.last p.has_empty) _ next c.in-Some.is c.in_ok-next.ensures in
    let only = only_empty mid new member next.first next.last next.has_empty c.if-next-eq0.true b in
    let j = c.joined-all.ensures in
    let count = c.args.count in
    let some : 1 ≤ count = omega arith in
    laid_as old all (Repeats member count) _ c.joined-all.result.first _ c.joined-all.result.last _ c.joined-all.result.has_empty j.first j.last j.has_empty
    (laid_same old all (Splits (Repeats member l.turn) member) _ _ _ _ (λ x s. as_many member only (l.turn + 1) count x (omega arith) (turn_more member l.turn x s)) (λ x r. turn_fewer member l.turn x (as_many member only count (l.turn + 1) x some r))
    (laid_then old mid new all (Repeats member l.turn) member l.all.first next.first l.all.last next.last l.all.has_empty next.has_empty l.invariant b j.linked))

pub exact-returns : goal.exact-returns
exact-returns t c =
    let l = c.loop-turn in
    let whole : l.turn ≡ c.args.count = omega arith in
    subst (λ n. LaidOnto (map state_of c.args.self.now.states.items) (map state_of l.self.states.items) (Repeats (Language (tree_of c.args.body.now)) n) l.all.first l.all.last l.all.has_empty) whole l.invariant

pub up_to-loop-turn-preserved : goal.up_to-loop-turn-preserved
up_to-loop-turn-preserved t c =
    let l = c.loop-turn in
    let member = Language (tree_of c.args.body.now) in
    let within = RepeatsWithin member 0 (Some l.turn) in
    let next = c.in-Some.next in
    let old = map state_of c.args.self.now.states.items in
    let mid = map state_of l.self.states.items in
    let new = map state_of c.part.new.self.states.items in
    let all = map state_of c.joined-more.new.self.states.items in
    let b = some_of (λ (p : Part). LaidOnto mid new member p.first p.last p.has_empty) _ next c.in-Some.is c.in_ok-next.ensures in
    let j = c.joined-more.ensures in
    laid_same old all (λ x. Splits within member x ⊎ (x ≡ [])) (RepeatsWithin member 0 (Some (l.turn + 1))) _ _ _ (within_more member l.turn) (λ x w. within_fewer member l.turn w.count x w.few w.repeats)
    (with_empty old all (Splits within member) _ _ _
    (laid_as old all (Splits within member) _ c.joined-more.result.first _ c.joined-more.result.last _ c.joined-more.result.has_empty j.first j.last j.has_empty
    (laid_then old mid new all within member l.all.first next.first l.all.last next.last l.all.has_empty next.has_empty l.invariant b j.linked)))

pub up_to-returns-then-next-eq0 : goal.up_to-returns-then-next-eq0
up_to-returns-then-next-eq0 t c =
    let l = c.loop-turn in
    let member = Language (tree_of c.args.body.now) in
    let next = c.in-Some.next in
    let old = map state_of c.args.self.now.states.items in
    let mid = map state_of l.self.states.items in
    let new = map state_of c.part.new.self.states.items in
    let most = c.args.most in
    let b = some_of (λ (p : Part). LaidOnto mid new member p.first p.last p.has_empty) _ next c.in-Some.is c.in_ok-next.ensures in
    let only = only_empty mid new member next.first next.last next.has_empty c.if-next-eq0.true b in
    laid_same old new (RepeatsWithin member 0 (Some l.turn)) (RepeatsWithin member 0 (Some most)) _ _ _ (λ x w. at_most_none member only most w.count x w.repeats) (λ x w. at_most_none member only l.turn w.count x w.repeats)
    (laid_left old mid new (RepeatsWithin member 0 (Some l.turn)) member l.all.first next.first l.all.last next.last l.all.has_empty next.has_empty l.invariant b)

pub up_to-returns : goal.up_to-returns
up_to-returns t c =
    let l = c.loop-turn in
    let whole : l.turn ≡ c.args.most = omega arith in
    subst (λ n. LaidOnto (map state_of c.args.self.now.states.items) (map state_of l.self.states.items) (RepeatsWithin (Language (tree_of c.args.body.now)) 0 (Some n)) l.all.first l.all.last l.all.has_empty) whole l.invariant

pub repeated-returns : goal.repeated-returns
repeated-returns t c =
    let member = Language (tree_of c.args.body.now) in
    let least = c.args.least in
    let further = c.args.further in
    let old = map state_of c.args.self.now.states.items in
    let mid = map state_of c.exact.new.self.states.items in
    let new = map state_of c.last_turns.new.self.states.items in
    let all = map state_of c.joined.new.self.states.items in
    let front = c.in-Some.front in
    let back = c.in-Some-2.back in
    let a = some_of (λ (p : Part). LaidOnto old mid (Repeats member c.turns_in_front.result) p.first p.last p.has_empty) _ front c.in-Some.is c.in_ok-front.ensures in
    let b = some_of (λ (p : Part). LaidOnto mid new (RepeatsWithin member (least - turns_in_front least further) further) p.first p.last p.has_empty) _ back c.in-Some-2.is c.in_ok-back.ensures in
    let j = c.joined.ensures in
    laid_as old all (RepeatsWithin member least (most_of least further)) _ c.joined.result.first _ c.joined.result.last _ c.joined.result.has_empty j.first j.last j.has_empty
    (laid_same old all (Splits (Repeats member (turns_in_front least further)) (RepeatsWithin member (least - turns_in_front least further) further)) _ _ _ _ (times_join member least further) (times_split member least further)
    (laid_then old mid new all (Repeats member (turns_in_front least further)) (RepeatsWithin member (least - turns_in_front least further) further) front.first back.first front.last back.last front.has_empty back.has_empty
    (subst (λ n. LaidOnto old mid (Repeats member n) front.first front.last front.has_empty) c.turns_in_front.ensures a) b j.linked))
