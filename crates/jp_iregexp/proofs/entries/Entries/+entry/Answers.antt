use Rattle.std.proofs.Common.{IfOk, ◌≡◌, ◌≤◌, ◌-◌, ◌<◌, [], length, Some, arith, sym, ap, ◌∙◌, subst}
use Rattle.std.proofs.lemmas.List.{take_all}
use Rattle.jp_model.specs.Pattern.Language.{Language, Repeats, RepeatsWithin}
use Rattle.jp_model.specs.Pattern.Tree.{Pattern}
use Rattle.jp_iregexp.specs.declared.graph.State.TheVariants.{Fan}
use Rattle.jp_iregexp.specs.declared.node.Node.{Node}
use Rattle.jp_iregexp.specs.Graphs.{AddsEntry, AddsEntries, Merges}
use Rattle.jp_iregexp.specs.Layouts.{turns_in_front}
use Rattle.jp_iregexp.specs.Nodes.{most_of, tree_of, sequence_list, choice_list}
use Rattle.jp_iregexp.proofs.Parts.{tree_of_Sequence, tree_of_Choice, drop_past, if_ok_map}
use Rattle.jp_iregexp.proofs.Entering.{entry_none, entry_merged, entries_none, entry_star, entry_plus}
use Rattle.jp_iregexp.proofs.Entered.{sequence_entry, choice_entry, exact_entry, no_turns, up_to_entry, times_entry}
use Rattle.jp_iregexp.proofs.entries.Entries.+entry.Goals as goal

pub entry-returns-in-Sequence : goal.entry-returns-in-Sequence
entry-returns-in-Sequence t c =
    let tree : tree_of c.args.node.now ≡ sequence_list c.as_slice.result.now = ap tree_of c.in-Sequence.is ∙ tree_of_Sequence c.in-Sequence.parts ∙ ap sequence_list (sym c.as_slice.ensures.value) in
    subst (λ (r : Pattern). IfOk c.sequence.result (λ entry. AddsEntry c.args.self.now.states.items c.sequence.new.self.states.items (Language r) c.args.next entry)) (sym tree) c.sequence.ensures

pub entry-returns-in-Choice : goal.entry-returns-in-Choice
entry-returns-in-Choice t c =
    let tree : tree_of c.args.node.now ≡ choice_list c.as_slice-in-Choice.result.now = ap tree_of c.in-Choice.is ∙ tree_of_Choice c.in-Choice.parts ∙ ap choice_list (sym c.as_slice-in-Choice.ensures.value) in
    subst (λ (r : Pattern). IfOk c.choice.result (λ entry. AddsEntry c.args.self.now.states.items c.choice.new.self.states.items (Language r) c.args.next entry)) (sym tree) c.choice.ensures

pub entry-returns-in-Repeated : goal.entry-returns-in-Repeated
entry-returns-in-Repeated t c =
    let e : tree_of c.args.node.now ≡ _ = ap tree_of c.in-Repeated.is in
    subst (λ (r : Pattern). IfOk c.repeated.result (λ entry. AddsEntry c.args.self.now.states.items c.repeated.new.self.states.items (Language r) c.args.next entry)) (sym e)
    (subst (λ (n : Node). IfOk c.repeated.result (λ entry. AddsEntry c.args.self.now.states.items c.repeated.new.self.states.items (RepeatsWithin (Language (tree_of n)) c.in-Repeated.least (most_of c.in-Repeated.least c.in-Repeated.further)) c.args.next entry)) c.deref.ensures c.repeated.ensures)

pub sequence-loop-number-init : goal.sequence-loop-number-init
sequence-loop-number-init t c =
    let old = c.args.self.now.states.items in
    subst (λ ps. AddsEntry old old (Language (sequence_list ps)) c.args.next c.args.next) (sym (drop_past c.args.parts.now (length c.args.parts.now) (omega arith))) (entry_none old c.args.next)

pub sequence-loop-number-preserved : goal.sequence-loop-number-preserved
sequence-loop-number-preserved t c =
    let l = c.loop-number in
    let some : 0 < l.number = c.loop-number-test.true in
    let within : l.number ≤ length c.args.parts.now = l.auto.number in
    sequence_entry c.args.self.now.states.items l.self.states.items c.entry.new.self.states.items c.args.parts.now (l.number - 1) l.number c.index-parts-number.result c.args.next l.at c.in_ok-at.at (omega (arith, some)) (omega (arith, some, within)) c.index-parts-number.is l.invariant c.in_ok-at.ensures

pub choice-loop-part-init : goal.choice-loop-part-init
choice-loop-part-init t c =
    let old = c.args.self.now.states.items in
    subst (AddsEntries old old (Language (choice_list [])) c.args.next) (sym c.new-branches.ensures.items) (entries_none old c.args.next)

pub choice-loop-part-preserved : goal.choice-loop-part-preserved
choice-loop-part-preserved t c =
    let l = c.loop-part in
    choice_entry c.args.self.now.states.items l.self.states.items c.entry.new.self.states.items c.args.parts.now l.part-index c.part-item.result c.args.next c.in_ok-entry.entry l.branches.items c.push.new.self.items (omega arith) c.part-item.is c.in_ok-push.ensures.items l.invariant c.in_ok-entry.ensures

pub choice-merged-requires : goal.choice-merged-requires
choice-merged-requires t c = (let longer = c.loop-part.invariant.extends.longer in omega (arith, longer))

pub choice-returns : goal.choice-returns
choice-returns t c =
    let l = c.loop-part in
    let old = c.args.self.now.states.items in
    let mid = l.self.states.items in
    let new = c.merged.new.self.states.items in
    let member = Language (choice_list c.args.parts.now) in
    let base : c.len-base.result ≡ length old = omega arith in
    let branches = subst (λ ps. AddsEntries old mid (Language (choice_list ps)) c.args.next l.branches.items) (take_all l.part-index c.args.parts.now (omega arith)) l.invariant in
    if_ok_map (λ entry. Merges (length old) mid new l.branches.items entry) (λ entry. AddsEntry old new member c.args.next entry) c.merged.result
    (λ entry m. entry_merged old mid new member c.args.next entry l.branches.items branches m)
    (subst (λ base. IfOk c.merged.result (λ entry. Merges base mid new l.branches.items entry)) base c.merged.ensures)

pub repeated-returns : goal.repeated-returns
repeated-returns t c =
    let old = c.args.self.now.states.items in
    let mid = c.last_turns.new.self.states.items in
    let new = c.exact.new.self.states.items in
    let member = Language (tree_of c.args.body.now) in
    let least = c.args.least in
    let further = c.args.further in
    if_ok_map (λ entry. AddsEntry mid new (Repeats member (turns_in_front least further)) c.in_ok-at.at entry) (λ entry. AddsEntry old new (RepeatsWithin member least (most_of least further)) c.args.next entry) c.exact.result
    (λ entry a. times_entry old mid new member least further c.args.next c.in_ok-at.at entry c.in_ok-at.ensures a) (subst (λ n. IfOk c.exact.result (λ entry. AddsEntry mid new (Repeats member n) c.in_ok-at.at entry)) c.turns_in_front.ensures c.exact.ensures)

pub exact-loop-turn-init : goal.exact-loop-turn-init
exact-loop-turn-init t c = entry_none c.args.self.now.states.items c.args.next

pub exact-loop-turn-preserved : goal.exact-loop-turn-preserved
exact-loop-turn-preserved t c =
    let l = c.loop-turn in
    exact_entry c.args.self.now.states.items l.self.states.items c.entry.new.self.states.items (Language (tree_of c.args.body.now)) l.turn c.args.next l.at c.in_ok-at.at l.invariant c.in_ok-at.ensures

pub exact-returns : goal.exact-returns
exact-returns t c =
    let l = c.loop-turn in
    let whole : l.turn ≡ c.args.count = omega arith in
    subst (λ n. AddsEntry c.args.self.now.states.items l.self.states.items (Repeats (Language (tree_of c.args.body.now)) n) c.args.next l.at) whole l.invariant

pub up_to-loop-turn-init : goal.up_to-loop-turn-init
up_to-loop-turn-init t c = no_turns c.args.self.now.states.items (Language (tree_of c.args.body.now)) c.args.next

pub up_to-loop-turn-preserved : goal.up_to-loop-turn-preserved
up_to-loop-turn-preserved t c =
    let l = c.loop-turn in
    let p = c.in_ok-at.ensures in
    up_to_entry c.args.self.now.states.items l.self.states.items c.entry.new.self.states.items c.push.new.self.states.items (Language (tree_of c.args.body.now)) c.in_ok-fan.fan l.turn c.args.next l.at c.in_ok-entry.entry c.in_ok-at.at l.invariant c.in_ok-entry.ensures p.0 p.1 c.in_ok-fan.ensures

pub up_to-returns : goal.up_to-returns
up_to-returns t c =
    let l = c.loop-turn in
    let whole : l.turn ≡ c.args.most = omega arith in
    subst (λ n. AddsEntry c.args.self.now.states.items l.self.states.items (RepeatsWithin (Language (tree_of c.args.body.now)) 0 (Some n)) c.args.next l.at) whole l.invariant

pub any-returns-then-least-eq0 : goal.any-returns-then-least-eq0
any-returns-then-least-eq0 t c =
    let p = c.in_ok-turns.ensures in
    entry_star c.args.self.now.states.items c.push.new.self.states.items c.entry.new.self.states.items (Language (tree_of c.args.body.now)) (Fan c.new.result) c.in_ok-self.field-0 c.args.next c.in_ok-turns.turns c.in_ok-entry.entry c.args.least
    p.0 p.1 c.in_ok-entry.ensures c.in_ok-self.ensures c.if-least-eq0.true

pub any-returns : goal.any-returns
any-returns t c =
    let p = c.in_ok-turns.ensures in
    let some : 1 ≤ c.args.least = omega arith in
    entry_plus c.args.self.now.states.items c.push.new.self.states.items c.entry.new.self.states.items (Language (tree_of c.args.body.now)) (Fan c.new.result) c.in_ok-self.field-0 c.args.next c.in_ok-turns.turns c.in_ok-entry.entry c.args.least
    p.0 p.1 c.in_ok-entry.ensures c.in_ok-self.ensures some
