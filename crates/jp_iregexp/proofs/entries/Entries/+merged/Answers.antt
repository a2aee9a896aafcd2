use Rattle.std.proofs.Common.{◌≡◌, ◌∷◌, [], ◌++◌, length, refl, subst}
use Rattle.jp_iregexp.specs.declared.graph.State.TheVariants.{Fan, Switch}
use Rattle.jp_iregexp.specs.Branches.{AddsNexts, AreTold}
use Rattle.jp_iregexp.specs.Graphs.{Merges}
use Rattle.jp_iregexp.proofs.Entering.{merges_fan}
use Rattle.jp_iregexp.proofs.Branching.{merges_switch, next_some, nexts_none, nexts_more}
use Rattle.jp_iregexp.proofs.Parts.{if_ok_map}
use Rattle.jp_iregexp.proofs.entries.Entries.+merged.Goals as goal

pub merged-returns-then-deep-eq0 : goal.merged-returns-then-deep-eq0
merged-returns-then-deep-eq0 t c =
    let old = c.args.self.now.states.items in
    let new = c.push.new.self.states.items in
    let branches = c.args.branches in
    if_ok_map (λ number. (number ≡ length old) × (new ≡ old ++ Fan branches ∷ [])) (λ entry. Merges c.args.base old new branches.items entry) c.push.result
    (λ k h. merges_fan c.args.base old new (Fan branches) branches.items k c.requires h.0 h.1 (record { free = refl; behind = λ x. refl })) c.push.ensures

pub merged-returns : goal.merged-returns
merged-returns t c =
    let old = c.args.self.now.states.items in
    let mid = c.nexts.new.self.states.items in
    let late = c.push-2.new.self.states.items in
    let new = c.push-4.new.self.states.items in
    let branches = c.args.branches.items in
    let told = c.in_ok-firsts.field-0 in
    let p = c.in_ok-switch.ensures in
    let more = c.push-3.new.self in
    if_ok_map (λ number. (number ≡ length late) × (new ≡ late ++ Fan more ∷ [])) (λ entry. Merges c.args.base old new branches entry) c.push-4.result
    (λ j h. merges_switch c.args.base old mid late new branches told.others.items told.firsts.items c.in_ok-nexts.nexts.items (Switch c.in_ok-nexts.nexts) (Fan more) c.in_ok-switch.switch j c.requires
    (subst (λ bs. AreTold old c.args.base bs told.firsts.items told.others.items) c.as_slice-2.ensures.value c.in_ok-firsts.ensures)
    (subst (λ fs. AddsNexts c.args.base old mid fs c.in_ok-nexts.nexts.items 128) c.as_slice-3.ensures.value c.in_ok-nexts.ensures)
    p.0 p.1 refl (λ x. refl) h.0 h.1 (record { free = c.in_ok-push.ensures.items; behind = λ x. refl })) c.push-4.ensures

pub next-returns : goal.next-returns
next-returns t c = next_some c.args.base c.args.self.now.states.items c.merged.new.self.states.items c.args.row.items c.in_ok-merged.merged c.in_ok-merged.ensures

pub nexts-loop-code-init : goal.nexts-loop-code-init
nexts-loop-code-init t c = nexts_none c.args.base c.args.self.now.states.items c.args.firsts.now c.new-nexts.result.items c.new-nexts.ensures.items

pub nexts-loop-code-preserved : goal.nexts-loop-code-preserved
nexts-loop-code-preserved t c =
    let l = c.loop-code in
    nexts_more c.args.base c.args.self.now.states.items l.self.states.items c.next.new.self.states.items c.args.firsts.now l.nexts.items c.push.new.self.items c.in_ok-row.row.items l.code c.in_ok-next.next
    c.in_ok-push.ensures.items c.in_ok-row.ensures l.invariant c.in_ok-next.ensures
