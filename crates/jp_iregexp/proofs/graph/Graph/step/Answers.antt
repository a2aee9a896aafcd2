use Rattle.std.proofs.Common.{ℕ, ◌≡◌, ◌↔◌, ◌+◌, ◌<◌, Option, Some, None, length, get_or, slice_index, rules, sym, ◌∙◌, ap, subst}
use Rattle.jp_iregexp.specs.Waiting.{ReadsTo}
use Rattle.jp_iregexp.proofs.graph.Graph.step.Goals.{in-Some+in_ok-add, in_default}
use Rattle.jp_iregexp.proofs.Walking.{IsReading, reading_start, reading_step, reading_skip, reading_end}
use Rattle.jp_iregexp.proofs.graph.Graph.step.Goals as goal

pub loop-number-init : goal.loop-number-init
loop-number-init c = reading_start c.args.self.now.states.items c.args.waiting.now.list.items c.args.scalar c.args.next.now c.requires.marked c.requires.none c.requires.size

pub loop-number-preserved : goal.loop-number-preserved
loop-number-preserved c =
    let l = c.loop-number in
    let states = c.args.self.now.states.items in
    let list = c.args.waiting.now.list.items in
    let items = c.deref-number-items.result.now in
    let same : items ≡ list = c.deref-number-items.ensures.value in
    let number = get_or items l.number-index 0 in
    let is : number ≡ slice_index list l.number-index = ap (λ xs. get_or xs l.number-index 0) same in
    let inside : l.number-index < length list = subst (λ xs. l.number-index < length xs) same c.loop-number-test.true in
    elim c.match-behind.branch [
      | in-Some+in_ok-add w ↦ subst (λ n. IsReading states list c.args.scalar n (l.number-index + 1)) (sym w.next-is)
          (reading_step states list c.args.scalar l.next w.add.new.self l.number-index number w.in-Some.behind inside is
          (subst (λ (r : Option ℕ). (t : ℕ) → (r ≡ Some t) ↔ ReadsTo states c.args.scalar number t) w.in-Some.is c.behind.ensures) w.in_ok-add.ensures l.invariant)
      | in_default w ↦ subst (λ n. IsReading states list c.args.scalar n (l.number-index + 1)) (sym w.next-is)
          (let none : c.behind.result ≡ None = search rules in
          reading_skip states list c.args.scalar l.next l.number-index number is (λ t r. absurd (let some : None ≡ Some t = sym none ∙ (c.behind.ensures t).1 r in cc)) l.invariant)
    ]

pub returns : goal.returns
returns c =
    let l = c.loop-number in
    reading_end c.args.self.now.states.items c.args.waiting.now.list.items c.args.scalar l.next l.number-index (search rules) l.invariant
