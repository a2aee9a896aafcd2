-- No line in front of the first of these chunks, and none after the last, compares so.
use Rattle.std.proofs.Common.{◌≡◌, ◌-◌, ◌≤◌, All, filter, take, drop, true, false, arith, subst, IfOk}
use Rattle.jp_syntax.specs.View.{op_view}
use Rattle.jp_index.specs.ByKey.{Ascend}
use Rattle.jp_index.specs.Cells.{key_at}
use Rattle.jp_index.specs.Chunks.{lines_in}
use Rattle.jp_index.specs.Edges.{in_front, is_between}
use Rattle.jp_index.proofs.Flat.{all_in_middle, middle_ascends}
use Rattle.jp_index.proofs.chunks.Order.run.Goals as goal

pub returns : goal.returns
returns c = λ h.
    let keys = key_at c.args.cells.now in
    let key = c.args.key.now in
    let op = op_view c.args.op in
    let chunks = c.args.self.now.chunks.items in
    let from = c.min.result in
    let to = c.chunks_in_front-end.result in
    let l : from ≤ to = omega (arith, c.min.ensures) in
    let first : from ≤ c.chunks_in_front.result - 1 = omega (arith, c.min.ensures, c.saturating_sub-start.ensures) in
    let before : All (λ a. in_front c.start.result (keys a) key ≡ true) (lines_in (take from chunks)) =
    subst (λ cs. Ascend keys (lines_in cs) → All (λ a. in_front c.start.result (keys a) key ≡ true) (lines_in (take from cs))) c.deref.ensures.value (λ g. c.chunks_in_front.ensures.before g from first) h in
    let behind : All (λ a. in_front c.end.result (keys a) key ≡ false) (lines_in (drop to chunks)) =
    subst (λ cs. Ascend keys (lines_in cs) → All (λ a. in_front c.end.result (keys a) key ≡ false) (lines_in (drop to cs))) c.deref-2.ensures.value c.chunks_in_front-end.ensures.behind h in
    let runs = subst (λ cs. Ascend keys (lines_in (take (to - from) (drop from cs))) → IfOk c.runs_of.result (λ lines. lines.items ≡ filter (λ a. is_between op (keys a) key) (lines_in (take (to - from) (drop from cs)))))
    c.deref-3.ensures.value c.runs_of.ensures (middle_ascends keys op key chunks from to l h) in
    subst (λ ls. IfOk c.runs_of.result (λ lines. lines.items ≡ ls))
    (all_in_middle keys op key chunks from to l
    (subst (λ edge. All (λ a. in_front edge (keys a) key ≡ true) (lines_in (take from chunks))) c.start.ensures before)
    (subst (λ edge. All (λ a. in_front edge (keys a) key ≡ false) (lines_in (drop to chunks))) c.end.ensures behind))
    runs
