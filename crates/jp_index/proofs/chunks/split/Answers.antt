-- Two halves.
use Rattle.std.proofs.Common.{◌≡◌, ◌∙◌, ◌++◌, ◌-◌, length, take, drop, ap, ap₂, arith, ℕ, List, length-drop, if◌then◌else◌}
use Rattle.std.proofs.lemmas.List.{take_all, take-append-drop}
use Rattle.jp_index.proofs.Flat.{long}
use Rattle.jp_index.proofs.chunks.split.Goals as goal

pub returns-clause-lines : goal.returns-clause-lines
returns-clause-lines c =
    let lines = c.args.chunk.now.items in
    let from = c.deref.result.now in
    let other = take (length from - 256) (drop 256 from) in
    let same : other ≡ drop 256 lines = take_all (length from - 256) (drop 256 from) (let l = length-drop 256 from in omega arith) ∙ ap (drop 256) c.deref.ensures.value in
    let none : length c.args.upper.now.items ≡ 0 = ap length c.requires.spare.no_line in
    let half : length other ≡ length lines - 256 = ap length same ∙ length-drop 256 lines in
    let n = long c.args.chunk.now in
    let m = long c.args.upper.now in
    let later : c.extend_from_slice.new.self.items ≡ drop 256 lines =
    c.extend_from_slice.ensures.items
    ∙ (ap (λ b. if b then c.args.upper.now.items ++ other else c.args.upper.now.items) (c.extend_from_slice.ensures.succeeds (omega (arith, c.requires.full, c.requires.spare.most)))
    ∙ ap₂ (λ (a b : List ℕ). a ++ b) c.requires.spare.no_line same) in
    ap₂ (λ (a b : List ℕ). a ++ b) c.truncate.ensures.items later ∙ take-append-drop 256 lines
