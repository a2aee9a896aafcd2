-- The block stands whole, and its last bytes are the last of it.
use Rattle.std.proofs.Common.{◌≡◌, ◌+◌, ◌-◌, ◌≤◌, ◌++◌, ℕ, List, length, drop, ◌∙◌, sym, ap, arith}
use Rattle.std.proofs.lemmas.List.{drop-drop, drop-append-le, length-drop, length-append}
use Rattle.jp_rows.proofs.short.RowEnd.put_last.Goals as goal

-- a block that was put has its room
has_room : (bytes block old : List ℕ) (start : ℕ) → length bytes ≡ 128 → start ≤ 128 → drop start bytes ≡ block ++ old → length block ≡ 16 → start + 16 ≤ 128
has_room bytes block old start all within e size =
    let long = ap length e in
    let left = length-drop start bytes in
    let parts = length-append block old in
    omega (arith, all, long, left, parts, size)

-- the last bytes from there on
last_put : (bytes block old : List ℕ) (start count : ℕ) → count ≤ length block → drop start bytes ≡ block ++ old → drop (start + count) bytes ≡ drop count block ++ old
last_put bytes block old start count few e = sym (drop-drop count start bytes) ∙ (ap (drop count) e ∙ drop-append-le count block old few)

pub invariant_of-self-inside : goal.invariant_of-self-inside
invariant_of-self-inside c =
    let is : drop c.self.inside.start c.self.inside.bytes ≡ c.args.block.now ++ c.args.self.now = c.self.view_is ∙ c.in_ok-put.ensures in
    let room = has_room c.self.inside.bytes c.args.block.now c.args.self.now c.self.inside.start c.self.told c.self.inside.within is c.requires.block in
    (omega (arith, room), tt)

pub returns : goal.returns
returns c =
    let is : drop c.self.inside.start c.self.inside.bytes ≡ c.args.block.now ++ c.args.self.now = c.self.view_is ∙ c.in_ok-put.ensures in
    last_put c.self.inside.bytes c.args.block.now c.args.self.now c.self.inside.start (16 - c.args.count) (omega (arith, c.requires.block)) is
