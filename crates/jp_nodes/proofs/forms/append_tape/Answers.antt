use Rattle.std.proofs.Common.{ℕ, ◌≡◌, ◌∙◌, ◌/◌, ◌++◌, length, ap, subst, arith}
use Rattle.jp_nodes.specs.Forms.{packed, IsAmong}
use Rattle.jp_nodes.proofs.Packing.{counted, packed_among}
use Rattle.jp_nodes.proofs.forms.append_tape.Goals as goal

pub overflow_cast-nodes : goal.overflow_cast-nodes
overflow_cast-nodes c =
    let few = (counted c.args.words.now.items c.args.line.now c.requires).1 in
    omega (arith, few, c.len.ensures)

pub returns-clause-tape : goal.returns-clause-tape
returns-clause-tape c =
    let words = c.args.words.now.items in
    let tapes = c.args.tapes.now.items in
    let added = c.in_ok-append_words.ensures.added ∙ ap (λ (bits : ℕ). tapes ++ packed bits words) c.half_bits.ensures in
    let count : length words ≡ c.len.result = omega (arith, c.len.ensures, c.args.words.now.ok) in
    subst (λ (count : ℕ). IsAmong c.append_words.new.tapes.items (length tapes) (count / 3) c.args.line.now) count
    (packed_among words c.args.line.now tapes c.append_words.new.tapes.items c.requires added)
