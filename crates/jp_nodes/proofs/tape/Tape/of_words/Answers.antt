-- What is packed after nothing is the tape.
use Rattle.std.proofs.Common.{◌∙◌, ◌++◌, ℕ, List, ap}
use Rattle.jp_nodes.specs.Forms.{packed}
use Rattle.jp_nodes.proofs.Packing.{kept_alone}
use Rattle.jp_nodes.proofs.tape.Tape.of_words.Goals as goal

pub returns : goal.returns
returns c =
    let bits = c.half_bits-bits.result in
    let words = c.args.words.now.items in
    let added = c.in_ok-append_words.ensures.added ∙ ap (λ (tapes : List ℕ). tapes ++ packed bits words) c.new-tape.ensures.items in
    kept_alone words c.args.line.now c.append_words.new.tapes.items bits c.requires c.half_bits-bits.ensures added
