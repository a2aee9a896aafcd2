-- One bit is another.
use Rattle.std.proofs.Common.{◌≡◌, ◌∙◌, ◌+◌, ◌-◌, ap, arith, cond, false, length, set}
use Rattle.jp_model.specs.Numbered.{numbers_where}
use Rattle.jp_index.specs.LineSets.{bits_of, numbers_in}
use Rattle.jp_index.proofs.SetBits.{at_most_one, byte_is, count_set, is_set, length_bits, number_set, was_set}
use Rattle.jp_index.proofs.Numbered.{numbers_few}
use Rattle.jp_index.proofs.line_set.LineSet.set.Goals as goal

pub overflow_sub-count : goal.overflow_sub-count
overflow_sub-count c =
    let words = c.args.self.now.words.items in
    let counts = count_set words c.args.line false c.requires in
    let was = was_set c.from.result c.has_bit.result c.deref.result.now words c.args.line c.from.ensures c.has_bit.ensures c.deref.ensures.value in
    omega (arith, c.args.self.now.counted)

pub overflow_add-count : goal.overflow_add-count
overflow_add-count c =
    let few = numbers_few is_set 0 (bits_of c.args.self.now.words.items) in
    let all = length_bits c.args.self.now.words.items in
    let one = at_most_one c.args.is_in in
    let is : c.from-2.result ≡ cond c.args.is_in 1 0 = c.from-2.ensures ∙ byte_is c.args.is_in in
    omega (arith, c.args.self.now.counted, c.args.self.now.few)

pub invariant_of-self-clause-counted : goal.invariant_of-self-clause-counted
invariant_of-self-clause-counted c =
    let words = c.args.self.now.words.items in
    let least = count_set words c.args.line false c.requires in
    let counts = count_set words c.args.line c.args.is_in c.requires in
    let was = was_set c.from.result c.has_bit.result c.deref.result.now words c.args.line c.from.ensures c.has_bit.ensures c.deref.ensures.value in
    let is : c.from-2.result ≡ cond c.args.is_in 1 0 = c.from-2.ensures ∙ byte_is c.args.is_in in
    let now : length (numbers_in c.set_bit.new.words.items) ≡ length (numbers_where is_set 0 (set (bits_of words) c.args.line (cond c.args.is_in 1 0))) = ap (λ bits. length (numbers_where is_set 0 bits)) c.set_bit.ensures.bits in
    let counted : c.args.self.now.count - c.from.result + c.from-2.result ≡ length (numbers_in c.set_bit.new.words.items) = omega (arith, c.args.self.now.counted) in
    counted

pub returns-clause-lines : goal.returns-clause-lines
returns-clause-lines c = ap (numbers_where is_set 0) c.set_bit.ensures.bits ∙ number_set c.args.self.now.words.items c.args.line c.args.is_in c.requires
