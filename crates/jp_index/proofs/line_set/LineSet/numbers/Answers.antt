-- One number more.
use Rattle.std.proofs.Common.{◌≡◌, ◌∙◌, ◌+◌, ◌*◌, ◌<◌, ◌≤◌, ◌++◌, ◌∷◌, [], ℕ, ap, arith, length, subst, sym}
use Rattle.std.proofs.lemmas.List.{take_all}
use Rattle.jp_model.specs.Numbered.{numbers_where}
use Rattle.jp_index.specs.LineSets.{bit_of, bits_of}
use Rattle.jp_index.proofs.SetBits.{is_set, length_bits, number_more, numbers_skip}
use Rattle.jp_index.proofs.line_set.LineSet.numbers.Goals as goal

pub loop-position-init : goal.loop-position-init
loop-position-init c =
    let words = c.args.self.now.words.items in
    let held = c.args.self.now.words.ok.0 in
    let position = c.next_position-position.result in
    let most : position ≤ 64 * length words = subst (λ ws. position ≤ 64 * length ws) c.deref.ensures.value c.next_position-position.ensures.within in
    record {
      within = omega (arith, c.len-end.ensures);
      there = λ l. subst (λ ws. position < 64 * length ws → bit_of ws position ≡ 1) c.deref.ensures.value c.next_position-position.ensures.there (omega (arith, c.len-end.ensures));
      numbers = c.new-numbers.ensures.items ∙ sym (numbers_skip words 0 position (omega arith) most (subst (λ ws. (k : ℕ) → 0 ≤ k → k < position → bit_of ws k ≡ 0) c.deref.ensures.value c.next_position-position.ensures.between));
    }

pub loop-position-preserved : goal.loop-position-preserved
loop-position-preserved c =
    let words = c.args.self.now.words.items in
    let held = c.args.self.now.words.ok.0 in
    let position = c.loop-position.position in
    let next = c.next_position-position-in-loop-position.result in
    let same = c.deref-in-loop-position.ensures.value in
    let most : next ≤ 64 * length words = subst (λ ws. next ≤ 64 * length ws) same c.next_position-position-in-loop-position.ensures.within in
    let more = number_more words position (omega (arith, c.len-end.ensures, c.loop-position-test.true)) (c.loop-position.invariant.there c.loop-position-test.true) in
    record {
      within = omega (arith, c.len-end.ensures);
      there = λ l. subst (λ ws. next < 64 * length ws → bit_of ws next ≡ 1) same c.next_position-position-in-loop-position.ensures.there (omega (arith, c.len-end.ensures));
      numbers = c.in_ok-push.ensures.items ∙ (ap (λ ns. ns ++ position ∷ []) c.loop-position.invariant.numbers
          ∙ (sym more ∙ sym (numbers_skip words (position + 1) next c.next_position-position-in-loop-position.ensures.from most (subst (λ ws. (k : ℕ) → position + 1 ≤ k → k < next → bit_of ws k ≡ 0) same c.next_position-position-in-loop-position.ensures.between))));
    }

pub returns : goal.returns
returns c =
    let l = length_bits c.args.self.now.words.items in
    let n = c.args.self.now.words.ok.0 in
    c.loop-position.invariant.numbers ∙ ap (numbers_where is_set 0) (take_all c.loop-position.position (bits_of c.args.self.now.words.items) (omega (arith, c.loop-position-test.false, c.len-end.ensures)))
