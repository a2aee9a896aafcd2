-- One word more, with no bit set.
use Rattle.std.proofs.Common.{◌≡◌, ◌∙◌, ◌+◌, ◌*◌, ◌≤◌, ◌^◌, ap, arith, length, sym}
use Rattle.std.specs.Prelude.{is_ok, max, vec_len}
use Rattle.std.proofs.lemmas.List.{length_push}
use Rattle.jp_index.specs.LineSets.{numbers_in}
use Rattle.jp_index.proofs.SetBits.{numbers_push, numbers_pushed}
use Rattle.jp_index.proofs.line_set.LineSet.reserve.Goals as goal

pub loop-self-preserved : goal.loop-self-preserved
loop-self-preserved c =
    let long : length c.push.new.self.items ≡ length c.loop-self.self.words.items + 1 = ap length c.in_ok-push.ensures.items ∙ length_push c.loop-self.self.words.items 0 in
    let held : vec_len c.loop-self.self.words ≡ length c.loop-self.self.words.items = c.loop-self.self.words.ok.0 in
    let little : 64 * length c.push.new.self.items ≤ max (64 * length c.args.self.now.words.items) (c.args.line + 64) = omega (arith, long, held, c.len.ensures, c.loop-self-test.true) in
    record {
      same = ap numbers_in c.in_ok-push.ensures.items ∙ (numbers_push c.loop-self.self.words.items ∙ c.loop-self.invariant.same);
      little = little;
    }

pub invariant_of-self-clause-few : goal.invariant_of-self-clause-few
invariant_of-self-clause-few c =
    let few : length c.push.new.self.items ≤ 2 ^ 26 = omega (arith, c.push.ensures.upper_bound, c.push.new.self.ok.0, c.len.ensures, c.loop-self-test.true, c.ranges.line.fits) in
    few

pub invariant_of-self-clause-counted : goal.invariant_of-self-clause-counted
invariant_of-self-clause-counted c = c.loop-self.self.counted ∙ ap length (sym (numbers_pushed (is_ok c.push.result) c.loop-self.self.words.items c.push.new.self.items c.push.ensures.items))
