use Rattle.std.proofs.Common.{◌+◌, get_or, arith}
use Rattle.jp_iregexp.proofs.Bits.{words_in, kept_in, add_old, add_added, add_new}
use Rattle.jp_iregexp.proofs.positions.PositionSet.add_all.Goals as goal

pub loop-i-preserved : goal.loop-i-preserved
loop-i-preserved c =
    let l = c.loop-i in
    let other = c.args.other.now in
    let word = get_or c.deref-word-items.result.now l.i 0 in
    let kept = kept_in other c.deref-word-items.result.now l.i c.deref-word-items.ensures.value in
    let e = c.in_ok-add_word.ensures in
    record {
      old = add_old (words_in c.args.self.now) (words_in other) (words_in l.self) (words_in c.add_word.new.self) (other.first + l.i) word kept e.at e.rest l.invariant.old;
      added = λ q k h. add_added (words_in c.args.self.now) (words_in other) (words_in l.self) (words_in c.add_word.new.self) (other.first + l.i) word kept e.at e.rest l.invariant.added q (omega (arith, k)) h;
      new = add_new (words_in c.args.self.now) (words_in other) (words_in l.self) (words_in c.add_word.new.self) (other.first + l.i) word kept e.at e.rest l.invariant.new;
    }
