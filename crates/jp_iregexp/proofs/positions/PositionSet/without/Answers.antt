use Rattle.std.proofs.Common.{◌+◌, ◌<◌, ◌^◌, get_or, arith, rules}
use Rattle.jp_iregexp.proofs.Bits.{words_in, kept_in, without_sound, without_complete}
use Rattle.jp_iregexp.proofs.positions.PositionSet.without.Goals as goal

pub loop-i-preserved : goal.loop-i-preserved
loop-i-preserved c =
    let l = c.loop-i in
    let one = c.args.self.now in
    let word = get_or c.deref-word-items.result.now l.i 0 in
    let out = c.word.result in
    let small : out < 2 ^ 64 = search rules in
    let kept = kept_in one c.deref-word-items.result.now l.i c.deref-word-items.ensures.value in
    let e = c.in_ok-add_word.ensures in
    record {
      sound = without_sound (words_in one) (words_in c.args.other.now) (words_in l.set) (words_in c.add_word.new.self) (one.first + l.i) word out kept c.word.ensures small e.at e.rest l.invariant.sound;
      complete = λ q k h. without_complete (words_in one) (words_in c.args.other.now) (words_in l.set) (words_in c.add_word.new.self) (one.first + l.i) word out kept c.word.ensures small e.at e.rest l.invariant.complete q (omega (arith, k)) h;
    }
