use Rattle.std.proofs.Common.{◌/◌, ◌%◌, inl, inr, arith}
use Rattle.jp_iregexp.specs.Words.{word_of}
use Rattle.jp_iregexp.proofs.Bits.{put_old, put_there, put_new, next_or_below}
use Rattle.jp_iregexp.proofs.positions.PositionSet.all.Goals as goal

pub loop-w-preserved : goal.loop-w-preserved
loop-w-preserved c =
    let l = c.loop-w in
    let old = l.set in
    let new = c.add_word.new.self in
    let bits = c.first_bits.result in
    let b = c.first_bits.ensures in
    let e = c.in_ok-add_word.ensures in
    let inside = c.loop-w-test.true in
    record {
      over = record {
        within = λ q h. elim (put_new (word_of old.first old.words.items) (word_of new.first new.words.items) l.w bits e.at e.rest q h) [
          | inl o ↦ l.invariant.over.within q o
          | inr n ↦ (let word = n.0 in let last = b.within (q % 64) (omega arith) n.1 in omega (arith, word, last, inside))
        ];
      };
      each = λ q k within. elim (next_or_below (q / 64) l.w k) [
        | inl k ↦ put_old (word_of old.first old.words.items) (word_of new.first new.words.items) l.w bits e.at e.rest q (l.invariant.each q k within)
        | inr k ↦ put_there (word_of old.first old.words.items) (word_of new.first new.words.items) l.w bits e.at e.rest q k (b.each (q % 64) (omega arith) (omega (arith, k, within, inside)))
      ];
    }
