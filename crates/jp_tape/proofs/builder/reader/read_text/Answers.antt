use Rattle.std.proofs.Common.{None, [], ℕ, List, length, refl, ap, arith}
use Rattle.jp_tape.proofs.Ahead.{all_ahead, begins_first}
use Rattle.jp_tape.proofs.More.{there}
use Rattle.jp_tape.proofs.Steps.{start_leads}
use Rattle.jp_tape.proofs.builder.reader.read_text.Goals as goal

pub loop-inside-init : goal.loop-inside-init
loop-inside-init g c =
    let line = c.args.line.now in
    let b = c.requires.begun in
    let v = c.in_ok-at.ensures in
    let ms = c.args.reader.now.marks.now in
    let w = there line ms 0 _ (omega arith) (begins_first line) (all_ahead line ms b.marks_are) v.begins.some v.value in
    let enough = c.requires.told.1 in
    let passed = ap (λ (ms : List ℕ). length ms) b.marks_are in
    record {
      next = record {
        frames = [];
        own = None;
        roomy = record { stack = b.stack; capacity = b.capacity; passed = omega (arith, passed); closed = λ f. absurd (omega (arith, f)) };
        shallow = omega arith;
        suits = refl;
        room = c.requires.told.0;
        enough = omega (arith, enough);
        told = c.requires.told.2;
        leads = start_leads line _ w.white w.stops;
        inside = w.inside;
        ahead = w.next;
        begins = v.begins;
      };
      limit = refl;
      lender = refl;
    }
