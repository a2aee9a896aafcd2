use Rattle.std.proofs.Common.{ℕ, ◌+◌, ◌<◌, ◌≤◌, length, IsTrue, rules, arith}
use Rattle.std.proofs.lemmas.List.{get_or_read}
use Rattle.jp_model.specs.Pattern.Classes.{in_class}
use Rattle.jp_iregexp.specs.Nodes.{class_of}
use Rattle.jp_iregexp.specs.Positions.{Has}
use Rattle.jp_iregexp.proofs.OnePass.{begin_read, runs_start_same, runs_start_none, runs_insert, runs_skip, runs_past, runs_end, runs_all}
use Rattle.jp_iregexp.proofs.runs.run_ends.Goals as goal
use Rattle.jp_iregexp.proofs.runs.run_ends.Goals.{then-least-eq0+in_ok-out, else-least-eq0, then-start-least+in_ok-insert, else-start-least}

pub loop-p-init : goal.loop-p-init
loop-p-init c =
    let P = λ (s : ℕ). IsTrue (in_class (class_of c.args.class.now) s) in
    let text = c.args.text.now in
    let starts = c.args.starts.now in
    let first = c.in-Some.ensures.first in
    let low : (p : ℕ) → Has starts p → c.in-Some.first ≤ p = λ p h. first.first p (omega arith) h in
    elim c.if-least-eq0.branch [
      | then-least-eq0+in_ok-out w ↦
          rw w.out-is (runs_start_same P text starts w.in_ok-out.out c.args.least c.min-most.result c.in-Some.first c.requires.over first.has low w.if-least-eq0.true w.in_ok-out.ensures)
      | else-least-eq0 w ↦
          rw w.out-is (runs_start_none P text starts w.empty-out.result c.args.least c.min-most.result c.in-Some.first c.requires.over first.has low (let some = w.if-least-eq0.false in omega (arith, some)) w.empty-out.ensures)
    ]

pub returns-in_default-leading : goal.returns-in_default-leading
returns-in_default-leading c =
    let P = λ (s : ℕ). IsTrue (in_class (class_of c.args.class.now) s) in
    let text = c.args.text.now in
    let starts = c.args.starts.now in
    let l = c.loop-p in
    let n = l.p in
    let begin = c.begin_at-begin.result in
    let inside : n < length text = search rules in
    let begins = begin_read (class_of c.args.class.now) text starts n l.begin begin c.index-text-p.result c.contains.result inside (get_or_read text n c.index-text-p.result inside c.index-text-p.is 0) c.contains.ensures c.begin_at-begin.ensures.passes c.begin_at-begin.ensures.fails l.invariant.begin_is in
    runs_all P text starts l.out c.args.least c.min-most.result (c.args.least + c.args.further) n l.begin l.start (let least = c.min-most.ensures in let sum = c.saturating_add.ensures in omega (arith, least, sum))
    (λ count few within. let least = c.min-most.ensures in let sum = c.saturating_add.ensures in omega (arith, least, sum, few, within))
    (runs_past P text starts l.out c.args.least c.min-most.result n l.begin begin l.start inside l.invariant begins (c.in_default-leading.ensures.none (search rules)))
    l.invariant

pub loop-p-preserved : goal.loop-p-preserved
loop-p-preserved c =
    let P = λ (s : ℕ). IsTrue (in_class (class_of c.args.class.now) s) in
    let text = c.args.text.now in
    let starts = c.args.starts.now in
    let l = c.loop-p in
    let n = l.p in
    let begin = c.begin_at-begin.result in
    let inside : n < length text = search rules in
    let begins = begin_read (class_of c.args.class.now) text starts n l.begin begin c.index-text-p.result c.contains.result inside (get_or_read text n c.index-text-p.result inside c.index-text-p.is 0) c.contains.ensures c.begin_at-begin.ensures.passes c.begin_at-begin.ensures.fails l.invariant.begin_is in
    let next = c.in-Some-leading.next in
    let found = c.in-Some-leading.ensures in
    elim c.if-start-least.branch [
      | then-start-least+in_ok-insert w ↦
          (let i = w.in_ok-insert.ensures in
          rw w.out-is (runs_insert P text starts l.out c.args.least c.min-most.result n l.begin begin l.start inside l.invariant begins next found.next.0 found.next.1 found.next.2 found.first w.insert.new.self w.if-start-least.true i.same i.old i.new))
      | else-start-least w ↦
          (rw w.out-is (runs_skip P text starts l.out c.args.least c.min-most.result n l.begin begin l.start inside l.invariant begins next found.next.0 found.next.1 found.next.2 found.first (let short = w.if-start-least.false in omega (arith, short))))
    ]

pub returns : goal.returns
returns c =
    let P = λ (s : ℕ). IsTrue (in_class (class_of c.args.class.now) s) in
    let l = c.loop-p in
    let text = c.args.text.now in
    runs_all P text c.args.starts.now l.out c.args.least c.min-most.result (c.args.least + c.args.further) l.p l.begin l.start (let least = c.min-most.ensures in let sum = c.saturating_add.ensures in omega (arith, least, sum))
    (λ count few within. let least = c.min-most.ensures in let sum = c.saturating_add.ensures in omega (arith, least, sum, few, within))
    (λ q p count later h few r. runs_end P text l.p (let done = c.loop-p-test.false in omega (arith, done)) q p count later r) l.invariant
