-- The line stands where it was found, with its marks.
use Rattle.std.proofs.Common.{◌≡◌, ◌∙◌, ap, subst, arith, length}
use Rattle.std.specs.Prelude.{Some}
use Rattle.jp_model.specs.Json.Places.{bytes_between}
use Rattle.jp_lines.specs.Stored.{IsTold, IsTapeAmong}
use Rattle.jp_lines.proofs.LinesRead.{found_bytes, found_marks, line_within, line_text}
use Rattle.jp_lines.proofs.loading.read_line.Goals as goal

pub judge-requires-clause-marks : goal.judge-requires-clause-marks
judge-requires-clause-marks c =
    let text = bytes_between c.args.bytes.now c.args.piece.start c.args.piece.end in
    let law = c.lines_are_those_of_the_text.ensures in
    found_marks c.args.framing text _ c.args.index _ c.requires.all.lines c.line-line.ensures (law.bytes c.args.framing text) (law.marks c.args.framing text)

pub overflow_add-span : goal.overflow_add-span
overflow_add-span c =
    let text = bytes_between c.args.bytes.now c.args.piece.start c.args.piece.end in
    let within = line_within c.args.framing c.args.bytes.now c.args.piece.start c.args.piece.end _ c.args.index _ c.requires.all.lines c.line-line.ensures
    (c.lines_are_those_of_the_text.ensures.within c.args.framing text) c.requires.order c.requires.last in
    omega (arith, within, c.requires.last, c.requires.room)

pub overflow_add-span-2 : goal.overflow_add-span-2
overflow_add-span-2 c =
    let text = bytes_between c.args.bytes.now c.args.piece.start c.args.piece.end in
    let within = line_within c.args.framing c.args.bytes.now c.args.piece.start c.args.piece.end _ c.args.index _ c.requires.all.lines c.line-line.ensures
    (c.lines_are_those_of_the_text.ensures.within c.args.framing text) c.requires.order c.requires.last in
    omega (arith, within, c.requires.last, c.requires.room)

pub returns-clause-text : goal.returns-clause-text
returns-clause-text c =
    let text = bytes_between c.args.bytes.now c.args.piece.start c.args.piece.end in
    let law = c.lines_are_those_of_the_text.ensures in
    found_bytes c.args.framing text _ c.args.index _ c.requires.all.lines c.line-line.ensures (law.bytes c.args.framing text)
    ∙ ap Some (line_text c.args.framing c.args.bytes.now c.args.piece.start c.args.piece.end _ c.args.index _ c.requires.all.lines c.line-line.ensures (law.within c.args.framing text) c.requires.order c.requires.last)

pub returns-clause-read : goal.returns-clause-read
returns-clause-read c =
    let text = bytes_between c.args.bytes.now c.args.piece.start c.args.piece.end in
    let law = c.lines_are_those_of_the_text.ensures.within c.args.framing text in
    let within = line_within c.args.framing c.args.bytes.now c.args.piece.start c.args.piece.end _ c.args.index _ c.requires.all.lines c.line-line.ensures law c.requires.order c.requires.last in
    let same = line_text c.args.framing c.args.bytes.now c.args.piece.start c.args.piece.end _ c.args.index _ c.requires.all.lines c.line-line.ensures law c.requires.order c.requires.last in
    let status = c.in_ok-judged.judged.status in
    let nodes = c.in_ok-judged.judged.nodes in
    let own = bytes_between text c.line-line.result.span.start c.line-line.result.span.end in
    let start : length c.args.tapes.now.items ≡ c.len-tape.result = omega (arith, c.len-tape.ensures, c.args.tapes.now.ok) in
    record {
      within = (omega (arith, within), omega (arith, within, c.requires.last));
      told = subst (IsTold c.args.framing status) same c.in_ok-judged.ensures.judged.0;
      tape = subst (IsTapeAmong status c.judge.new.tapes.items c.len-tape.result nodes) same
          (subst (λ start. IsTapeAmong status c.judge.new.tapes.items start nodes own) start c.in_ok-judged.ensures.judged.1);
    }
