use Rattle.std.proofs.lemmas.Bool.{iff_false}
use Rattle.jp_strings.proofs.Answers.{no_text}
use Rattle.jp_strings.proofs.checks.test_body.Goals as goal

pub returns-then-not-is_utf8 : goal.returns-then-not-is_utf8
returns-then-not-is_utf8 c points spelled = iff_false c.is_utf8.ensures c.if-not-is_utf8.true (no_text c.args.body.now points spelled)
