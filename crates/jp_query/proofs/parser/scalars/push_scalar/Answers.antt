use Rattle.std.proofs.Common.{string_bytes}
use Rattle.std.proofs.lemmas.Str.{IsUtf8-string_bytes}
use Rattle.jp_query.proofs.Texts.{pushed}
use Rattle.jp_query.proofs.parser.scalars.push_scalar.Goals as goal

pub returns : goal.returns
returns c = pushed c.push.result (string_bytes c.push.new.self) (string_bytes c.args.text.now) c.args.scalar c.push.ensures.bytes (IsUtf8-string_bytes c.args.text.now) c.ranges.scalar.0
