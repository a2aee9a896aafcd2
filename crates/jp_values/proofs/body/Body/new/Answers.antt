use Rattle.jp_strings.proofs.Texts.{text_of_body}
use Rattle.jp_values.proofs.body.Body.new.Goals as goal

pub invariant_of-result : goal.invariant_of-result
invariant_of-result c = record { is_text = text_of_body c.args.bytes.now c.requires }
