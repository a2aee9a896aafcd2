-- Digits are ASCII.
use Rattle.std.proofs.Common.{◌≡◌, ◌∙◌, [], append-nil, decimal, encode_utf8_all, sym}
use Rattle.std.proofs.lemmas.Fmt.{IsAscii-decimal}
use Rattle.std.proofs.lemmas.Str.{encodes-IsAscii}
use Rattle.jp_plan.proofs.Walks.{ends}
use Rattle.jp_plan.proofs.text.push_decimal.Goals as goal

pub returns : goal.returns
returns c =
    let text : encode_utf8_all (decimal c.args.number) ≡ c.as_bytes.result.now =
    encodes-IsAscii (decimal c.args.number) (IsAscii-decimal c.args.number c.ranges.number.fits) ∙ (sym c.format.ensures.text ∙ sym c.as_bytes.ensures.value) in
    ends c.extend_from_slice.result c.args.out.now.items c.args.out.now.items c.extend_from_slice.new.self.items _ [] c.as_bytes.result.now c.extend_from_slice.ensures.items (sym (append-nil c.args.out.now.items)) text
