-- The spelling of a number is ASCII.
use Rattle.std.proofs.Common.{◌≡◌, ◌∙◌, [], ap, append-nil, encode_utf8_all, sym, true}
use Rattle.jp_model.specs.Meaning.Paths.{literal_text}
use Rattle.jp_model.specs.Query.Syntax.{number_literal}
use Rattle.jp_syntax.specs.Sound.{is_sound}
use Rattle.jp_syntax.specs.View.{literal_view}
use Rattle.jp_plan.proofs.Spelled.{number_encoded}
use Rattle.jp_plan.proofs.Walks.{ends}
use Rattle.jp_plan.proofs.text.push_literal.Goals as goal

pub returns-in-Number : goal.returns-in-Number
returns-in-Number c =
    let sound : is_sound (number_literal c.in-Number.spelling.items) ≡ true = ap (λ l. is_sound (literal_view l)) (sym c.in-Number.is) ∙ c.requires in
    let text : encode_utf8_all (literal_text (literal_view c.args.literal.now)) ≡ c.deref.result.now =
    ap (λ l. encode_utf8_all (literal_text (literal_view l))) c.in-Number.is ∙ (number_encoded c.in-Number.spelling.items sound ∙ sym c.deref.ensures.value) in
    ends c.extend_from_slice-in-Number.result c.args.out.now.items c.args.out.now.items c.extend_from_slice-in-Number.new.self.items _ [] c.deref.result.now
    c.extend_from_slice-in-Number.ensures.items (sym (append-nil c.args.out.now.items)) text
