use Rattle.std.proofs.Common.{option_and_then, sym, ◌∙◌, ap}
use Rattle.jp_iregexp.specs.Numbers.{next_of}
use Rattle.jp_iregexp.proofs.Numbering.{held, noted_after, repeated_after}
use Rattle.jp_iregexp.proofs.group.Group.add_count.Goals as goal

pub returns-in_ok-push-in-Some-clause-numbers : goal.returns-in_ok-push-in-Some-clause-numbers
returns-in_ok-push-in-Some-clause-numbers c =
    let old = c.args.self.now in
    let atom = c.in-Some.atom in
    let number = c.args.number in
    λ _ first. repeated_after first number old.branches.items old.pieces.items c.push.new.self.items c.take.new.self atom _ c.take.ensures.after c.in_ok-push-in-Some.ensures.items
    (λ due. noted_after due number _ atom c.common_length-length.result c.in_ok-new-in-Some.ensures.ok c.common_length-length.ensures)
    ∙ ap (λ a. option_and_then (λ due. next_of due number) (held first old.branches.items old.pieces.items a)) (sym (sym c.take.ensures.value ∙ c.in-Some.is))
