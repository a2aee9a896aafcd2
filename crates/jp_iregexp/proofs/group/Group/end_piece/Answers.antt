use Rattle.std.proofs.Common.{sym, ◌∙◌, ap}
use Rattle.jp_iregexp.proofs.Numbering.{held, piece_after}
use Rattle.jp_iregexp.proofs.group.Group.end_piece.Goals as goal

pub returns-in_ok-push-clause-numbers : goal.returns-in_ok-push-clause-numbers
returns-in_ok-push-clause-numbers c =
    let old = c.args.self.now in
    λ first. piece_after first old.branches.items old.pieces.items c.push.new.self.items c.take.new.self c.in-Some.piece c.take.ensures.after c.in_ok-push.ensures.items
    ∙ ap (held first old.branches.items old.pieces.items) (sym (sym c.take.ensures.value ∙ c.in-Some.is))
