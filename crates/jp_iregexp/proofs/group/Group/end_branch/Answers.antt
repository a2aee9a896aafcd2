use Rattle.std.proofs.Common.{◌≡◌, [], ◌∷◌, Global, Vec, None, ◌∙◌, ap}
use Rattle.jp_iregexp.specs.declared.node.Node.{Node}
use Rattle.jp_model.specs.Pattern.Tree.{empty}
use Rattle.jp_model.specs.Pattern.Groups.{with_atom, sequence_onto}
use Rattle.jp_iregexp.specs.Groups.{atom_of, latest_first}
use Rattle.jp_iregexp.proofs.Built.{branch_ended, same_group}
use Rattle.jp_iregexp.proofs.Numbering.{held, branch_after}
use Rattle.jp_iregexp.proofs.group.Group.end_branch.Goals as goal

pub returns-clause-group : goal.returns-clause-group
returns-clause-group c =
    let old = c.args.self.now in
    let i = c.in_ok-end_piece.ensures in
    let j = c.replace-pieces.ensures in
    let before = with_atom (atom_of old.atom) (latest_first old.pieces.items) in
    let pieces : latest_first c.replace-pieces.result.items ≡ before = ap (λ (v : Vec Node Global). latest_first v.items) j.value ∙ i.pieces in
    same_group (latest_first c.push.new.self.items) (sequence_onto before empty ∷ latest_first old.branches.items) (latest_first c.replace-pieces.new.dest.items) [] (atom_of c.end_piece.new.self.atom) None
    (branch_ended c.end_piece.new.self.branches.items c.push.new.self.items c.replace-pieces.result before c.in_ok-push.ensures.items pieces
    ∙ ap (λ (v : Vec Node Global). sequence_onto before empty ∷ latest_first v.items) i.branches)
    (ap (λ (v : Vec Node Global). latest_first v.items) j.after ∙ ap latest_first c.new.ensures.items)
    (ap atom_of i.atom)

pub returns-clause-numbers : goal.returns-clause-numbers
returns-clause-numbers c =
    let ended = c.end_piece.new.self in
    let i = c.in_ok-end_piece.ensures in
    let j = c.replace-pieces.ensures in
    λ first. branch_after first ended.branches.items c.push.new.self.items c.replace-pieces.new.dest.items c.replace-pieces.result ended.atom i.atom (ap (λ (v : Vec Node Global). v.items) j.after ∙ c.new.ensures.items) c.in_ok-push.ensures.items
    ∙ ap (λ (v : Vec Node Global). held first ended.branches.items v.items ended.atom) j.value
    ∙ i.numbers first
