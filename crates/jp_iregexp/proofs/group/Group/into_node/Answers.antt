use Rattle.std.proofs.Common.{◌∙◌, ap}
use Rattle.jp_model.specs.Pattern.Tree.{never}
use Rattle.jp_model.specs.Pattern.Groups.{Group, choice_onto}
use Rattle.jp_iregexp.proofs.Built.{choice_built, no_parts, no_atom}
use Rattle.jp_iregexp.proofs.Numbering.{choice_after}
use Rattle.jp_iregexp.proofs.group.Group.into_node.Goals as goal

pub returns-clause-tree : goal.returns-clause-tree
returns-clause-tree c = choice_built c.end_branch.new.self.branches ∙ ap (λ (g : Group). choice_onto g.branches never) c.in_ok-end_branch.ensures.group

pub returns-clause-numbers : goal.returns-clause-numbers
returns-clause-numbers c =
    let ended = c.end_branch.new.self in
    let i = c.in_ok-end_branch.ensures in
    let empty = no_parts ended.pieces.items (ap (λ (g : Group). g.pieces) i.group) in
    let none = no_atom ended.atom (ap (λ (g : Group). g.atom) i.group) in
    λ first. choice_after first ended empty none ∙ i.numbers first
