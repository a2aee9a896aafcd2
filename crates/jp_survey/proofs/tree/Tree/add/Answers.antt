-- A link is added where it is new.
use Rattle.std.proofs.Common.{◌<◌, ◌≤◌, arith, inl, inr, length, refl}
use Rattle.jp_survey.proofs.Seen.{link_with}
use Rattle.jp_survey.proofs.Trees.{link_grows, link_leads}
use Rattle.jp_survey.proofs.tree.Tree.add.Goals as goal

pub returns-in_ok-push-clause-tree : goal.returns-in_ok-push-clause-tree
returns-in_ok-push-clause-tree c =
    let longer : length c.args.self.now.links.links.keys < length c.add.new.self.links.keys = omega arith in
    (link_grows c.args.self.now (record c.args.self.now { links = c.add.new.self; counts = c.add_place.new.self; followers = c.push.new.self }) c.requires.tree (record { parent = c.args.parent; step = c.args.step }) c.requires.leads refl c.in_ok-place.ensures.links (inr (longer, c.in_ok-add_place.ensures)) refl refl refl (c.in_ok-place.ensures.linked c.requires.tree.linked c.requires.leads.within)).0

pub returns-in_ok-push-clause-grows : goal.returns-in_ok-push-clause-grows
returns-in_ok-push-clause-grows c =
    let longer : length c.args.self.now.links.links.keys < length c.add.new.self.links.keys = omega arith in
    (link_grows c.args.self.now (record c.args.self.now { links = c.add.new.self; counts = c.add_place.new.self; followers = c.push.new.self }) c.requires.tree (record { parent = c.args.parent; step = c.args.step }) c.requires.leads refl c.in_ok-place.ensures.links (inr (longer, c.in_ok-add_place.ensures)) refl refl refl (c.in_ok-place.ensures.linked c.requires.tree.linked c.requires.leads.within)).1

pub returns-in_ok-push-clause-place : goal.returns-in_ok-push-clause-place
returns-in_ok-push-clause-place c =
    let longer : length c.args.self.now.links.links.keys < length c.add.new.self.links.keys = omega arith in
    link_leads c.args.self.now (record c.args.self.now { links = c.add.new.self; counts = c.add_place.new.self; followers = c.push.new.self }) c.requires.tree (record { parent = c.args.parent; step = c.args.step }) c.requires.leads refl c.in_ok-place.ensures.links (inr (longer, c.in_ok-add_place.ensures)) refl refl refl (c.in_ok-place.ensures.linked c.requires.tree.linked c.requires.leads.within) c.in_ok-place.place c.in_ok-place.ensures.within c.in_ok-place.ensures.place

pub returns-in_ok-push-clause-path : goal.returns-in_ok-push-clause-path
returns-in_ok-push-clause-path c =
    link_with c.args.self.now (record c.args.self.now { links = c.add.new.self; counts = c.add_place.new.self; followers = c.push.new.self }) c.requires.tree (record { parent = c.args.parent; step = c.args.step }) c.requires.leads refl c.in_ok-place.ensures.links

pub returns-else-len-before-clause-tree : goal.returns-else-len-before-clause-tree
returns-else-len-before-clause-tree c =
    let shorter : length c.add.new.self.links.keys ≤ length c.args.self.now.links.links.keys = omega arith in
    (link_grows c.args.self.now (record c.args.self.now { links = c.add.new.self }) c.requires.tree (record { parent = c.args.parent; step = c.args.step }) c.requires.leads refl c.in_ok-place.ensures.links (inl (shorter, refl)) refl refl refl (c.in_ok-place.ensures.linked c.requires.tree.linked c.requires.leads.within)).0

pub returns-else-len-before-clause-grows : goal.returns-else-len-before-clause-grows
returns-else-len-before-clause-grows c =
    let shorter : length c.add.new.self.links.keys ≤ length c.args.self.now.links.links.keys = omega arith in
    (link_grows c.args.self.now (record c.args.self.now { links = c.add.new.self }) c.requires.tree (record { parent = c.args.parent; step = c.args.step }) c.requires.leads refl c.in_ok-place.ensures.links (inl (shorter, refl)) refl refl refl (c.in_ok-place.ensures.linked c.requires.tree.linked c.requires.leads.within)).1

pub returns-else-len-before-clause-place : goal.returns-else-len-before-clause-place
returns-else-len-before-clause-place c =
    let shorter : length c.add.new.self.links.keys ≤ length c.args.self.now.links.links.keys = omega arith in
    link_leads c.args.self.now (record c.args.self.now { links = c.add.new.self }) c.requires.tree (record { parent = c.args.parent; step = c.args.step }) c.requires.leads refl c.in_ok-place.ensures.links (inl (shorter, refl)) refl refl refl (c.in_ok-place.ensures.linked c.requires.tree.linked c.requires.leads.within) c.in_ok-place.place c.in_ok-place.ensures.within c.in_ok-place.ensures.place

pub returns-else-len-before-clause-path : goal.returns-else-len-before-clause-path
returns-else-len-before-clause-path c =
    link_with c.args.self.now (record c.args.self.now { links = c.add.new.self }) c.requires.tree (record { parent = c.args.parent; step = c.args.step }) c.requires.leads refl c.in_ok-place.ensures.links
