-- One place more has moved.
use Rattle.std.proofs.Common.{◌≡◌, ◌∙◌, ◌<◌, ap, length, set, subst, sym, List, Some}
use Rattle.jp_survey.specs.Foldings.{is_over}
use Rattle.jp_survey.specs.Movings.{AreMoving, moved_link}
use Rattle.jp_survey.specs.Places.{link_at}
use Rattle.jp_survey.specs.declared.links.Link.{Link}
use Rattle.jp_survey.specs.declared.links.Step.{Step}
use Rattle.jp_survey.proofs.Moving.{place_moves}
use Rattle.jp_survey.proofs.folding.Moving.move_place.Goals as goal

pub returns-clause-moving : goal.returns-clause-moving
returns-clause-moving c names h m =
    let self = c.args.self.now in let links = c.args.links.now.links.keys in let told = self.told.links.keys in let next = self.folded.links.keys in let to = self.places.items in
    let link = c.in_ok-link in let place = c.in_ok-to.to in let parent = link.link.parent in
    let moved : Link = record { parent = link.link.parent; step = c.folded_step-step.result } in
    let is : moved ≡ moved_link (is_over c.args.fold told parent) parent (link_at links c.args.place) =
    ap (λ (s : Step). record { parent = c.in_ok-link.link.parent; step = s }) c.folded_step-step.ensures
    ∙ ap (λ (s : Step). moved_link (is_over c.args.fold c.args.self.now.told.links.keys c.in_ok-link.link.parent) c.in_ok-link.link.parent (record { parent = 0; step = s })) link.ensures.step in
    let new = c.in_ok-to.ensures.links in
    subst (λ (n : List Link). AreMoving c.args.fold names links told n (set to c.args.place (Some place))) (sym new)
    (place_moves c.args.fold names links told next to m h c.args.place link.ensures.within (c.is_left.ensures c.if-not-is_left.false).1 parent link.ensures.parent
    (c.requires.within (link_at links c.args.place).parent parent link.ensures.parent) moved is place
    (subst (λ (n : List Link). place < length n) new c.in_ok-to.ensures.within) (subst (λ (n : List Link). link_at n place ≡ moved) new c.in_ok-to.ensures.place))
