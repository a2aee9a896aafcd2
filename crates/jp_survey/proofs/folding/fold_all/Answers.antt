-- All places have moved, and then no object is to be folded.
use Rattle.std.proofs.Common.{◌∙◌, ℕ, List, length, subst}
use Rattle.jp_survey.specs.Counts.{Joined}
use Rattle.jp_survey.specs.Movings.{HaveMoved}
use Rattle.jp_survey.specs.Places.{ArePlaces}
use Rattle.jp_survey.proofs.Justified.{justified_moved}
use Rattle.jp_survey.proofs.Moving.{have_moved}
use Rattle.jp_survey.proofs.NoneOver.{apart_where_none}
use Rattle.jp_survey.proofs.Refolding.{refolds_from}
use Rattle.jp_survey.proofs.folding.fold_all.Goals as goal

moved : (c : goal.After-drop-order-2) (names : List (List ℕ)) → ArePlaces names c.args.links.now.links.keys
    → HaveMoved c.args.fold names c.args.links.now.links.keys c.move_all.new.self.told.links.keys c.move_all.new.self.folded.links.keys c.in_ok-places.places.items
moved c names h =
    let links = c.args.links.now.links.keys in let now = c.move_all.new.self in
    have_moved c.args.fold names links now.told.links.keys now.folded.links.keys now.places.items c.in_ok-places.places.items h
    (c.in_ok-move_all.ensures.moving names h (c.in_ok-moving.ensures.moving c.args.fold names links h c.len.ensures)) (c.in_ok-places.ensures ∙ c.deref-2.ensures.value)

pub returns-clause-refolds : goal.returns-clause-refolds
returns-clause-refolds c names h =
    let links = c.args.links.now.links.keys in let now = c.move_all.new.self in let to = c.in_ok-places.places.items in
    let old = c.args.counts.now.places.items in let new = c.in_ok-counts.counts.places.items in
    refolds_from c.args.fold names links now.told.links.keys now.folded.links.keys to old new h (moved c names h)
    (subst (λ (ps : List ℕ). Joined old new ps (length old)) c.deref-3.ensures.value c.in_ok-counts.ensures.joined) c.requires.counted (c.in_ok-counts.ensures.many ∙ c.len-2.ensures)

pub returns-clause-apart : goal.returns-clause-apart
returns-clause-apart c names h =
    apart_where_none c.args.fold names c.move_all.new.self.folded.links.keys (moved c names h).places (c.has_over.ensures c.if-has_over.false)

pub returns-clause-justified : goal.returns-clause-justified
returns-clause-justified c names h =
    justified_moved c.args.fold names c.args.links.now.links.keys c.move_all.new.self.told.links.keys c.move_all.new.self.folded.links.keys c.in_ok-places.places.items h (moved c names h)
