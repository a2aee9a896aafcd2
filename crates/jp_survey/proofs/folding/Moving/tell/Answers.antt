-- One link more is told.
use Rattle.std.proofs.Common.{subst, sym}
use Rattle.jp_survey.specs.Movings.{AreMoving}
use Rattle.jp_survey.specs.declared.links.Link.{Link}
use Rattle.std.proofs.Common.{List}
use Rattle.jp_survey.proofs.Moving.{told_moves}
use Rattle.jp_survey.proofs.folding.Moving.tell.Goals as goal

pub returns-clause-moving : goal.returns-clause-moving
returns-clause-moving c fold names h m =
    let self = c.args.self.now in let links = c.args.links.now.links.keys in let told = self.told.links.keys in let next = self.folded.links.keys in let link = c.in_ok-link in
    subst (λ (t : List Link). AreMoving fold names links t next self.places.items) (sym c.in_ok-add.ensures.links)
    (told_moves fold names links told next self.places.items m c.args.place link.link link.ensures.within link.ensures.parent link.ensures.step)
