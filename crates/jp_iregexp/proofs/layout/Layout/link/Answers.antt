use Rattle.std.proofs.Common.{◌≡◌, ◌<◌, map, arith, subst}
use Rattle.jp_iregexp.specs.Layouts.{state_of}
use Rattle.jp_iregexp.proofs.Links.{IsLeftToLink, link_start, link_step, link_end}
use Rattle.jp_iregexp.proofs.layout.Layout.link.Goals as goal

pub loop-rest-init : goal.loop-rest-init
loop-rest-init c = link_start c.args.last c.args.first (map state_of c.args.self.now.states.items)

pub loop-rest-preserved : goal.loop-rest-preserved
loop-rest-preserved c =
    let l = c.loop-rest in
    let some : 0 < l.rest = omega arith in
    link_step c.args.last c.args.first l.rest (map state_of c.args.self.now.states.items) (map state_of l.self.states.items) (map state_of c.link_one.new.self.states.items) some l.auto.rest-fits.fits l.invariant c.link_one.ensures

pub returns : goal.returns
returns c =
    let l = c.loop-rest in
    let none : l.rest ≡ 0 = omega arith in
    let now = map state_of l.self.states.items in
    link_end c.args.last c.args.first (map state_of c.args.self.now.states.items) now
    (subst (λ n. IsLeftToLink c.args.last c.args.first n (map state_of c.args.self.now.states.items) now) none l.invariant)
