-- The place above is on the way, and then the place itself.
use Rattle.std.proofs.Common.{◌≡◌, ◌∙◌, ◌<◌, ◌++◌, ◌∷◌, [], ℕ, List, ap, ap₂, arith, subst, sym}
use Rattle.jp_survey.specs.Entries.{path_of_listed, stride_of_listed}
use Rattle.jp_survey.specs.Paths.{Stride}
use Rattle.jp_survey.specs.Places.{link_at, names_in, path_at, paths_of, stride_in}
use Rattle.jp_survey.specs.Walked.{IsWayOf}
use Rattle.jp_survey.specs.declared.links.Link.{Link}
use Rattle.jp_survey.specs.declared.listing.Stride.{Stride as Listed}
use Rattle.jp_survey.proofs.Places.{path_of_place}
use Rattle.jp_survey.proofs.Ways.{link_got, way_at, way_on}
use Rattle.jp_survey.proofs.listing.Way.go_to.Goals as goal

on : (c : goal.In_ok-push-2) → IsWayOf (paths_of (names_in c.args.names.now.keys) c.args.links.now.links.keys) (c.go_back.new.self.places.items ++ c.args.place ∷ []) (path_of_listed (c.go_back.new.self.path.items ++ c.in_ok-stride.stride ∷ []))
    × (path_of_listed (c.go_back.new.self.path.items ++ c.in_ok-stride.stride ∷ []) ≡ path_at (paths_of (names_in c.args.names.now.keys) c.args.links.now.links.keys) c.args.place)
on c =
    let names = names_in c.args.names.now.keys in let links = c.args.links.now.links.keys in let way = c.go_back.new.self in let place = c.args.place in let h = c.requires.places in
    let link = c.in_ok-link.link.now in
    let key = rw c.in_ok-link.ensures.ok_part at c.get_index.ensures.key in
    let got = link_got links place link (sym key) in
    let some : 0 < place = c.if-place-gt0.true in
    let path : path_at (paths_of names links) place ≡ path_at (paths_of names links) link.parent ++ stride_of_listed c.in_ok-stride.stride ∷ [] =
    path_of_place names links h place some got.0
    ∙ ap₂ (λ (p : ℕ) (s : Stride). path_at (paths_of names links) p ++ s ∷ []) (ap (λ (x : Link). x.parent) got.1) (ap (λ (x : Link). stride_in names x.step) got.1 ∙ sym c.in_ok-stride.ensures) in
    way_on (paths_of names links) way.places.items way.path.items (c.in_ok-go_back.ensures.way (paths_of names links) c.requires.way) link.parent place c.in_ok-stride.stride c.in_ok-go_back.ensures.last path

pub returns-in_ok-push-2-clause-way : goal.returns-in_ok-push-2-clause-way
returns-in_ok-push-2-clause-way c =
    let paths = paths_of (names_in c.args.names.now.keys) c.args.links.now.links.keys in
    subst (λ (places : List ℕ). IsWayOf paths places (path_of_listed c.push.new.self.items)) (sym c.in_ok-push-2.ensures.items)
    (subst (λ (path : List Listed). IsWayOf paths (c.go_back.new.self.places.items ++ c.args.place ∷ []) (path_of_listed path)) (sym c.in_ok-push.ensures.items) (on c).0)

pub returns-in_ok-push-2-clause-path : goal.returns-in_ok-push-2-clause-path
returns-in_ok-push-2-clause-path c = ap path_of_listed c.in_ok-push.ensures.items ∙ (on c).1

pub returns-else-place-gt0-clause-way : goal.returns-else-place-gt0-clause-way
returns-else-place-gt0-clause-way c = c.in_ok-go_back.ensures.way (paths_of (names_in c.args.names.now.keys) c.args.links.now.links.keys) c.requires.way

pub returns-else-place-gt0-clause-path : goal.returns-else-place-gt0-clause-path
returns-else-place-gt0-clause-path c =
    let paths = paths_of (names_in c.args.names.now.keys) c.args.links.now.links.keys in let links = c.args.links.now.links.keys in let way = c.go_back.new.self in
    let key = rw c.in_ok-link.ensures.ok_part at c.get_index.ensures.key in
    let got = link_got links c.args.place c.in_ok-link.link.now (sym key) in
    let root : c.args.place ≡ 0 = let none = c.if-place-gt0.false in omega (arith, none) in
    let parent : c.in_ok-link.link.now.parent ≡ c.args.place =
    ap (λ (x : Link). x.parent) (sym got.1 ∙ (ap (link_at links) root ∙ c.requires.places.root)) ∙ sym root in
    way_at paths way.places.items way.path.items (c.in_ok-go_back.ensures.way paths c.requires.way) c.in_ok-link.link.now.parent c.in_ok-go_back.ensures.last
    ∙ ap (path_at paths) parent
