-- Each turn counts the node of its number at the place of its path, and the last one is the last below the node.
use Rattle.std.proofs.Common.{◌≡◌, ◌∙◌, ℕ, ◌+◌, ◌-◌, ◌<◌, List, [], ◌∷◌, ◌++◌, ap, append-nil, append_assoc, arith, drop, get_or, length, map, refl, subst, sym, take, length-drop, length-set}
use Rattle.std.specs.Prelude.{slice_get}
use Rattle.std.proofs.lemmas.List.{get_or-drop, length_push, map_more}
use Rattle.std.proofs.lemmas.Option.{get_or_from_slice_get, same_Some, slice_get_within}
use Rattle.jp_model.specs.Json.Tree.{value_of}
use Rattle.jp_model.specs.Meaning.Nodes.{Node, root_node, subtree}
use Rattle.jp_nodes.specs.Cursors.{node_of, place_of, root_of}
use Rattle.jp_nodes.specs.Tapes.{spelled}
use Rattle.jp_survey.specs.Counts.{CountedBeside, with_node}
use Rattle.jp_survey.specs.Foldings.{folded_by}
use Rattle.jp_survey.specs.Paths.{Mark, kind_of, mark_of, marks_of, sort_of, strides_of}
use Rattle.jp_survey.specs.Seen.{IsGoing}
use Rattle.jp_survey.specs.Trees.{AreKnown, IsPlaceAt, tree_folds, tree_paths}
use Rattle.jp_survey.specs.declared.count.PlaceCounts.{PlaceCounts}
use Rattle.jp_survey.specs.declared.kind.NodeKind.{NodeKind}
use Rattle.jp_survey.proofs.Begun.{node_counted, node_ends}
use Rattle.jp_survey.proofs.Sorts.{sorts_are}
use Rattle.jp_survey.proofs.Trees.{known_more, place_stays}
use Rattle.jp_survey.proofs.tree.Tree.count_nodes.Goals as goal

pub loop-number-init : goal.loop-number-init
loop-number-init c =
    let tree = c.requires.tree in let first = c.place-first.result in let nodes = subtree (root_node (root_of c.args.node)) in
    let none : length c.clear.new.self.items ≡ 0 = ap length c.clear.ensures.items in
    record {
      tree = record { places = tree.places; apart = tree.apart; counted = tree.counted; linked = tree.linked };
      top = c.requires.top;
      known = λ k node s at. absurd (omega (arith, s));
      many = omega (arith, none);
      lines = refl;
      going = λ limit lines line h. subst (λ (ms : List Mark). IsGoing limit lines ms (node_of c.args.node).location (record c.args.self.now { places = c.clear.new.self }))
          (sym (append-nil (marks_of line)) ∙ ap (λ (n : ℕ). marks_of line ++ map mark_of (take n (drop first nodes))) (sym none))
          (record { limit = h.limit; some = h.some; counted = h.counted; justified = h.justified });
    }

pub place_of-requires-clause-known : goal.place_of-requires-clause-known
place_of-requires-clause-known c =
    let self = c.loop-number.self in let below = c.go_to-below.result in let first = c.place-first.result in
    subst (λ (l : List ℕ). AreKnown self (subtree (root_node (spelled l))) first (place_of below)) (sym c.go_to-below.ensures.line)
    (subst (λ (n : ℕ). AreKnown self (subtree (root_node (root_of c.args.node))) first n) (sym c.go_to-below.ensures.place) c.loop-number.invariant.known)

pub place_of-requires-clause-top : goal.place_of-requires-clause-top
place_of-requires-clause-top c at =
    let self = c.loop-number.self in let below = c.go_to-below.result in let nodes = subtree (root_node (root_of c.args.node)) in
    let same : node_of c.args.node ≡ node_of below =
    same_Some (node_of c.args.node) (node_of below)
    (sym c.place-first.ensures.node ∙ (ap (slice_get nodes) (sym at ∙ c.go_to-below.ensures.place) ∙ c.go_to-below.ensures.node)) in
    subst (λ (n : Node). IsPlaceAt self c.args.top (folded_by (tree_folds self) (strides_of n.location))) same c.loop-number.invariant.top

pub loop-number-preserved : goal.loop-number-preserved
loop-number-preserved c =
    let nodes = subtree (root_node (root_of c.args.node)) in let first = c.place-first.result in let own = node_of c.args.node in
    let below = node_of c.go_to-below.result in let top = c.args.top in
    let old = c.loop-number.self in let mid = c.place_of.new.self in let was = c.loop-number.invariant in
    let number = c.loop-number.number in let line = c.args.self.now.lines in let place = c.in_ok-place.place in
    let now = c.in_ok-place.ensures.tree in let grows = c.in_ok-place.ensures.grows in let many = length old.places.items in let left = drop first nodes in
    let kind : c.of.result ≡ kind_of (value_of below.tree) = c.of.ensures ∙ (ap sort_of c.kind.ensures ∙ sorts_are (value_of below.tree)) in
    let counts : c.count.new.self.places.items ≡ with_node mid.counts.places.items place (kind_of (value_of below.tree)) line =
    c.in_ok-count.ensures.counts ∙ ap (λ (k : NodeKind). with_node mid.counts.places.items place k line) kind in
    let pushed : c.push.new.self.items ≡ old.places.items ++ place ∷ [] = c.in_ok-push.ensures.items ∙ ap (λ p. p.items ++ place ∷ []) grows.places in
    let longer : length c.push.new.self.items ≡ many + 1 = ap length pushed ∙ length_push old.places.items place in
    let at : first + many ≡ number = was.many in
    let inside = slice_get_within nodes number below c.go_to-below.ensures.node in
    let behind : many < length left = let short = length-drop first nodes in omega (arith, short, inside, at) in
    let here : get_or left many below ≡ below =
    get_or-drop first nodes many below ∙ (ap (λ (n : ℕ). get_or nodes n below) at ∙ get_or_from_slice_get nodes number below below c.go_to-below.ensures.node) in
    record {
      tree = record { places = now.places; apart = now.apart; linked = now.linked; counted = ap length counts ∙ (length-set mid.counts.places.items place _ ∙ now.counted) };
      top = let stays = place_stays old mid was.tree now grows top (folded_by (tree_folds old) (strides_of own.location)) was.top in
          subst (λ f. IsPlaceAt mid top (folded_by f (strides_of own.location))) (sym grows.folds) stays;
      known = known_more old mid was.tree now grows nodes first number at was.known below c.go_to-below.ensures.node place c.in_ok-place.ensures.place c.push.new.self.items pushed;
      many = omega (arith, longer, at);
      lines = grows.lines ∙ was.lines;
      going = λ limit lines begun h.
          let before = was.going limit lines begun h in
          let marks = marks_of begun ++ map mark_of (take many left) in
          let one = node_counted limit lines marks own.location old mid was.tree now grows before (mark_of below) place c.in_ok-place.ensures.place c.in_ok-place.ensures.path in
          let some = before.some in let same = grows.lines in
          let seen : marks_of begun ++ map mark_of (take (length c.push.new.self.items) left) ≡ marks ++ mark_of below ∷ [] =
          ap (λ (ms : List Mark). marks_of begun ++ ms)
          (ap (λ (n : ℕ). map mark_of (take n left)) longer ∙ (map_more mark_of left many below behind ∙ ap (λ (n : Node). map mark_of (take many left) ++ mark_of n ∷ []) here))
          ∙ sym (append_assoc (marks_of begun) (map mark_of (take many left)) (mark_of below ∷ [])) in
          subst (λ (ms : List Mark). IsGoing limit lines ms own.location (record mid { counts = c.count.new.self; places = c.push.new.self })) (sym seen)
          (record {
            limit = one.limit_is;
            some = omega (arith, some, same);
            counted = subst (λ (n : ℕ). CountedBeside (folded_by (tree_folds mid)) lines n (marks ++ mark_of below ∷ []) (tree_paths mid) c.count.new.self.places.items) (sym same)
                (subst (λ (cs : List PlaceCounts). CountedBeside (folded_by (tree_folds mid)) lines old.lines (marks ++ mark_of below ∷ []) (tree_paths mid) cs)
                (sym (counts ∙ ap (λ (n : ℕ). with_node mid.counts.places.items place (kind_of (value_of below.tree)) n) (sym was.lines))) one.counted);
            justified = one.justified;
          });
    }

pub returns : goal.returns
returns c =
    let self = c.loop-number.self in let was = c.loop-number.invariant in let tree = was.tree in let nodes = subtree (root_node (root_of c.args.node)) in let own = node_of c.args.node in
    let first = c.place-first.result in let at = c.place-first.ensures.value in let end = c.after-number-end.result in
    let ended : end ≡ place_of c.args.node + length (subtree own) = c.after-number-end.ensures.value in
    let last : c.loop-number.number ≡ end = let most = c.loop-number.auto.number-end (omega (arith, ended, at)) in omega (arith, most) in
    let many : length self.places.items ≡ end - place_of c.args.node = let held = was.many in omega (arith, held, last, at, ended) in
    let all : take (length self.places.items) (drop first nodes) ≡ subtree own =
    ap (λ (n : ℕ). take n (drop first nodes)) many ∙ (ap (λ (n : ℕ). take (end - place_of c.args.node) (drop n nodes)) at ∙ c.after-number-end.ensures.nodes) in
    record {
      tree = record { places = tree.places; apart = tree.apart; counted = tree.counted; linked = tree.linked };
      begun = λ limit lines line h.
          let going = was.going limit lines line (record { limit = h.limit; some = h.some; counted = h.counted; justified = h.justified }) in
          node_ends limit lines line own self (subst (λ (ns : List Node). IsGoing limit lines (marks_of line ++ map mark_of ns) own.location self) all going);
    }
