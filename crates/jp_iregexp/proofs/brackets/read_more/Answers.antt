use Rattle.std.proofs.Common.{◌≡◌, ◌∷◌, [], ◌+◌, ◌-◌, map, Some, None, sym, ◌∙◌, ap, arith, append-nil}
use Rattle.std.proofs.lemmas.List.{map-append}
use Rattle.jp_iregexp.specs.declared.class.Item.TheVariants.{Range as RangeItem}
use Rattle.jp_iregexp.specs.declared.brackets.Next.TheVariants.{Item as ItemNext, Hyphen as HyphenNext, End as EndNext}
use Rattle.jp_iregexp.specs.Nodes.{item_of}
use Rattle.jp_iregexp.proofs.Readers.{turn_taken, item_taken}
use Rattle.jp_iregexp.proofs.brackets.read_more.Goals as goal

pub returns-in-None : goal.returns-in-None
returns-in-None c =
    turn_taken c.read_next.result None (map item_of c.loop-turn.items.items) c.args.limit c.loop-turn.turn c.loop-turn.left.now _ (omega arith) c.read_next.ensures c.in-None.is c.loop-turn.invariant

pub returns-in-Some-End : goal.returns-in-Some-End
returns-in-Some-End c =
    let next = Some (EndNext c.in-Some-End.rest) in
    let is : c.read_next.result ≡ next = cc in
    let before = map item_of c.loop-turn.items.items in
    ap (λ items. Some (items, c.in-Some-End.rest.now)) (sym (append-nil before))
    ∙ turn_taken c.read_next.result next before c.args.limit c.loop-turn.turn c.loop-turn.left.now _ (omega arith) c.read_next.ensures is c.loop-turn.invariant

pub returns-in-Some-Hyphen : goal.returns-in-Some-Hyphen
returns-in-Some-Hyphen c =
    let next = Some (HyphenNext c.in-Some-Hyphen.rest) in
    let is : c.read_next.result ≡ next = cc in
    let before = map item_of c.loop-turn.items.items in
    ap (λ items. Some (items, c.in-Some-Hyphen.rest.now)) (ap (map item_of) c.in_ok-push-in-Some-Hyphen.ensures.items ∙ map-append item_of c.loop-turn.items.items (RangeItem 45 45 ∷ []))
    ∙ turn_taken c.read_next.result next before c.args.limit c.loop-turn.turn c.loop-turn.left.now _ (omega arith) c.read_next.ensures is c.loop-turn.invariant

pub loop-turn-preserved : goal.loop-turn-preserved
loop-turn-preserved c =
    let item = c.in-Some-Item.item in
    let next = Some (ItemNext item c.in-Some-Item.rest) in
    let is : c.read_next.result ≡ next = cc in
    let before = map item_of c.loop-turn.items.items in
    item_taken before (map item_of c.push-in-Some-Item.new.self.items) (item_of item) (c.args.limit - (c.loop-turn.turn + 1)) c.in-Some-Item.rest.now _
    (ap (map item_of) c.in_ok-push-in-Some-Item.ensures.items ∙ map-append item_of c.loop-turn.items.items (item ∷ []))
    (turn_taken c.read_next.result next before c.args.limit c.loop-turn.turn c.loop-turn.left.now _ (omega arith) c.read_next.ensures is c.loop-turn.invariant)
