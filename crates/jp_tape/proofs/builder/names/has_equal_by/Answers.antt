use Rattle.std.proofs.Common.{List, ◌∙◌, ap, length, subst, sym}
use Rattle.std.proofs.lemmas.List.Sorted.{IsPermutation-map}
use Rattle.jp_model.specs.Json.Faults.{has_repeated}
use Rattle.jp_tape.specs.declared.builder.body.Body.{Body}
use Rattle.jp_tape.specs.Keys.{slot_in, FallByText}
use Rattle.jp_tape.specs.Names.{points, all_points}
use Rattle.jp_tape.proofs.Repeated.{same_repeated}
use Rattle.jp_tape.proofs.Slots.{alone_differ, shared_repeat}
use Rattle.jp_tape.proofs.builder.names.has_equal_by.Goals as goal

pub returns-then-not-count_hits : goal.returns-then-not-count_hits
returns-then-not-count_hits c =
    let line = c.args.line.now in
    let hits = c.count_hits.new.hits in
    let told : FallByText line c.args.names.now (slot_in line (length hits)) = subst (λ n. FallByText line c.args.names.now (slot_in line n)) (sym c.count_hits.ensures.size) c.requires.told in
    alone_differ line (slot_in line (length hits)) c.args.names.now hits told c.count_hits.ensures.hit (c.count_hits.ensures.alone c.if-not-count_hits.true)

pub returns : goal.returns
returns c =
    let line = c.args.line.now in
    let xs = c.args.names.now in
    let hits = c.count_hits.new.hits in
    let slot = slot_in line (length hits) in
    let old = c.in_ok-bodies.bodies.items in
    let new = c.sort_unstable.new.self.items in
    let told : FallByText line xs slot = subst (λ n. FallByText line xs (slot_in line n)) (sym c.count_hits.ensures.size) c.requires.told in
    c.has_equal_neighbours.ensures ∙ ap (λ (bs : List Body). has_repeated (all_points bs)) c.deref.ensures.value
    ∙ (same_repeated (all_points old) (all_points new) (IsPermutation-map points old new c.sort_unstable.ensures.permutation) ∙ ap has_repeated c.in_ok-bodies.ensures)
    ∙ shared_repeat line slot xs hits told c.count_hits.ensures.hit
