-- A bucket ends where the next begins.
use Rattle.std.proofs.Common.{◌∙◌, ◌+◌, ◌/◌, sym, subst, arith}
use Rattle.std.proofs.lemmas.List.{get_or_default}
use Rattle.jp_listed.specs.Slots.{IsStart}
use Rattle.jp_listed.proofs.Order.{bucket_ends}
use Rattle.jp_listed.proofs.texts.Texts.range_of.Goals as goal

pub returns-clause-ascends : goal.returns-clause-ascends
returns-clause-ascends c =
    let texts = c.args.self.now in
    let bucket = c.args.hash / texts.width in
    let whole = texts.whole c.args.hash c.ranges.hash.fits in
    bucket_ends texts.width texts.slots.items bucket c.index.result.now c.index-2.result.now
    (subst (IsStart texts.width texts.slots.items bucket) (get_or_default texts.starts.items bucket 0 c.index.result.now (omega (arith, whole)) ∙ sym c.index.ensures) (texts.cut bucket (omega (arith, whole))))
    (subst (IsStart texts.width texts.slots.items (bucket + 1)) (get_or_default texts.starts.items (bucket + 1) 0 c.index-2.result.now whole ∙ sym c.index-2.ensures) (texts.cut (bucket + 1) whole))

pub returns-clause-within : goal.returns-clause-within
returns-clause-within c =
    let texts = c.args.self.now in
    let bucket = c.args.hash / texts.width in
    let whole = texts.whole c.args.hash c.ranges.hash.fits in
    (subst (IsStart texts.width texts.slots.items (bucket + 1)) (get_or_default texts.starts.items (bucket + 1) 0 c.index-2.result.now whole ∙ sym c.index-2.ensures) (texts.cut (bucket + 1) whole)).within
