-- The texts of a hash are those of its bucket.
use Rattle.std.proofs.Common.{◌∙◌, ◌+◌, ◌-◌, ◌/◌, take, drop, ap, subst}
use Rattle.jp_listed.specs.Slots.{IsStart, has_text, texts_at}
use Rattle.jp_listed.proofs.Order.{in_bucket}
use Rattle.jp_listed.proofs.texts.Texts.bucket_of.Goals as goal

pub returns-clause-all : goal.returns-clause-all
returns-clause-all c = λ text h.
    let texts = c.args.self.now in
    let start = c.range_of-start.result.0 in
    let end = c.range_of-start.result.1 in
    ap (λ slots. has_text (texts_at texts.bytes.items (take (end - start) (drop start slots))) text) c.deref.ensures.value
    ∙ in_bucket texts.bytes.items texts.slots.items texts.width start end text texts.hashed
    (subst (λ n. IsStart texts.width texts.slots.items (n / texts.width) start) h c.range_of-start.ensures.begins)
    (subst (λ n. IsStart texts.width texts.slots.items (n / texts.width + 1) end) h c.range_of-start.ensures.ends)
