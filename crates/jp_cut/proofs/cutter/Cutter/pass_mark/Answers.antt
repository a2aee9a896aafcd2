use Rattle.std.proofs.Common.{◌≡◌, ◌-◌, ℕ, length, arith, refl, ap, ◌∙◌}
use Rattle.jp_model.specs.Lines.{without_byte_order_mark}
use Rattle.jp_cut.proofs.MarkLaw.{kept_short}
use Rattle.jp_cut.proofs.Reading.{read_mark}
use Rattle.jp_cut.proofs.cutter.Cutter.pass_mark.Goals as goal

pub returns-clause-read : goal.returns-clause-read
returns-clause-read c pieces stream handed h =
    let s = c.args.self.now in
    let kept = c.without_byte_order_mark-kept.result.now in
    read_mark pieces stream handed s _ kept h c.requires.front c.requires.told (c.without_byte_order_mark-kept.ensures ∙ ap without_byte_order_mark c.deref.ensures.value) refl refl c.nothing_open-self.ensures refl
    (let n : c.len.result ≡ length s.held.items = omega (arith, c.len.ensures) in ap (λ (k : ℕ). k - length kept) n) refl refl

pub returns-clause-less : goal.returns-clause-less
returns-clause-less c =
    let s = c.args.self.now in
    let short = kept_short s.held.items in
    let kept_is : length c.without_byte_order_mark-kept.result.now ≡ length (without_byte_order_mark s.held.items) =
    ap length (c.without_byte_order_mark-kept.ensures ∙ ap without_byte_order_mark c.deref.ensures.value) in
    omega (arith, short, kept_is, s.front c.requires.front, s.order, c.len.ensures)

pub returns-clause-held : goal.returns-clause-held
returns-clause-held c =
    let s = c.args.self.now in
    let short = kept_short s.held.items in
    let kept_is : length c.without_byte_order_mark-kept.result.now ≡ length (without_byte_order_mark s.held.items) =
    ap length (c.without_byte_order_mark-kept.ensures ∙ ap without_byte_order_mark c.deref.ensures.value) in
    omega (arith, short, kept_is, s.front c.requires.front, s.order, c.len.ensures)
