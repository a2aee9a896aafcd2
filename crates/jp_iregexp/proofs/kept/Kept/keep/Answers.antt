use Rattle.std.proofs.Common.{None, get_or, refl, sym, ◌∙◌, ap, inl, inr}
use Rattle.jp_iregexp.proofs.Keeping.{push_none, set_some}
use Rattle.jp_iregexp.proofs.kept.Kept.keep.Goals as goal

pub loop-init : goal.loop-init
loop-init g c = λ n. refl

pub loop-preserved : goal.loop-preserved
loop-preserved g c = λ n. ap (λ l. get_or l n None) c.in_ok-push.ensures.items ∙ push_none c.loop.self.rows.items n ∙ c.loop.invariant n

pub returns-in-Some : goal.returns-in-Some
returns-in-Some g c = λ n other is.
    elim (set_some c.loop.self.rows.items c.args.number c.args.row n other is) [ inl e ↦ inl e | inr e ↦ inr (sym (c.loop.invariant n) ∙ e) ]

pub returns-in_default : goal.returns-in_default
returns-in_default g c = λ n other is. inr (sym (c.loop.invariant n) ∙ is)
