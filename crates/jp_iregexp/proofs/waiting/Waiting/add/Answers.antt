use Rattle.std.proofs.Common.{rules, ◌≡◌, get_or, refl, sym, subst}
use Rattle.jp_iregexp.proofs.Marks.{adds_one}
use Rattle.jp_iregexp.proofs.waiting.Waiting.add.Goals as goal

pub returns : goal.returns
returns c =
    let marks = c.args.self.now.has.items in
    let here : c.in-Some.has.now ≡ get_or marks c.args.state c.in-Some.has.now = search rules in
    adds_one c.args.self.now _ c.args.state c.requires (search rules) (subst (λ b. get_or marks c.args.state b ≡ b) c.if-has.false (sym here)) c.in_ok-push.ensures.items refl
