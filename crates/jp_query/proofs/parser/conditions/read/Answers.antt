-- What is read is what the scalars spell, with the bracket after them.
use Rattle.std.proofs.Common.{◌≡◌, ◌∙◌, [], ◌∷◌, ◌++◌, List, ℕ, ap, chars}
use Rattle.jp_query.specs.Integers.{clamp}
use Rattle.jp_query.proofs.Alone.{not_read, read_of_scalars}
use Rattle.jp_query.proofs.parser.conditions.read.Goals as goal

pub returns-in_default : goal.returns-in_default
returns-in_default c = not_read clamp c.args.text.now c.in_default.ensures

pub returns : goal.returns
returns c =
    let e : c.new.result.rest.now ≡ chars c.args.text.now ++ 93 ∷ [] = c.new.ensures ∙ (c.deref.ensures.value ∙ (c.in_ok-push.ensures.items ∙ ap (λ (l : List ℕ). l ++ 93 ∷ []) (c.in_ok-scalars.ensures ∙ ap chars c.in-Ok.ensures.0))) in
    rw (read_of_scalars clamp c.args.text.now c.in-Ok.ensures.1, ← e) c.alone.ensures
