use Rattle.std.proofs.Common.{[], ◌++◌, ap, sym, ◌∙◌, append_assoc, append-nil, refl, subst}
use Rattle.simdutf8.specs.Tracks.{HasRead}
use Rattle.simdutf8.proofs.StepsLemmas.{IsAscii-append}
use Rattle.jp_masks.proofs.validity.Validity.step.Goals as goal

pub returns-then-are_ascii : goal.returns-then-are_ascii
returns-then-are_ascii c read was =
    let block = c.args.block.now in
    let none = was.none c.if-self.true in
    record {
      front = was.front ++ block;
      others = [];
      joined = ap (λ xs. xs ++ block) (was.joined ∙ ap (λ xs. was.front ++ xs) none ∙ append-nil was.front) ∙ sym (append-nil (was.front ++ block));
      ascii = IsAscii-append was.front block was.ascii (c.are_ascii.ensures.0 c.if-are_ascii.true);
      checked = subst (HasRead c.args.self.now.checker) none was.checked;
      none = λ told. refl;
    }

pub returns : goal.returns
returns c read was =
    let block = c.args.block.now in
    record {
      front = was.front;
      others = was.others ++ block;
      joined = ap (λ xs. xs ++ block) was.joined ∙ append_assoc was.front was.others block;
      ascii = was.ascii;
      checked = c.step-self.ensures was.others was.checked;
      none = λ told. absurd (cc);
    }
