use Rattle.std.proofs.Common.{◌≡◌, ◌+◌, length, map, sym, ◌∙◌, ap, subst}
use Rattle.std.proofs.lemmas.List.{length_push}
use Rattle.jp_iregexp.specs.Layouts.{state_of}
use Rattle.jp_iregexp.specs.States.{AreSets}
use Rattle.jp_iregexp.proofs.Masks.{mask_more, waiting_bits}
use Rattle.jp_iregexp.proofs.automaton.ascii_masks.Goals as goal

pub loop-code-preserved : goal.loop-code-preserved
loop-code-preserved c =
    let l = c.loop-code in
    let states = map state_of c.args.states.now in
    let size : length c.push.new.self.items ≡ l.code + 1 = ap length c.in_ok-push.ensures.items ∙ length_push l.masks.items c.having.result ∙ ap (λ n. n + 1) l.invariant.size in
    record {
      size = size;
      masked = mask_more states l.masks.items c.push.new.self.items c.having.result l.code c.in_ok-push.ensures.items (sym l.invariant.size)
          (λ p. (let here = waiting_bits states c.as_slice.result.now l.code (subst (AreSets states) (sym c.as_slice.ensures.value) c.in_ok-sets.ensures) c.loop-code-test.true p in let is = c.having.ensures p in ((λ h. here.0 (is.0 h)), (λ h. is.1 (here.1 h))))) l.invariant.masked;
    }
