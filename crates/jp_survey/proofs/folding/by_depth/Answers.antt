-- A place is one step deeper than the one above it.
use Rattle.std.proofs.Common.{◌≡◌, ◌∙◌, ℕ, ◌+◌, ◌<◌, List, [], ◌∷◌, ◌++◌, ap, arith, get_or, length, subst, sym}
use Rattle.std.proofs.lemmas.List.{length_push}
use Rattle.jp_survey.specs.Movings.{AreDeep}
use Rattle.jp_survey.specs.Places.{ArePlaces, is_start, link_at}
use Rattle.jp_survey.specs.declared.folding.Deep.{Deep}
use Rattle.jp_survey.specs.declared.links.Link.{Link}
use Rattle.jp_survey.proofs.Depths.{deep_more, listed_by_depth, not_start}
use Rattle.jp_survey.proofs.Pushed.{each_pushed}
use Rattle.jp_survey.proofs.folding.by_depth.Goals as goal
use Rattle.jp_survey.proofs.folding.by_depth.Goals.{in-Start, in-Element+in_ok-above-in-Element+in_ok-depth-in-Element}

pub loop-place-preserved : goal.loop-place-preserved
loop-place-preserved c =
    let was = c.loop-place.invariant in let list = c.loop-place.places.items in let place = c.loop-place.place in let items = c.as_slice-link-items.result.now in
    let next : Deep = record { depth = c.match-link.depth; place = c.loop-place.place } in
    let pushed : c.push.new.self.items ≡ list ++ next ∷ [] = c.in_ok-push.ensures.items in
    record {
      many = ap length pushed ∙ (length_push list next ∙ ap (λ (n : ℕ). n + 1) was.many);
      numbered = subst (λ (l : List Deep). (i : ℕ) (d : Deep) → i < length l → (get_or l i d).place ≡ i) (sym pushed)
          (λ i d l. each_pushed list next d (λ (n : ℕ) (x : Deep). x.place ≡ n) (λ n s. was.numbered n d s) (sym was.many) i l);
      each = subst (λ (ls : List Link). (names : List (List ℕ)) → ArePlaces names ls → AreDeep names ls c.push.new.self.items) c.as_slice-link-items.ensures.keys
          (λ names h. subst (AreDeep names items) (sym pushed)
          (deep_more names items h list next (subst (λ (ls : List Link). ArePlaces names ls → AreDeep names ls list) (sym c.as_slice-link-items.ensures.keys) (was.each names) h) was.numbered was.many c.loop-place-test.true
          (elim c.match-link.branch [
            | in-Start w ↦ λ e. w.depth-is
            | in-Element+in_ok-above-in-Element+in_ok-depth-in-Element w ↦ λ e. absurd (let plain = not_start (link_at items place).step w.in-Element.is in cc)
          ])
          (elim c.match-link.branch [
            | in-Start w ↦ λ e. absurd (let start = ap is_start w.in-Start.is in cc)
            | in-Element+in_ok-above-in-Element+in_ok-depth-in-Element w ↦ λ e.
                let more = rw w.in_ok-depth-in-Element.ensures.ok_part at w.checked_add.ensures in
                let got = rw w.in_ok-above-in-Element.ensures.ok_part at w.get.ensures.lookup in (
                  w.in_ok-above-in-Element.above.now,
                  subst (λ (l : List Deep). (link_at items place).parent < length l) w.deref.ensures.value got.3.0,
                  (λ d. sym (got.3.1 d ∙ ap (λ (l : List Deep). get_or l (link_at items place).parent d) w.deref.ensures.value)),
                  w.depth-is ∙ omega (arith, more),
                )
          ])));
    }

pub returns : goal.returns
returns c names h =
    let was = c.loop-place.invariant in let same = c.as_slice-link-items.ensures.keys in let all = ap length same in let end = c.loop-place-test.false in let most = c.loop-place.auto.place-end in
    let many = was.many in let long = c.sort_unstable.ensures.len in let new = c.sort_unstable.new.self.ok.0 in let old = c.loop-place.places.ok.0 in
    listed_by_depth names c.args.links.now.links.keys c.loop-place.places.items c.sort_unstable.new.self.items (was.each names h) (omega (arith, all, end, most, many, long, new, old))
    c.sort_unstable.ensures.permutation c.sort_unstable.ensures.sorted
