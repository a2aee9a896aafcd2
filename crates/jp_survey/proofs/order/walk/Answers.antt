-- Each turn takes the next place that waits.
use Rattle.std.proofs.Common.{◌≡◌, ◌∙◌, ℕ, ◌+◌, List, [], ◌∷◌, ◌++◌, ap, arith, get_or, length, subst, sym}
use Rattle.std.proofs.lemmas.List.{get_or_push, length_push}
use Rattle.jp_survey.specs.Places.{ArePlaces, path_at, paths_of}
use Rattle.jp_survey.specs.Walked.{AreBelow, AreNext, AreWaiting, IsOrdered}
use Rattle.jp_survey.specs.declared.links.Link.{Link}
use Rattle.jp_survey.proofs.Places.{many_paths}
use Rattle.jp_survey.proofs.Waiting.{next_ordered, next_within, root_waits, waiting_less}
use Rattle.jp_survey.proofs.order.walk.Goals as goal

last_is : {items : List ℕ} (order : List ℕ) (place i : ℕ) → items ≡ order ++ place ∷ [] → i + 1 ≡ length items → get_or items i 0 ≡ place
last_is order place i pushed e =
    let one = length_push order place in let long = ap length pushed in
    ap (λ (l : List ℕ). get_or l i 0) pushed ∙ get_or_push order place 0 i (omega (arith, e, one, long))

pub loop-turn-init : goal.loop-turn-init
loop-turn-init c = record {
  many = ap length c.new-order.ensures.items;
  ordered = λ names links h b many. subst (IsOrdered (paths_of names links)) (sym c.new-order.ensures.items) (record { within = λ i l. absurd (omega (arith, l)); rising = λ i l. absurd (omega (arith, l)) });
  waiting = λ names links h b many. subst (AreWaiting (paths_of names links)) (sym (c.in_ok-push.ensures.items ∙ ap (λ (l : List ℕ). l ++ 0 ∷ []) c.new-waiting.ensures.items)) (root_waits names links h);
  next = λ names links h b many i e. absurd (let none = ap length c.new-order.ensures.items in omega (arith, none, e));
}

pub loop-turn-preserved : goal.loop-turn-preserved
loop-turn-preserved c =
    let was = c.loop-turn.invariant in let order = c.loop-turn.order.items in let rest = c.pop.new.self.items in let place = c.in_ok-place.place in
    let popped : c.loop-turn.waiting.items ≡ rest ++ place ∷ [] = rw c.in_ok-place.ensures.ok_part at c.pop.ensures.items in
    let pushed : c.push-in-loop-turn.new.self.items ≡ order ++ place ∷ [] = c.in_ok-push-2.ensures.items in
    let waits : (names : List (List ℕ)) (links : List Link) → ArePlaces names links → AreBelow names links c.args.list.now → length c.args.ends.now ≡ length links → AreWaiting (paths_of names links) (rest ++ place ∷ []) =
    λ names links h b many. subst (AreWaiting (paths_of names links)) popped (was.waiting names links h b many) in
    let next : (names : List (List ℕ)) (links : List Link) → ArePlaces names links → AreBelow names links c.args.list.now → length c.args.ends.now ≡ length links
    → AreNext (paths_of names links) (path_at (paths_of names links) place) c.push_below.new.waiting.items =
    λ names links h b many.
    let w = waits names links h b many in let less = waiting_less (paths_of names links) rest place w in
    let inside = next_within (paths_of names links) order rest place w in let all = many_paths names links h in
    c.in_ok-push_below.ensures names links h b (omega (arith, inside, all)) less.0 less.1 in
    record {
      many = ap length pushed ∙ (length_push order place ∙ ap (λ (n : ℕ). n + 1) was.many);
      ordered = λ names links h b many. subst (IsOrdered (paths_of names links)) (sym pushed)
          (next_ordered (paths_of names links) order rest place (waits names links h b many) (was.ordered names links h b many)
          (λ i e. subst (AreNext (paths_of names links) (path_at (paths_of names links) (get_or order i 0))) popped (was.next names links h b many i e)));
      waiting = λ names links h b many. (next names links h b many).falling;
      next = λ names links h b many i e.
          let it : get_or c.push-in-loop-turn.new.self.items i 0 ≡ place = last_is order place i pushed e in
          subst (λ (p : ℕ). AreNext (paths_of names links) (path_at (paths_of names links) p) c.push_below.new.waiting.items) (sym it) (next names links h b many);
    }

pub returns : goal.returns
returns c names links h b many =
    let was = c.loop-turn.invariant in let all = many_paths names links h in let end = c.loop-turn-test.false in let most = c.loop-turn.auto._turn-end in let so-many = was.many in record {
      many = omega (arith, so-many, all, many, end, most);
      ordered = was.ordered names links h b many;
    }
