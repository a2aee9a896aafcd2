-- What a sink is told, one thing after another.
use Rattle.std.proofs.Common.{◌≡◌, ◌∙◌, List, [], ◌++◌, sym, ap, subst, append_assoc, append-nil, Result, Ok, Err, IsErr, inl, inr}
use Rattle.jp_sink.specs.Events.{Event}
use Rattle.jp_sink.specs.Telling.{Takes}
use Rattle.jp_grep.specs.Telling.{Puts, TakesPart}

module _ {S : Type 0} (stands stopped : S → List Event → Type 0) where
  -- nothing was told
  pub none_put : (sink : S) → Takes stands sink sink []
  none_put sink = λ told is. subst (stands sink) (sym (append-nil told)) is

  -- some events, and then others
  pub both_put : (a b c : S) (x y : List Event) → Takes stands a b x → Takes stands b c y → Takes stands a c (x ++ y)
  both_put a b c x y p q = λ told is. subst (stands c) (append_assoc told x y) (q (told ++ x) (p told is))

  -- all so far is a part
  pub put_so_far : (a b : S) (x : List Event) → Takes stands a b x → TakesPart stands stopped a b x
  put_so_far a b x p = inl (x, [], sym (append-nil x), p)

  -- a part of some events after others
  pub part_put : (a b c : S) (x y : List Event) → Takes stands a b x → TakesPart stands stopped b c y → TakesPart stands stopped a c (x ++ y)
  part_put a b c x y p (inl first) = inl (x ++ first.0, first.1, ap (λ l. x ++ l) first.2 ∙ sym (append_assoc x first.0 first.1), both_put a b c x first.0 p first.3)
  part_put a b c x y p (inr stops) = inr (λ told later is.
      subst (stopped c) (append_assoc told x (y ++ later) ∙ ap (λ l. told ++ l) (sym (append_assoc x y later))) (stops (told ++ x) later (p told is)))

  -- more would have followed
  pub part_put_more : (a b : S) (x y : List Event) → TakesPart stands stopped a b x → TakesPart stands stopped a b (x ++ y)
  part_put_more a b x y (inl first) = inl (first.0, first.1 ++ y, ap (λ l. l ++ y) first.2 ∙ append_assoc first.0 first.1 y, first.3)
  part_put_more a b x y (inr stops) = inr (λ told later is. subst (λ l. stopped b (told ++ l)) (sym (append_assoc x y later)) (stops told (y ++ later) is))

  -- nothing was told, of which more would have followed
  pub nothing_put : (sink : S) (x : List Event) → TakesPart stands stopped sink sink x
  nothing_put sink x = part_put_more sink sink [] x (put_so_far sink sink [] (none_put sink))

  -- a part of the events that come next, after those so far
  pub put_next : (a b c : S) (front one rest all : List Event) → all ≡ (front ++ one) ++ rest → Takes stands a b front → TakesPart stands stopped b c one → TakesPart stands stopped a c all
  put_next a b c front one rest all is p q = subst (λ t. TakesPart stands stopped a c t) (sym is) (part_put_more a c (front ++ one) rest (part_put a b c front one p q))

  pub ends_put : {A E : Type 0} (result : Result A E) (a b : S) (x : List Event) → IsErr result → TakesPart stands stopped a b x → Puts stands stopped a b result x
  ends_put (Ok done) a b x h p = absurd (cc)
  ends_put (Err fault) a b x h p = p

  pub whole_put : {A E : Type 0} (result : Result A E) (a b : S) (x : List Event) → Takes stands a b x → Puts stands stopped a b result x
  whole_put (Ok done) a b x p = p
  whole_put (Err fault) a b x p = put_so_far a b x p
