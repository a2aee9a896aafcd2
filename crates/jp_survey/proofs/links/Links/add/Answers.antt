-- A new place has no member, and the place above it one more where it is a member by name.
use Rattle.std.proofs.Common.{◌≡◌, ◌∙◌, ℕ, ◌+◌, ◌<◌, List, [], ◌∷◌, ◌++◌, ap, get_or, length, set, subst, sym}
use Rattle.jp_survey.specs.Places.{has_link, is_named, link_at, members_of}
use Rattle.jp_survey.specs.declared.links.Link.{Link}
use Rattle.jp_survey.proofs.Linked.{counted_named, counted_plain, fresh_link, linked_within, plain_step}
use Rattle.jp_survey.proofs.links.Links.add.Goals as goal

pub returns-in_ok-self-in-Member-clause-counted : goal.returns-in_ok-self-in-Member-clause-counted
returns-in_ok-self-in-Member-clause-counted c = λ each.
    let self = c.args.self.now in let keys = self.links.keys in let link = c.args.link in let members = self.members.items in
    let new : c.insert.new.links.keys ≡ keys ++ link ∷ [] = fresh_link (has_link keys link) c.in_ok-place.is_new keys c.insert.new.links.keys link c.in_ok-place.ensures.is_new c.if-not-is_new.false c.in_ok-place.ensures.links in
    let pushed : c.push.new.self.items ≡ members ++ 0 ∷ [] = c.in_ok-push.ensures.items in
    let was : c.in-Some.members.now ≡ get_or (members ++ 0 ∷ []) link.parent 0 =
    c.in-Some.ensures.lookup.3.1 0 ∙ ap (λ (l : List ℕ). get_or l link.parent 0) (c.deref.ensures.value ∙ pushed) in
    let inside : link.parent < length (members ++ 0 ∷ []) =
    subst (λ (m : List ℕ). link.parent < length m) (c.deref.ensures.value ∙ pushed) c.in-Some.ensures.lookup.3.0 in
    let count = c.in_ok-self-in-Member.field-0 in
    let is : count ≡ get_or (members ++ 0 ∷ []) link.parent 0 + 1 = c.in_ok-self-in-Member.ensures ∙ ap (λ (n : ℕ). n + 1) was in
    subst (λ (l : List Link). (k : ℕ) → get_or (set c.push.new.self.items link.parent count) k 0 ≡ members_of l k) (sym new)
    (subst (λ (m : List ℕ). (k : ℕ) → get_or (set m link.parent count) k 0 ≡ members_of (keys ++ link ∷ []) k) (sym pushed)
    (counted_named keys members each link (ap is_named c.in-Member.is) inside count is))

pub returns-in_ok-self-in-Member-clause-linked : goal.returns-in_ok-self-in-Member-clause-linked
returns-in_ok-self-in-Member-clause-linked c = λ old inside.
    let keys = c.args.self.now.links.keys in let link = c.args.link in
    let new : c.insert.new.links.keys ≡ keys ++ link ∷ [] = fresh_link (has_link keys link) c.in_ok-place.is_new keys c.insert.new.links.keys link c.in_ok-place.ensures.is_new c.if-not-is_new.false c.in_ok-place.ensures.links in
    record {
      counted = returns-in_ok-self-in-Member-clause-counted c old.counted;
      within = subst (λ (l : List Link). (k : ℕ) → k < length l → (link_at l k).parent < length l) (sym new) (linked_within keys old.within link inside);
    }

pub returns-in-Start-clause-counted : goal.returns-in-Start-clause-counted
returns-in-Start-clause-counted c = λ each.
    let self = c.args.self.now in let keys = self.links.keys in let link = c.args.link in let members = self.members.items in
    let new : c.insert.new.links.keys ≡ keys ++ link ∷ [] = fresh_link (has_link keys link) c.in_ok-place.is_new keys c.insert.new.links.keys link c.in_ok-place.ensures.is_new c.if-not-is_new.false c.in_ok-place.ensures.links in
    let pushed : c.push.new.self.items ≡ members ++ 0 ∷ [] = c.in_ok-push.ensures.items in
    subst (λ (l : List Link). (k : ℕ) → get_or c.push.new.self.items k 0 ≡ members_of l k) (sym new)
    (subst (λ (m : List ℕ). (k : ℕ) → get_or m k 0 ≡ members_of (keys ++ link ∷ []) k) (sym pushed)
    (counted_plain keys members each link (plain_step link.step c.in-Start.is)))

pub returns-in-Start-clause-linked : goal.returns-in-Start-clause-linked
returns-in-Start-clause-linked c = λ old inside.
    let keys = c.args.self.now.links.keys in let link = c.args.link in
    let new : c.insert.new.links.keys ≡ keys ++ link ∷ [] = fresh_link (has_link keys link) c.in_ok-place.is_new keys c.insert.new.links.keys link c.in_ok-place.ensures.is_new c.if-not-is_new.false c.in_ok-place.ensures.links in
    record {
      counted = returns-in-Start-clause-counted c old.counted;
      within = subst (λ (l : List Link). (k : ℕ) → k < length l → (link_at l k).parent < length l) (sym new) (linked_within keys old.within link inside);
    }
