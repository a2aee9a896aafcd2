-- The parts of a tree, put in front of one another.
use Rattle.std.proofs.Common.{◌≡◌, ℕ, zero, suc, ◌+◌, ◌-◌, ◌<◌, ◌≤◌, ◌⊎◌, inl, inr, List, [], ◌∷◌, ◌++◌, length, take, drop, get_or, Option, Some, arith, sym, ◌∙◌, ap, subst}
use Rattle.jp_model.specs.Pattern.Language.{Language, Splits, Repeats, RepeatsWithin}
use Rattle.jp_iregexp.specs.declared.graph.State.{State}
use Rattle.jp_iregexp.specs.declared.node.Node.{Node}
use Rattle.jp_iregexp.specs.Graphs.{IsFan, AddsEntry, AddsEntries}
use Rattle.jp_iregexp.specs.Nodes.{most_of, tree_of, sequence_list, choice_list}
use Rattle.jp_iregexp.specs.Layouts.{turns_in_front}
use Rattle.jp_iregexp.proofs.Parts.{drop_item, take_item}
use Rattle.jp_iregexp.proofs.Counted.{choice_more, choice_fewer, times_join, times_split}
use Rattle.jp_iregexp.proofs.Entering.{entry_none, entry_same, entry_then, entry_optional, entries_more, entries_same}

-- one part more of a sequence
pub sequence_entry : (old mid new : List State) (parts : List Node) (i n : ℕ) (part : Node) (next at entry : ℕ) → i + 1 ≡ n → i < length parts → part ≡ get_or parts i part → AddsEntry old mid (Language (sequence_list (drop n parts))) next at → AddsEntry mid new (Language (tree_of part)) at entry
    → AddsEntry old new (Language (sequence_list (drop i parts))) next entry
sequence_entry old mid new parts i n part next at entry is inside item b a =
    subst (λ ps. AddsEntry old new (Language (sequence_list ps)) next entry) (sym (drop_item parts i part inside item ∙ ap (λ k. part ∷ drop k parts) is))
    (entry_then old mid new (Language (tree_of part)) (Language (sequence_list (drop n parts))) next at entry b a)

-- one branch more
pub choice_entry : (old mid new : List State) (parts : List Node) (i : ℕ) (part : Node) (next entry : ℕ) (entries more : List ℕ) → i < length parts → part ≡ get_or parts i part → more ≡ entries ++ entry ∷ [] → AddsEntries old mid (Language (choice_list (take i parts))) next entries → AddsEntry mid new (Language (tree_of part)) next entry
    → AddsEntries old new (Language (choice_list (take (i + 1) parts))) next more
choice_entry old mid new parts i part next entry entries more inside item is a b =
    subst (λ ps. AddsEntries old new (Language (choice_list ps)) next more) (sym (take_item parts i part inside item))
    (subst (AddsEntries old new (Language (choice_list (take i parts ++ part ∷ []))) next) (sym is)
    (entries_same old new (λ x. Language (choice_list (take i parts)) x ⊎ Language (tree_of part) x) (Language (choice_list (take i parts ++ part ∷ []))) next (entries ++ entry ∷ [])
    (choice_more (take i parts) part) (choice_fewer (take i parts) part)
    (entries_more old mid new (Language (choice_list (take i parts))) (Language (tree_of part)) next entry entries a b)))

-- one turn more
pub exact_entry : (old mid new : List State) (Member : List ℕ → Type 0) (n next at entry : ℕ) → AddsEntry old mid (Repeats Member n) next at → AddsEntry mid new Member at entry → AddsEntry old new (Repeats Member (n + 1)) next entry
exact_entry old mid new Member n next at entry b a =
    let one : suc n ≡ n + 1 = omega arith in
    subst (λ k. AddsEntry old new (Repeats Member k) next entry) one (entry_then old mid new Member (Repeats Member n) next at entry b a)

module _ (Member : List ℕ → Type 0) where
  within_one : (n : ℕ) (x : List ℕ) → Splits Member (RepeatsWithin Member 0 (Some n)) x ⊎ (x ≡ []) → RepeatsWithin Member 0 (Some (n + 1)) x
  within_one n x m = elim m [
    | inl s ↦ (let w = s.second in let few = w.few in record { count = suc w.count; enough = omega arith; few = omega (arith, few); repeats = record { front = s.front; rest = s.rest; is = s.is; first = s.first; second = w.repeats } })
    | inr e ↦ record { count = 0; enough = omega arith; few = omega arith; repeats = e }
  ]

  within_two : (n count : ℕ) (x : List ℕ) → count ≤ n + 1 → Repeats Member count x → Splits Member (RepeatsWithin Member 0 (Some n)) x ⊎ (x ≡ [])
  within_two n zero x few r = inr r
  within_two n (suc count) x few r = inl (record { front = r.front; rest = r.rest; is = r.is; first = r.first; second = record { count = count; enough = omega arith; few = omega arith; repeats = r.second } })

-- no turn
pub no_turns : (old : List State) (Member : List ℕ → Type 0) (next : ℕ) → AddsEntry old old (RepeatsWithin Member 0 (Some 0)) next next
no_turns old Member next = entry_same old old (λ x. x ≡ []) (RepeatsWithin Member 0 (Some 0)) next next (λ x e. record { count = 0; enough = omega arith; few = omega arith; repeats = e }) (λ x w. none x w.count w.few w.repeats) (entry_none old next)
  where
    none : (x : List ℕ) (count : ℕ) → count ≤ 0 → Repeats Member count x → x ≡ []
    none x zero few r = r
    none x (suc count) few r = absurd (omega arith)

-- one turn more, or none
pub up_to_entry : (old mid late new : List State) (Member : List ℕ → Type 0) (w : State) (n next at entry k : ℕ) → AddsEntry old mid (RepeatsWithin Member 0 (Some n)) next at → AddsEntry mid late Member at entry → k ≡ length late → new ≡ late ++ w ∷ [] → IsFan w (entry ∷ next ∷ [])
    → AddsEntry old new (RepeatsWithin Member 0 (Some (n + 1))) next k
up_to_entry old mid late new Member w n next at entry k b a len is fan =
    let within = RepeatsWithin Member 0 (Some n) in
    entry_same old new (λ x. Splits Member within x ⊎ (x ≡ [])) (RepeatsWithin Member 0 (Some (n + 1))) next k (within_one Member n) (λ x r. within_two Member n r.count x r.few r.repeats)
    (entry_optional old late new (Splits Member within) w next entry k (entry_then old mid late Member within next at entry b a) len is fan)

-- the turns that each text has before the last ones
pub times_entry : (old mid new : List State) (Member : List ℕ → Type 0) (least : ℕ) (further : Option ℕ) (next at entry : ℕ) → AddsEntry old mid (RepeatsWithin Member (least - turns_in_front least further) further) next at → AddsEntry mid new (Repeats Member (turns_in_front least further)) at entry
    → AddsEntry old new (RepeatsWithin Member least (most_of least further)) next entry
times_entry old mid new Member least further next at entry b a =
    entry_same old new (Splits (Repeats Member (turns_in_front least further)) (RepeatsWithin Member (least - turns_in_front least further) further)) (RepeatsWithin Member least (most_of least further)) next entry
    (times_join Member least further) (times_split Member least further)
    (entry_then old mid new (Repeats Member (turns_in_front least further)) (RepeatsWithin Member (least - turns_in_front least further) further) next at entry b a)
