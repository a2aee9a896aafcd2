-- What is put before what is there.
use Rattle.std.proofs.Common.{◌≡◌, List, ℕ, [], ◌++◌, sym, ◌∙◌, ap, append-nil, append_assoc, Option, Some, None}
use Rattle.std.specs.Prelude.{IfSome}

-- two texts, the last one first
pub put_two : (a b old mid new : List ℕ) → mid ≡ b ++ old → new ≡ a ++ mid → new ≡ (a ++ b) ++ old
put_two a b old mid new e f = f ∙ (ap (λ l. a ++ l) e ∙ sym (append_assoc a b old))

pub put_last : {A : Type 0} (result : Option A) (a b old mid new : List ℕ) → mid ≡ b ++ old → IfSome result (λ _. new ≡ a ++ mid)
    → IfSome result (λ _. new ≡ (a ++ b) ++ old)
put_last None a b old mid new e f = tt
put_last (Some x) a b old mid new e f = put_two a b old mid new e f

-- what a node's path has beyond its parent's
pub one_step_more : (parent step path old new all : List ℕ) → path ≡ parent ++ step → new ≡ step ++ old → path ++ old ≡ all → parent ++ new ≡ all
one_step_more parent step path old new all e f g = ap (λ l. parent ++ l) f ∙ (sym (append_assoc parent step old) ∙ (ap (λ l. l ++ old) (sym e) ∙ g))

-- nothing was there
pub alone : (text old new shown : List ℕ) → shown ≡ new → new ≡ text ++ old → old ≡ [] → shown ≡ text
alone text old new shown e f g = e ∙ (f ∙ (ap (λ l. text ++ l) g ∙ append-nil text))

pub head_parts : (start number t path u : List ℕ) → (((start ++ number) ++ t) ++ path) ++ u ≡ start ++ (number ++ (t ++ (path ++ u)))
head_parts start number t path u = simp append_assoc

pub node_parts : (head value end : List ℕ) → (head ++ value) ++ end ≡ head ++ (value ++ end)
node_parts head value end = append_assoc head value end
