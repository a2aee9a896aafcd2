-- Indexes from a position on, of which the first is handled after the others.
use Rattle.std.proofs.Common.{◌≡◌, ◌∙◌, ◌<◌, ℕ, zero, suc, List, [], ◌∷◌, length, take, drop, set, get_or, refl, sym, ap, subst, arith}
use Rattle.std.specs.Prelude.{Option, Result, Ok, Err, OnErr}
use Rattle.jp_model.specs.Json.Tree.{Tree}
use Rattle.jp_model.specs.Steps.{Step}
use Rattle.jp_index.specs.Entries.{Entry, entry_in, with_line}
use Rattle.jp_index.specs.Indexes.{IsIndexOf, IsChange}
use Rattle.jp_index.specs.declared.index.Entries.{Entries}
use Rattle.jp_index.specs.declared.index.ValueIndex.{ValueIndex}
use Rattle.jp_store.specs.Edits.{IsSame, AreSame, IsEdited, AreEdited}
use Rattle.jp_store.specs.Stored.{path_of}

pub on_err : {A E : Type 0} (r : Result A E) (P : Type 0) → P → OnErr r P
on_err (Ok x) P p = tt
on_err (Err e) P p = p

same_index : (x : ValueIndex) → IsSame x x
same_index x = record { path_is = refl; entries_are = λ es h. h }

pub same_all : (xs : List ValueIndex) → AreSame xs xs
same_all [] = tt
same_all (x ∷ xs) = (same_index x, same_all xs)

pub same_set : (xs : List ValueIndex) (i : ℕ) (d y : ValueIndex) → i < length xs → IsSame (get_or xs i d) y → AreSame (drop i xs) (drop i (set xs i y))
same_set [] i d y l h = absurd (omega arith)
same_set (x ∷ xs) zero d y l h = (h, same_all xs)
same_set (x ∷ xs) (suc i) d y l h = same_set xs i d y (omega arith) h

head_same : (y z : ValueIndex) (ys zs : List ValueIndex) → z ∷ zs ≡ y ∷ ys → z ≡ y
head_same y z ys zs e = cc

tail_same : (y z : ValueIndex) (ys zs : List ValueIndex) → z ∷ zs ≡ y ∷ ys → zs ≡ ys
tail_same y z ys zs e = cc

-- the front stayed
pub front_stays : (xs new : List ValueIndex) (i : ℕ) (y : ValueIndex) → i < length xs → take (suc i) new ≡ take (suc i) (set xs i y) → take i new ≡ take i xs
front_stays [] new i y l e = absurd (omega arith)
front_stays (x ∷ xs) new zero y l e = refl
front_stays (x ∷ xs) [] (suc i) y l e = absurd (cc)
front_stays (x ∷ xs) (z ∷ new) (suc i) y l e =
    let h : z ≡ x = head_same x z _ _ e in
    let k : take i new ≡ take i xs = front_stays xs new i y (omega arith) (tail_same x z _ _ e) in
    cc

pub first_is : (xs new : List ValueIndex) (i : ℕ) (d y : ValueIndex) → i < length xs → take (suc i) new ≡ take (suc i) (set xs i y) → get_or new i d ≡ y
first_is [] new i d y l e = absurd (omega arith)
first_is (x ∷ xs) [] zero d y l e = absurd (cc)
first_is (x ∷ xs) (z ∷ new) zero d y l e = head_same y z _ _ e
first_is (x ∷ xs) [] (suc i) d y l e = absurd (cc)
first_is (x ∷ xs) (z ∷ new) (suc i) d y l e = first_is xs new i d y (omega arith) (tail_same x z _ _ e)

-- none was edited
pub rest_same : (xs new : List ValueIndex) (i : ℕ) (d y : ValueIndex) → i < length xs → IsSame (get_or xs i d) y → take (suc i) new ≡ take (suc i) (set xs i y)
    → AreSame (drop (suc i) (set xs i y)) (drop (suc i) new) → AreSame (drop i xs) (drop i new)
rest_same [] new i d y l h e r = absurd (omega arith)
rest_same (x ∷ xs) [] zero d y l h e r = absurd (cc)
rest_same (x ∷ xs) (z ∷ new) zero d y l h e r = (subst (IsSame x) (sym (head_same y z _ _ e)) h, r)
rest_same (x ∷ xs) [] (suc i) d y l h e r = absurd (cc)
rest_same (x ∷ xs) (z ∷ new) (suc i) d y l h e r = rest_same xs new i d y (omega arith) h (tail_same x z _ _ e) r

-- all were edited
pub rest_edited : (line : ℕ) (tree : Option Tree) (xs new : List ValueIndex) (i : ℕ) (d y z : ValueIndex) → i < length xs → IsEdited line tree (get_or xs i d) z → take (suc i) new ≡ take (suc i) (set xs i y)
    → AreEdited line tree (drop (suc i) (set xs i y)) (drop (suc i) new) → AreEdited line tree (drop i xs) (drop i (set new i z))
rest_edited line tree [] new i d y z l h e r = absurd (omega arith)
rest_edited line tree (x ∷ xs) [] zero d y z l h e r = absurd (cc)
rest_edited line tree (x ∷ xs) (w ∷ new) zero d y z l h e r = (h, r)
rest_edited line tree (x ∷ xs) [] (suc i) d y z l h e r = absurd (cc)
rest_edited line tree (x ∷ xs) (w ∷ new) (suc i) d y z l h e r = rest_edited line tree xs new i d y z (omega arith) h (tail_same x w _ _ e) r

-- what stands at a position does not depend on what would stand past the end
pub same_at : (xs : List ValueIndex) (i : ℕ) (d e : ValueIndex) → i < length xs → get_or xs i d ≡ get_or xs i e
same_at [] i d e l = absurd (omega arith)
same_at (x ∷ xs) zero d e l = refl
same_at (x ∷ xs) (suc i) d e l = same_at xs i d e (omega arith)

-- an index into which a change is put, after room was made in it
pub one_edited : (line : ℕ) (tree : Option Tree) (x y w z : ValueIndex) (changes : Entries) → IsSame x y → w ≡ y → path_of z ≡ path_of w
    → ((path : List Step) (es : List Entry) (n : ℕ) (here : List Entry) → IsIndexOf w path es → IsChange changes path n here → IsIndexOf z path (with_line n here es))
    → IsChange changes (path_of x) line (entry_in (path_of x) line tree) → IsEdited line tree x z
one_edited line tree x y w z changes same e path put change = record {
  path_is = path ∙ (ap path_of e ∙ same.path_is);
  entries_are = λ es h. put (path_of x) es line (entry_in (path_of x) line tree) (subst (λ v. IsIndexOf v (path_of x) es) (sym e) (same.entries_are es h)) change;
}
