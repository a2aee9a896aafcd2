-- What was compiled keeps its meaning as slots are added.
use Rattle.std.proofs.Common.{◌≡◌, ℕ, List, [], ◌∷◌, ◌++◌, length, map, sym, ◌∙◌, ap, ap₂, refl, append_assoc, append-nil, Option, Some}
use Rattle.std.specs.Prelude.{slice_get}
use Rattle.jp_eval.specs.declared.program.Slot.{Slot}
use Rattle.jp_eval.specs.Programs.{Meant, Table, Means, Grows, table_of}
use Rattle.jp_eval.proofs.Tables.{get_behind, length_table}

pub grows_on : (old mid new : List Slot) → Grows old mid → Grows mid new → Grows old new
grows_on old mid new a b = (a.0 ++ b.0, b.1 ∙ (ap (λ (x : Table). x ++ b.0) a.1 ∙ append_assoc (table_of old) a.0 b.0))

-- nothing was added
pub means_so : {A : Type 0} (old new : List Slot) (v : Table → A) (x : A) → new ≡ old → ((table : Table) → v table ≡ x) → Means old new v x
means_so {A} old new v x e h = record { grows = ([], ap table_of e ∙ sym (append-nil (table_of old))); is = λ more. h (table_of new ++ more) }

-- a part of it is what was compiled
pub means_by : {A B : Type 0} {old new : List Slot} {v : Table → A} {x : A} (f : A → B) (w : Table → B) (y : B) → ((table : Table) → w table ≡ f (v table)) → y ≡ f x → Means old new v x → Means old new w y
means_by {A} {B} {old} {new} {v} {x} f w y h e m = record { grows = m.grows; is = λ more. h (table_of new ++ more) ∙ (ap f (m.is more) ∙ sym e) }

-- what was compiled before, after more slots
pub later : {A : Type 0} {old mid : List Slot} {v : Table → A} {x : A} (new : List Slot) → Means old mid v x → Grows mid new → (more : Table) → v (table_of new ++ more) ≡ x
later {A} {old} {mid} {v} {x} new m g more =
    ap v (ap (λ (t : Table). t ++ more) g.1 ∙ append_assoc (table_of mid) g.0 more) ∙ m.is (g.0 ++ more)

-- two parts, one after the other
pub both_mean : {A B D : Type 0} {old mid new : List Slot} {v : Table → A} {x : A} {w : Table → B} {y : B} (f : A → B → D) (u : Table → D) (z : D)
    → ((table : Table) → u table ≡ f (v table) (w table)) → z ≡ f x y → Means old mid v x → Means mid new w y → Means old new u z
both_mean {A} {B} {D} {old} {mid} {new} {v} {x} {w} {y} f u z h e a b = record {
  grows = grows_on old mid new a.grows b.grows;
  is = λ more. h (table_of new ++ more) ∙ (ap₂ f (later new a b.grows more) (b.is more) ∙ sym e);
}

pub map_last : {A B : Type 0} (f : A → B) (done : List A) (c : A) → map f (done ++ c ∷ []) ≡ map f done ++ f c ∷ []
map_last f [] c = refl
map_last f (d ∷ done) c = ap (λ l. f d ∷ l) (map_last f done c)

-- one part more
pub one_more : {A B : Type 0} {old mid new : List Slot} {ahead : List A} {all : List A} (f : Table → B → A) (done : List B) (c : B) (x : A) (rest : List A) (now : List B)
    → ahead ≡ x ∷ rest → now ≡ done ++ c ∷ [] → Means old mid (λ t. map (f t) done ++ ahead) all → Means mid new (λ t. f t c) x → Means old new (λ t. map (f t) now ++ rest) all
one_more {A} {B} {old} {mid} {new} {ahead} {all} f done c x rest now e d a b = record {
  grows = grows_on old mid new a.grows b.grows;
  is = λ more.
      let t : Table = table_of new ++ more in
      ap (λ (l : List B). map (f t) l ++ rest) d
      ∙ (ap (λ (l : List A). l ++ rest) (map_last (f t) done c)
      ∙ (append_assoc (map (f t) done) (f t c ∷ []) rest
      ∙ (ap (λ (y : A). map (f t) done ++ y ∷ rest) (b.is more)
      ∙ (ap (λ (l : List A). map (f t) done ++ l) (sym e)
      ∙ later new a b.grows more))));
}

-- none is left
pub none_more : {A B D : Type 0} {old new : List Slot} {ahead : List A} {all : List A} (f : Table → B → A) (done : List B) (g : List A → D)
    → ahead ≡ [] → Means old new (λ t. map (f t) done ++ ahead) all → Means old new (λ t. g (map (f t) done)) (g all)
none_more {A} {B} {D} {old} {new} {ahead} {all} f done g e a = record {
  grows = a.grows;
  is = λ more.
      let t : Table = table_of new ++ more in
      ap g (sym (append-nil (map (f t) done)) ∙ (ap (λ (l : List A). map (f t) done ++ l) (sym e) ∙ a.is more));
}

-- ---- slots

-- a slot was added, and the part is what is read of it
pub slot_means : {A : Type 0} (old new : List Slot) (m : Meant) (u : Table → A) (read : Option Meant → A) (position : ℕ) (y : A)
    → ((table : Table) → u table ≡ read (slice_get table position)) → y ≡ read (Some m) → table_of new ≡ table_of old ++ m ∷ [] → position ≡ length old → Means old new u y
slot_means {A} old new m u read position y h e grown p =
    let size : position ≡ length (table_of old) = p ∙ sym (length_table old) in
    record {
      grows = (m ∷ [], grown);
      is = λ more.
          let found : slice_get (table_of new ++ more) position ≡ Some m = ap₂ (λ (l : Table) (k : ℕ). slice_get (l ++ more) k) grown size ∙ get_behind (table_of old) m more in
          h (table_of new ++ more) ∙ (ap read found ∙ sym e);
    }

-- what was compiled after other slots
pub means_behind : {A : Type 0} {old mid new : List Slot} {v : Table → A} {x : A} → Grows old mid → Means mid new v x → Means old new v x
means_behind {A} {old} {mid} {new} g m = record { grows = grows_on old mid new g m.grows; is = m.is }

-- with no more slots
pub whole : {A : Type 0} {v : Table → A} {x : A} (old new : List Slot) → Means old new v x → v (table_of new) ≡ x
whole {A} {v} {x} old new m = ap v (sym (append-nil (table_of new))) ∙ m.is []
