-- Texts that are received piece by piece.
use Rattle.std.proofs.Common.{◌≡◌, ◌∙◌, ◌<◌, ◌+◌, ℕ, List, [], ◌∷◌, ◌++◌, drop, get_or, length, map, take, refl, sym, ap, subst, append_assoc, append-nil, take-append-drop, Option, Result, Ok, Err, false}
use Rattle.std.specs.Prelude.{OnOk, flat_map, is_err}
use Rattle.std.proofs.lemmas.List.{drop_more, map-append, take_more}
use Rattle.std.proofs.lemmas.Grind.{flat_map-append}
use Rattle.std.proofs.lemmas.List.Concat.{flat_map-cons}
use Rattle.jp_devices.specs.Devices.{Device, Received, Writes}
use Rattle.jp_devices.proofs.Devices.{received_none}
use Rattle.jp_devices.proofs.Chains.{Part, part_behind, part_more}

-- the items before one, that one, and those after it
pub around : {X : Type 0} (xs : List X) (i : ℕ) (d : X) → i < length xs → xs ≡ (take i xs ++ get_or xs i d ∷ []) ++ drop (i + 1) xs
around xs i d within =
    sym (take-append-drop i xs)
    ∙ ap (λ l. take i xs ++ l) (drop_more xs i d within)
    ∙ sym (append_assoc (take i xs) (get_or xs i d ∷ []) (drop (i + 1) xs))

-- the same of what each gives
pub given_around : {X Y A : Type 0} (f : Y → List A) (v : X → Y) (xs : List X) (i : ℕ) (d : X) → i < length xs
    → flat_map f (map v xs) ≡ (flat_map f (map v (take i xs)) ++ f (v (get_or xs i d))) ++ flat_map f (map v (drop (i + 1) xs))
given_around f v xs i d within =
    let front = take i xs in
    let one = get_or xs i d in
    let rest = drop (i + 1) xs in
    ap (λ l. flat_map f (map v l)) (around xs i d within)
    ∙ ap (flat_map f) (map-append v (front ++ one ∷ []) rest)
    ∙ flat_map-append f (map v (front ++ one ∷ [])) (map v rest)
    ∙ ap (λ l. l ++ flat_map f (map v rest)) (ap (flat_map f) (map-append v front (one ∷ [])) ∙ flat_map-append f (map v front) (v one ∷ [])
    ∙ ap (λ l. flat_map f (map v front) ++ l) (flat_map-cons f (v one) [] ∙ append-nil (f (v one))))

-- what the items before one give, and what that one gives
pub given_more : {X Y A : Type 0} (f : Y → List A) (v : X → Y) (xs : List X) (i : ℕ) (x : X) → i < length xs → x ≡ get_or xs i x
    → flat_map f (map v (take (i + 1) xs)) ≡ flat_map f (map v (take i xs)) ++ f (v x)
given_more f v xs i x within is =
    ap (λ l. flat_map f (map v l)) (take_more xs i x within ∙ ap (λ y. take i xs ++ y ∷ []) (sym is))
    ∙ ap (flat_map f) (map-append v (take i xs) (x ∷ []))
    ∙ flat_map-append f (map v (take i xs)) (v x ∷ [])
    ∙ ap (λ l. flat_map f (map v (take i xs)) ++ l) (flat_map-cons f (v x) [] ∙ append-nil (f (v x)))

module _ {W : Type 0} {contents : W → Option (List ℕ)} where
  -- nothing was written
  pub none_received : (device : Device W) → Received contents device device []
  none_received device = received_none contents device

  -- all so far is a beginning
  pub part_so_far : (old new : Device W) (a : List ℕ) → Received contents old new a → Part contents old new a
  part_so_far old new a w = subst (λ t. Part contents old new t) (append-nil a) (part_behind old new new a [] w ([], refl, none_received new))

  -- a beginning of the piece that comes next, after the pieces so far, begins the text
  pub part_next : (old mid new : Device W) (front one rest all : List ℕ) → all ≡ (front ++ one) ++ rest → Received contents old mid front → Part contents mid new one → Part contents old new all
  part_next old mid new front one rest all is w p = subst (λ t. Part contents old new t) (sym is) (part_more old new (front ++ one) rest (part_behind old mid new front one w p))

-- what a call that did not fail says
pub by_ok : {A E : Type 0} (result : Result A E) (P : Type 0) → is_err result ≡ false → OnOk result P → P
by_ok (Ok x) P e h = h
by_ok (Err fault) P e h = absurd (cc)

-- nothing was written
pub none_written : {W A E : Type 0} (contents : W → Option (List ℕ)) (result : Result A E) (device : Device W) → Writes contents device device result []
none_written contents (Ok x) device = received_none contents device
none_written contents (Err e) device = ([], refl, received_none contents device)
