-- The numbers of the lines that pass a test, where a line changes or is added.
use Rattle.std.proofs.Common.{◌≡◌, ◌∙◌, ◌<◌, ◌≤◌, ◌+◌, ℕ, zero, suc, List, [], ◌∷◌, ◌++◌, length, set, drop, get_or, Bool, true, false, refl, sym, ap, ap₂, append-nil, append_assoc, arith, if◌then◌else◌}
use Rattle.std.specs.Prelude.{filter, nat_lt}
use Rattle.std.proofs.lemmas.List.{drop_more}
use Rattle.std.proofs.lemmas.List.Elements.{filter-append}
use Rattle.jp_model.specs.Numbered.{numbers_where}
use Rattle.jp_model.proofs.Numbered.{numbers_where-append}
use Rattle.jp_index.specs.Numbered.{numbers_behind, with_number}

-- the number itself, or nothing
abbrev one : Bool → ℕ → List ℕ
one b n = if b then n ∷ [] else []

step : (b : Bool) (n : ℕ) (rest : List ℕ) → (if b then n ∷ rest else rest) ≡ one b n ++ rest
step true n rest = refl
step false n rest = refl

one_all : (t : ℕ → Bool) (b : Bool) (n : ℕ) → t n ≡ true → filter t (one b n) ≡ one b n
one_all t true n e = ap (λ c. if c then n ∷ [] else []) e
one_all t false n e = refl

one_none : (t : ℕ → Bool) (b : Bool) (n : ℕ) → t n ≡ false → filter t (one b n) ≡ []
one_none t true n e = ap (λ c. if c then n ∷ [] else []) e
one_none t false n e = refl

one_few : (b : Bool) (n k : ℕ) (ns : List ℕ) → length ns ≤ k → length (if b then n ∷ ns else ns) ≤ suc k
one_few true n k ns l = omega arith
one_few false n k ns l = omega arith

module _ {X : Type 0} (p : X → Bool) where
  pub numbers_few : (n : ℕ) (ss : List X) → length (numbers_where p n ss) ≤ length ss
  numbers_few n [] = omega arith
  numbers_few n (s ∷ ss) = one_few (p s) n (length ss) (numbers_where p (n + 1) ss) (numbers_few (n + 1) ss)

  parts : (n : ℕ) (s : X) (ss : List X) → numbers_where p n (s ∷ ss) ≡ one (p s) n ++ numbers_where p (n + 1) ss
  parts n s ss = step (p s) n (numbers_where p (n + 1) ss)

  filtered : (t : ℕ → Bool) (n : ℕ) (s : X) (ss : List X) → filter t (numbers_where p n (s ∷ ss)) ≡ filter t (one (p s) n) ++ filter t (numbers_where p (n + 1) ss)
  filtered t n s ss = ap (filter t) (parts n s ss) ∙ filter-append t (one (p s) n) (numbers_where p (n + 1) ss)

  all_stay : (t : ℕ → Bool) (n : ℕ) (ss : List X) → ((k : ℕ) → n ≤ k → k < n + length ss → t k ≡ true) → filter t (numbers_where p n ss) ≡ numbers_where p n ss
  all_stay t n [] all = refl
  all_stay t n (s ∷ ss) all =
      filtered t n s ss
      ∙ ap₂ (λ (x y : List ℕ). x ++ y) (one_all t (p s) n (all n (omega arith) (omega arith))) (all_stay t (n + 1) ss (λ k l m. all k (omega arith) (omega arith)))
      ∙ sym (parts n s ss)

  pub none_stay : (t : ℕ → Bool) (n : ℕ) (ss : List X) → ((k : ℕ) → n ≤ k → k < n + length ss → t k ≡ false) → filter t (numbers_where p n ss) ≡ []
  none_stay t n [] all = refl
  none_stay t n (s ∷ ss) all =
      filtered t n s ss
      ∙ ap₂ (λ (x y : List ℕ). x ++ y) (one_none t (p s) n (all n (omega arith) (omega arith))) (none_stay t (n + 1) ss (λ k l m. all k (omega arith) (omega arith)))

  -- another status in the place of one
  pub lines_set : (n : ℕ) (ss : List X) (i m : ℕ) (s : X) → i < length ss → m ≡ n + i → with_number m (p s) (numbers_where p n ss) ≡ numbers_where p n (set ss i s)
  lines_set n [] i m s l e = absurd (omega arith)
  lines_set n (r ∷ ss) zero m s l e =
      let same : m ≡ n = omega (arith, e) in
      let before : filter (λ k. nat_lt k m) (numbers_where p n (r ∷ ss)) ≡ [] =
      filtered (λ k. nat_lt k m) n r ss
      ∙ ap₂ (λ (x y : List ℕ). x ++ y) (one_none (λ k. nat_lt k m) (p r) n (search (arith, same))) (none_stay (λ k. nat_lt k m) (n + 1) ss (λ k low high. search (arith, same))) in
      let behind : filter (λ k. nat_lt m k) (numbers_where p n (r ∷ ss)) ≡ numbers_where p (n + 1) ss =
      filtered (λ k. nat_lt m k) n r ss
      ∙ ap₂ (λ (x y : List ℕ). x ++ y) (one_none (λ k. nat_lt m k) (p r) n (search (arith, same))) (all_stay (λ k. nat_lt m k) (n + 1) ss (λ k low high. search (arith, same))) in
      ap₂ (λ (x y : List ℕ). x ++ one (p s) m ++ y) before behind ∙ ap (λ k. one (p s) k ++ numbers_where p (n + 1) ss) same ∙ sym (parts n s ss)
  lines_set n (r ∷ ss) (suc i) m s l e =
      let rest = numbers_where p (n + 1) ss in
      let before : filter (λ k. nat_lt k m) (numbers_where p n (r ∷ ss)) ≡ one (p r) n ++ filter (λ k. nat_lt k m) rest =
      filtered (λ k. nat_lt k m) n r ss ∙ ap (λ l. l ++ filter (λ k. nat_lt k m) rest) (one_all (λ k. nat_lt k m) (p r) n (search (arith, e))) in
      let behind : filter (λ k. nat_lt m k) (numbers_where p n (r ∷ ss)) ≡ filter (λ k. nat_lt m k) rest =
      filtered (λ k. nat_lt m k) n r ss ∙ ap (λ l. l ++ filter (λ k. nat_lt m k) rest) (one_none (λ k. nat_lt m k) (p r) n (search (arith, e))) in
      ap₂ (λ (x y : List ℕ). x ++ one (p s) m ++ y) before behind
      ∙ ap (λ l. l ++ filter (λ k. nat_lt m k) rest) (append_assoc (one (p r) n) (filter (λ k. nat_lt k m) rest) (one (p s) m))
      ∙ append_assoc (one (p r) n) (filter (λ k. nat_lt k m) rest ++ one (p s) m) (filter (λ k. nat_lt m k) rest)
      ∙ ap (λ l. one (p r) n ++ l) (lines_set (n + 1) ss i m s (omega arith) (omega (arith, e)))
      ∙ sym (parts n r (set ss i s))

  -- one status more, in front of whose number are all others
  pub lines_more : (n : ℕ) (ss : List X) (m : ℕ) (s : X) → m ≡ n + length ss → with_number m (p s) (numbers_where p n ss) ≡ numbers_where p n (ss ++ s ∷ [])
  lines_more n ss m s e =
      let ls = numbers_where p n ss in
      let before : filter (λ k. nat_lt k m) ls ≡ ls = all_stay (λ k. nat_lt k m) n ss (λ k low high. search (arith, e)) in
      let behind : filter (λ k. nat_lt m k) ls ≡ [] = none_stay (λ k. nat_lt m k) n ss (λ k low high. search (arith, e)) in
      ap₂ (λ (x y : List ℕ). x ++ one (p s) m ++ y) before behind ∙ append-nil (ls ++ one (p s) m) ∙ sym (numbers_where-append p n m ss s e)

  -- the numbers after one of the elements, or after the one before them
  pub behind_are : (n i m : ℕ) (ss : List X) → m + 1 ≡ n + i → numbers_behind m (numbers_where p n ss) ≡ numbers_where p (m + 1) (drop i ss)
  behind_are n zero m ss e = let first : n ≡ m + 1 = omega (arith, e) in all_stay (λ k. nat_lt m k) n ss (λ k low high. search (arith, e)) ∙ ap (λ k. numbers_where p k ss) first
  behind_are n (suc i) m [] e = refl
  behind_are n (suc i) m (s ∷ ss) e =
      filtered (λ k. nat_lt m k) n s ss
      ∙ (ap (λ l. l ++ numbers_behind m (numbers_where p (n + 1) ss)) (one_none (λ k. nat_lt m k) (p s) n (search (arith, e))) ∙ behind_are (n + 1) i m ss (omega (arith, e)))

  -- the elements from one on that do not pass, as many as these
  pub passed_over : (t n i : ℕ) (ss : List X) (d : X) → i + t ≤ length ss → ((k : ℕ) → i ≤ k → k < i + t → p (get_or ss k d) ≡ false) → numbers_where p n (drop i ss) ≡ numbers_where p (n + t) (drop (i + t) ss)
  passed_over zero n i ss d l none = ap₂ (λ (m j : ℕ). numbers_where p m (drop j ss)) (omega arith) (omega arith)
  passed_over (suc t) n i ss d l none =
      let rest = numbers_where p (n + 1) (drop (i + 1) ss) in
      ap (numbers_where p n) (drop_more ss i d (omega arith))
      ∙ (ap (λ b. if b then n ∷ rest else rest) (none i (omega arith) (omega arith))
      ∙ (passed_over t (n + 1) (i + 1) ss d (omega arith) (λ k low high. none k (omega arith) (omega arith)) ∙ ap₂ (λ (m j : ℕ). numbers_where p m (drop j ss)) (omega arith) (omega arith)))

  -- one element more that does not pass, or none
  pub numbers_same : (b : Bool) (n : ℕ) (ss more : List X) (s : X) → p s ≡ false → more ≡ (if b then ss ++ s ∷ [] else ss) → numbers_where p n more ≡ numbers_where p n ss
  numbers_same true n ss more s none e =
      ap (numbers_where p n) e
      ∙ (numbers_where-append p n (n + length ss) ss s refl ∙ (ap (λ t. numbers_where p n ss ++ (if t then (n + length ss) ∷ [] else [])) none ∙ append-nil (numbers_where p n ss)))
  numbers_same false n ss more s none e = ap (numbers_where p n) e
