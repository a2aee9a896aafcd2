-- The lines that indexes tell are those that are to be opened.
use Rattle.std.proofs.Common.{◌≡◌, ℕ, zero, suc, ◌+◌, ◌-◌, ◌<◌, ◌≤◌, List, [], ◌∷◌, ◌++◌, length, map, take, Bool, true, false, ◌&&◌, not, ◌==◌, Some, None, Option, if◌then◌else◌, slice_get, refl, sym, ap, ap₂, subst, ◌∙◌, arith}
use Rattle.std.specs.Prelude.{filter, All}
use Rattle.std.proofs.lemmas.List.{length-map, length-take-le, map-append, take_more}
use Rattle.std.proofs.lemmas.List.Elements.{All-nil, All-cons}
use Rattle.std.proofs.lemmas.Option.{get_or_from_slice_get, same_Some, slice_get_within}
use Rattle.jp_model.specs.Json.Reader.{status_of}
use Rattle.jp_model.specs.Json.Status.{LineStatus, blank, refused, parsed}
use Rattle.jp_model.specs.Json.Tree.{Value, value_of}
use Rattle.jp_model.specs.Meaning.Compare.{compared}
use Rattle.jp_model.specs.Meaning.Functions.{single_value, literal_value}
use Rattle.jp_model.specs.Meaning.Nodes.{Node}
use Rattle.jp_model.specs.Numbered.{numbers_where}
use Rattle.jp_model.specs.Plans.{Guard, guard_of, is_guard_operator, is_opened, is_tree, leading_steps, seek_of, steps_nodes}
use Rattle.jp_model.specs.Query.Syntax.{CompareOp, equal, not_equal, less, less_equal, greater, greater_equal, Segments}
use Rattle.jp_model.specs.Steps.{Step}
use Rattle.jp_model.proofs.Numbered.{numbers_where-append}
use Rattle.jp_index.specs.Entries.{Entry, status_entry, entries_from, entries_of, entries_at, lines_where}
use Rattle.jp_index.proofs.Taken.{where-append}
use Rattle.jp_store.specs.Collections.{Collection, statuses_in, line_status}
use Rattle.jp_store.proofs.Renewed.{entry_at}
use Rattle.jp_plan.specs.Passing.{seek_status, guard_status, IsLineOf}
use Rattle.jp_plan.proofs.Entries.{entries_there, line_there, status_at}

-- ---- what an index tells of each line

-- the number of a line that passes, in front of the others
in_front : (b : Bool) (n : ℕ) (rest : List ℕ) → (if b then n ∷ [] else []) ++ rest ≡ (if b then n ∷ rest else rest)
in_front true n rest = refl
in_front false n rest = refl

-- numbers that are told of entries, line by line
module _ (path : List Step) (f : List Entry → List ℕ) (nothing : f [] ≡ []) (joined : (xs ys : List Entry) → f (xs ++ ys) ≡ f xs ++ f ys) (test : LineStatus → Bool) where
  each_line : (n : ℕ) (ss : List LineStatus) → ((k m : ℕ) (s : LineStatus) → m ≡ n + k → slice_get ss k ≡ Some s → f (status_entry path m s) ≡ (if test s then m ∷ [] else []))
      → f (entries_from path n ss) ≡ numbers_where test n ss
  each_line n [] each = nothing
  each_line n (s ∷ ss) each =
      joined (status_entry path n s) (entries_from path (n + 1) ss)
      ∙ (ap₂ (λ (a b : List ℕ). a ++ b) (each zero n s (omega arith) refl) (each_line (n + 1) ss (λ k m r e h. each (suc k) m r (omega (arith, e)) h))
      ∙ in_front (test s) n (numbers_where test (n + 1) ss))

-- a line has one node of the path at most
module _ (path : List Step) (ss : List LineStatus) (one : (line : ℕ) → length (entries_at line (entries_of path ss)) ≤ 1) where
  one_at : (k m : ℕ) (s : LineStatus) → m ≡ 1 + k → slice_get ss k ≡ Some s → length (status_entry path m s) ≤ 1
  one_at k m s e h = subst (λ (es : List Entry). length es ≤ 1) (entries_there path ss m 1 k s e h) (one m)

  sought_one : (m : ℕ) (s : LineStatus) → length (status_entry path m s) ≤ 1 → map (λ (e : Entry). e.line) (status_entry path m s) ≡ (if seek_status (Some path) s then m ∷ [] else [])
  sought_one m blank l = refl
  sought_one m (refused fault) l = refl
  sought_one m (parsed t) l = of_nodes (steps_nodes path t) l
    where
      of_nodes : (ns : List Node) → length (map (entry_at m t) ns) ≤ 1 → map (λ (e : Entry). e.line) (map (entry_at m t) ns) ≡ (if not (length ns == 0) then m ∷ [] else [])
      of_nodes [] l = refl
      of_nodes (n ∷ []) l = refl
      of_nodes (n ∷ k ∷ ns) l = absurd (omega (arith, l))

  -- the lines of an index are those with a node of its path
  pub sought_are : map (λ (e : Entry). e.line) (entries_of path ss) ≡ numbers_where (seek_status (Some path)) 1 ss
  sought_are =
      each_line path (map (λ (e : Entry). e.line)) refl (map-append (λ (e : Entry). e.line)) (seek_status (Some path)) 1 ss
      (λ k m s e h. sought_one m s (one_at k m s e h))

-- Nothing compares so with a value.
nothing_fails : (op : CompareOp) (v : Value) → is_guard_operator op ≡ true → compared op None (Some v) ≡ false
nothing_fails equal v h = refl
nothing_fails not_equal v h = absurd (cc)
nothing_fails less v h = refl
nothing_fails less_equal v h = refl
nothing_fails greater v h = refl
nothing_fails greater_equal v h = refl

module _ (g : Guard) (ss : List LineStatus) (operator : is_guard_operator g.op ≡ true) (one : (line : ℕ) → length (entries_at line (entries_of g.steps ss)) ≤ 1) where
  abbrev v : Value
  v = literal_value g.literal

  guarded_one : (m : ℕ) (s : LineStatus) → length (status_entry g.steps m s) ≤ 1 → lines_where g.op v (status_entry g.steps m s) ≡ (if guard_status (Some g) s then m ∷ [] else [])
  guarded_one m blank l = refl
  guarded_one m (refused fault) l = refl
  guarded_one m (parsed t) l = of_nodes (steps_nodes g.steps t) l
    where
      of_nodes : (ns : List Node) → length (map (entry_at m t) ns) ≤ 1 → lines_where g.op v (map (entry_at m t) ns) ≡ (if compared g.op (single_value ns) (Some v) then m ∷ [] else [])
      of_nodes [] l = rw (nothing_fails g.op v operator) refl
      of_nodes (n ∷ []) l = pick (compared g.op (Some (value_of n.tree)) (Some v))
        where
          pick : (b : Bool) → map (λ (e : Entry). e.line) (if b then entry_at m t n ∷ [] else []) ≡ (if b then m ∷ [] else [])
          pick true = refl
          pick false = refl
      of_nodes (n ∷ k ∷ ns) l = absurd (omega (arith, l))

  -- the lines that an index gives for a guard are those in which it holds
  pub guarded_are : lines_where g.op v (entries_of g.steps ss) ≡ numbers_where (guard_status (Some g)) 1 ss
  guarded_are =
      each_line g.steps (lines_where g.op v) refl (where-append g.op v) (guard_status (Some g)) 1 ss
      (λ k m s e h. guarded_one m s (one_at g.steps ss one k m s e h))

-- ---- lines that pass two tests

-- a number in front of others, where it passes
abbrev held : Bool → ℕ → List ℕ → List ℕ
held b n rest = if b then n ∷ rest else rest

-- the same, of which another test keeps some
abbrev kept : (ℕ → Bool) → Bool → ℕ → List ℕ → List ℕ
kept f b n rest = filter f (held b n rest)

at_test : (f : ℕ → Bool) (n : ℕ) (c : Bool) (rest : List ℕ) → f n ≡ c → kept f true n rest ≡ held c n (filter f rest)
at_test f n c rest e = ap (λ d. held d n (filter f rest)) e

-- of the lines that pass one test, those that pass another
pub both_pass : (p t : LineStatus → Bool) (f : ℕ → Bool) (n : ℕ) (ss : List LineStatus) → ((k m : ℕ) (s : LineStatus) → m ≡ n + k → slice_get ss k ≡ Some s → f m ≡ t s)
    → filter f (numbers_where p n ss) ≡ numbers_where (λ s. t s && p s) n ss
both_pass p t f n [] agree = refl
both_pass p t f n (s ∷ ss) agree = pick (p s) (t s) (agree zero n s (omega arith) refl) (both_pass p t f (n + 1) ss (λ k m r e h. agree (suc k) m r (omega (arith, e)) h))
  where
    pick : (b c : Bool) → f n ≡ c → filter f (numbers_where p (n + 1) ss) ≡ numbers_where (λ s. t s && p s) (n + 1) ss → kept f b n (numbers_where p (n + 1) ss) ≡ held (c && b) n (numbers_where (λ s. t s && p s) (n + 1) ss)
    pick true true e h = at_test f n true (numbers_where p (n + 1) ss) e ∙ ap (λ (l : List ℕ). n ∷ l) h
    pick true false e h = at_test f n false (numbers_where p (n + 1) ss) e ∙ h
    pick false true e h = h
    pick false false e h = h

-- numbers that pass are those of the elements
pub all_numbers : (p : LineStatus → Bool) (P : ℕ → Type 0) (n : ℕ) (ss : List LineStatus) → ((k m : ℕ) → m ≡ n + k → k < length ss → P m) → All P (numbers_where p n ss)
all_numbers p P n [] h = All-nil P
all_numbers p P n (s ∷ ss) h = pick (p s) (h zero n (omega arith) (omega arith)) (all_numbers p P (n + 1) ss (λ k m e l. h (suc k) m (omega (arith, e)) (omega (arith, l))))
  where
    pick : (b : Bool) → P n → All P (numbers_where p (n + 1) ss) → All P (if b then n ∷ numbers_where p (n + 1) ss else numbers_where p (n + 1) ss)
    pick true here rest = All-cons P n (numbers_where p (n + 1) ss) here rest
    pick false here rest = rest

pub are_lines : (c : Collection) (p : LineStatus → Bool) → All (IsLineOf c) (numbers_where p 1 (statuses_in c))
are_lines c p =
    all_numbers p (IsLineOf c) 1 (statuses_in c)
    (λ k m e l. record { first = omega (arith, e); last = omega (arith, e, l, length-map c.state.lines (status_of c.framing)) })

-- the same of the lines of a collection, by their statuses
pub held_are : (c : Collection) (p t : LineStatus → Bool) → filter (λ line. t (line_status line c)) (numbers_where p 1 (statuses_in c)) ≡ numbers_where (λ s. t s && p s) 1 (statuses_in c)
held_are c p t =
    both_pass p t (λ line. t (line_status line c)) 1 (statuses_in c)
    (λ k m s e h. same k m s e h)
  where
    same : (k m : ℕ) (s : LineStatus) → m ≡ 1 + k → slice_get (statuses_in c) k ≡ Some s → t (line_status m c) ≡ t s
    same k m s e h =
        let index : m - 1 ≡ k = omega (arith, e) in
        let there : slice_get (statuses_in c) (m - 1) ≡ Some s = ap (slice_get (statuses_in c)) index ∙ h in
        ap t (same_Some (line_status m c) s (sym (status_at c m (line_there c m s (omega (arith, e)) there)) ∙ there))

-- ---- lines that are opened

-- two tests that agree pass the same lines
pub same_pass : (p t : LineStatus → Bool) → ((s : LineStatus) → p s ≡ t s) → (n : ℕ) (ss : List LineStatus) → numbers_where p n ss ≡ numbers_where t n ss
same_pass p t agree n [] = refl
same_pass p t agree n (s ∷ ss) = ap₂ (λ (b : Bool) (rest : List ℕ). if b then n ∷ rest else rest) (agree s) (same_pass p t agree (n + 1) ss)

module _ (q : Segments) (paths : List (List Step)) (seek : Option (List Step)) (guard : Option Guard) (e : seek ≡ seek_of paths (leading_steps q)) (f : guard ≡ guard_of paths q) where
  -- a line is opened where the seek has a node and the guard holds
  pub opens_both : (s : LineStatus) → (seek_status seek s && guard_status guard s) ≡ is_opened q paths s
  opens_both s = ap₂ (λ (o : Option (List Step)) (g : Option Guard). seek_status o s && guard_status g s) e f ∙ parts s
    where
      parts : (s : LineStatus) → (seek_status (seek_of paths (leading_steps q)) s && guard_status (guard_of paths q) s) ≡ is_opened q paths s
      parts blank = refl
      parts (refused fault) = refl
      parts (parsed t) = refl

-- one line more is looked at
pub trees_more : (c : Collection) (k : ℕ) (b : Bool) → k < length c.state.lines → b ≡ is_tree (line_status (k + 1) c)
    → numbers_where is_tree 1 (take (k + 1) (statuses_in c)) ≡ numbers_where is_tree 1 (take k (statuses_in c)) ++ (if b then (k + 1) ∷ [] else [])
trees_more c k b l e =
    let s = line_status (k + 1) c in
    let index : (k + 1) - 1 ≡ k = omega arith in
    let there : slice_get (statuses_in c) k ≡ Some s = ap (slice_get (statuses_in c)) (sym index) ∙ status_at c (k + 1) (record { first = omega arith; last = omega arith }) in
    let within : k < length (statuses_in c) = slice_get_within (statuses_in c) k s there in
    ap (numbers_where is_tree 1) (take_more (statuses_in c) k s within ∙ ap (λ x. take k (statuses_in c) ++ x ∷ []) (get_or_from_slice_get (statuses_in c) k s s there))
    ∙ (numbers_where-append is_tree 1 (k + 1) (take k (statuses_in c)) s (omega (arith, length-take-le k (statuses_in c) (omega arith)))
    ∙ ap (λ (d : Bool). numbers_where is_tree 1 (take k (statuses_in c)) ++ (if d then (k + 1) ∷ [] else [])) (sym e))
