-- What is kept after an edit: of the lines with one more at their end, or with another in the place of one.
use Rattle.std.proofs.Common.{◌≡◌, ◌∙◌, ◌<◌, ◌≤◌, ◌+◌, ◌^◌, ◌++◌, ℕ, zero, suc, List, [], ◌∷◌, length, map, set, get_or, Bool, true, false, sym, ap, arith, zero-add}
use Rattle.std.specs.Prelude.{All, count_by, cond}
use Rattle.std.proofs.lemmas.List.{map-append, map-set, length-map, length-set, get_or-map, length-append}
use Rattle.std.proofs.lemmas.List.Elements.{All-append, All-cons, All-set}
use Rattle.std.proofs.lemmas.List.Sums.{sum_by-append, sum_by-cons, sum_by-set, get_or-le-sum_by, count_by-le-length}
use Rattle.jp_model.specs.declared.Framing.{Framing}
use Rattle.jp_model.specs.Json.Status.{LineStatus}
use Rattle.jp_model.specs.Json.Reader.{status_of}
use Rattle.jp_model.specs.Plans.{is_tree}
use Rattle.jp_model.specs.Script.Machine.{bytes_held, statuses, is_refused_status}
use Rattle.jp_index.specs.Entries.{entries_of, with_line}
use Rattle.jp_index.specs.declared.index.ValueIndex.{ValueIndex}
use Rattle.jp_store.specs.Edits.{AreEdited, AreSame}
use Rattle.jp_model.specs.Numbered.{numbers_where}
use Rattle.jp_index.specs.Numbered.{with_number}
use Rattle.jp_index.specs.LineSetViews.{numbers_of}
use Rattle.jp_store.specs.Stored.{AreCounted, IsKept, IsOver, path_of}
use Rattle.jp_lines.specs.Stored.{told_of, IsRead, is_fault_status, is_tree_status, told_tree, stored_text}
use Rattle.jp_store.specs.declared.counts.Counts.{Counts}
use Rattle.jp_lines.specs.declared.line.Line.{Line}
use Rattle.jp_store.proofs.Edited.{edited_over, edited_paths, held_more, same_over, same_paths}
use Rattle.jp_store.proofs.Kept.{entry_is, told_is_fault, told_is_tree}
use Rattle.jp_index.proofs.Numbered.{lines_more, lines_set}
use Rattle.jp_store.proofs.Renewed.{entries_more, entries_set}

abbrev pub bit : Bool → ℕ
bit b = cond b 1 0

bit_most : (b : Bool) → bit b ≤ 1
bit_most true = omega arith
bit_most false = omega arith

room_for_one : (ss : List LineStatus) (i : ℕ) (d : LineStatus) → i < length ss → count_by is_tree ss + 1 ≤ length ss + bit (is_tree (get_or ss i d))
room_for_one [] i d l = absurd (omega (arith, l))
room_for_one (s ∷ ss) zero d l =
    let size : count_by is_tree (s ∷ ss) ≡ bit (is_tree s) + count_by is_tree ss = sum_by-cons (λ r. bit (is_tree r)) s ss in
    omega (arith, size, count_by-le-length is_tree ss)
room_for_one (s ∷ ss) (suc i) d l =
    let size : count_by is_tree (s ∷ ss) ≡ bit (is_tree s) + count_by is_tree ss = sum_by-cons (λ r. bit (is_tree r)) s ss in
    let more = room_for_one ss i d (omega (arith, l)) in
    omega (arith, size, more, bit_most (is_tree s))

-- no more trees than lines
pub few_trees : (f : Framing) (texts : List (List ℕ)) → count_by is_tree (statuses f texts) ≤ length texts
few_trees f texts = omega (arith, count_by-le-length is_tree (statuses f texts), length-map texts (status_of f))

-- as many indexes as before
same_many : (n : ℕ) (line : Line) (bytes : List ℕ) (xs ys : List ValueIndex) → AreEdited n (told_tree (told_of line) (stored_text bytes line)) xs ys → length ys ≡ length xs
same_many n line bytes xs ys h =
    sym (length-map ys path_of) ∙ ap length (edited_paths n (told_tree (told_of line) (stored_text bytes line)) xs ys h) ∙ length-map xs path_of

-- the same lines, counts of the same, and the same entries
pub kept_same : (f : Framing) (bytes tapes : List ℕ) (lines : List Line) (old new : Counts) (xs ys : List ValueIndex) → IsKept f bytes tapes lines old xs → new.held ≡ old.held → new.trees ≡ old.trees → numbers_of new.refused ≡ numbers_of old.refused
    → AreSame xs ys → IsKept f bytes tapes lines new ys
kept_same f bytes tapes lines old new xs ys kept held trees gone same = record {
  each = kept.each;
  few = kept.few;
  counted = record { held_is = held ∙ kept.counted.held_is; trees_is = trees ∙ kept.counted.trees_is; refused_is = gone ∙ kept.counted.refused_is };
  indexed = same_over (statuses f (map (stored_text bytes) lines)) xs ys same kept.indexed;
  few_indexes = omega (arith, kept.few_indexes, ap length (same_paths xs ys same), length-map ys path_of, length-map xs path_of);
}

-- what is counted of one of the lines
module _ (f : Framing) (bytes tapes : List ℕ) (lines : List Line) (i : ℕ) (before : Line) (within : i < length lines) (counts : Counts) (each : All (IsRead f bytes tapes) lines) (c : AreCounted f (map (stored_text bytes) lines) counts) where
  abbrev the_texts : List (List ℕ)
  the_texts = map (stored_text bytes) lines

  abbrev the_statuses : List LineStatus
  the_statuses = statuses f the_texts

  abbrev pub was : Line
  was = get_or lines i before

  as_many : length the_statuses ≡ length lines
  as_many = length-map the_texts (status_of f) ∙ length-map lines (stored_text bytes)

  text_was : get_or the_texts i (stored_text bytes before) ≡ stored_text bytes was
  text_was = get_or-map (stored_text bytes) lines i before (stored_text bytes before) within

  was_tree : is_tree_status (told_of was) ≡ is_tree (get_or the_statuses i (status_of f (stored_text bytes before)))
  was_tree =
      told_is_tree f (told_of was) (stored_text bytes was) (each i before within).told
      ∙ ap (λ t. is_tree (status_of f t)) (sym text_was)
      ∙ ap is_tree (sym (get_or-map (status_of f) the_texts i (stored_text bytes before) (status_of f (stored_text bytes before)) (omega (arith, within, length-map lines (stored_text bytes)))))

  -- the size of a line is within the size of all, and so is the tree
  pub held_least : length (stored_text bytes was) + 1 ≤ counts.held
  held_least =
      let least = get_or-le-sum_by (λ (l : List ℕ). length l + 1) the_texts i (stored_text bytes before) (omega (arith, within, length-map lines (stored_text bytes))) in
      omega (arith, least, ap length text_was, c.held_is)

  pub trees_least : cond (is_tree_status (told_of was)) 1 0 ≤ counts.trees
  trees_least =
      let least = get_or-le-sum_by (λ r. bit (is_tree r)) the_statuses i (status_of f (stored_text bytes before)) (omega (arith, within, as_many)) in
      omega (arith, least, ap bit was_tree, c.trees_is)

  -- a line without a tree leaves room for one more
  pub trees_most : counts.trees + 1 ≤ length lines + cond (is_tree_status (told_of was)) 1 0
  trees_most =
      let most = room_for_one the_statuses i (status_of f (stored_text bytes before)) (omega (arith, within, as_many)) in
      omega (arith, most, ap bit was_tree, c.trees_is, as_many)

module _ (f : Framing) (bytes tapes : List ℕ) (lines : List Line) (line : Line) (read : IsRead f bytes tapes line) (n : ℕ) where
  abbrev pub texts : List (List ℕ)
  texts = map (stored_text bytes) lines

  abbrev pub text : List ℕ
  text = stored_text bytes line

  abbrev pub ss : List LineStatus
  ss = statuses f texts

  abbrev pub s : LineStatus
  s = status_of f text

  many : length ss ≡ length lines
  many = length-map texts (status_of f) ∙ length-map lines (stored_text bytes)

  trees : is_tree_status (told_of line) ≡ is_tree s
  trees = told_is_tree f (told_of line) text read.told

  refusals : is_fault_status (told_of line) ≡ is_refused_status s
  refusals = told_is_fault f (told_of line) text read.told

  -- at the end
  module _ (next : n ≡ length lines + 1) where
    texts_more : map (stored_text bytes) (lines ++ line ∷ []) ≡ texts ++ text ∷ []
    texts_more = map-append (stored_text bytes) lines (line ∷ [])

    statuses_more : statuses f (map (stored_text bytes) (lines ++ line ∷ [])) ≡ ss ++ s ∷ []
    statuses_more = ap (statuses f) texts_more ∙ map-append (status_of f) texts (text ∷ [])

    over_more : (xs ys : List ValueIndex) → AreEdited n (told_tree (told_of line) text) xs ys → All (IsOver ss) xs → All (IsOver (statuses f (map (stored_text bytes) (lines ++ line ∷ [])))) ys
    over_more xs ys h all =
        edited_over n (told_tree (told_of line) text) ss (statuses f (map (stored_text bytes) (lines ++ line ∷ [])))
        (λ p. ap (λ here. with_line n here (entries_of p ss)) (entry_is p n f (told_of line) text read.told) ∙ entries_more p 1 ss n s (omega (arith, next, many)) ∙ ap (entries_of p) (sym statuses_more))
        xs ys h all

    module _ (old new : Counts) (held : new.held ≡ old.held + (length text + 1)) (tree : new.trees + cond false 1 0 ≡ old.trees + cond (is_tree_status (told_of line)) 1 0)
        (gone : numbers_of new.refused ≡ with_number n (is_fault_status (told_of line)) (numbers_of old.refused)) (c : AreCounted f texts old) where
      counted_more : AreCounted f (map (stored_text bytes) (lines ++ line ∷ [])) new
      counted_more =
          let size : new.held ≡ bytes_held (texts ++ text ∷ []) = omega (arith, held, c.held_is, held_more texts text) in
          let one : bit (is_tree_status (told_of line)) ≡ bit (is_tree s) = ap bit trees in
          let sum : count_by is_tree (ss ++ s ∷ []) ≡ count_by is_tree ss + bit (is_tree s) = sum_by-append (λ r. bit (is_tree r)) ss (s ∷ []) ∙ ap (λ k. count_by is_tree ss + k) (zero-add (bit (is_tree s))) in
          let count : new.trees ≡ count_by is_tree (ss ++ s ∷ []) = omega (arith, tree, c.trees_is, one, sum) in
          record {
            held_is = size ∙ ap bytes_held (sym texts_more);
            trees_is = count ∙ ap (count_by is_tree) (sym statuses_more);
            refused_is =
                gone ∙ ap (λ b. with_number n b (numbers_of old.refused)) refusals ∙ ap (with_number n (is_refused_status s)) c.refused_is
                ∙ lines_more is_refused_status 1 ss n s (omega (arith, next, many)) ∙ ap (numbers_where is_refused_status 1) (sym statuses_more);
          }

    -- with one line more
    pub kept_more : (old new : Counts) (xs ys : List ValueIndex) → IsKept f bytes tapes lines old xs → n < 2 ^ 32 → new.held ≡ old.held + (length text + 1) → new.trees + cond false 1 0 ≡ old.trees + cond (is_tree_status (told_of line)) 1 0
        → numbers_of new.refused ≡ with_number n (is_fault_status (told_of line)) (numbers_of old.refused) → AreEdited n (told_tree (told_of line) text) xs ys → IsKept f bytes tapes (lines ++ line ∷ []) new ys
    kept_more old new xs ys kept fits held tree gone edited = record {
      each = All-append (IsRead f bytes tapes) lines (line ∷ []) kept.each one_read;
      few = omega (arith, fits, next, length-append lines (line ∷ []));
      counted = counted_more old new held tree gone kept.counted;
      indexed = over_more xs ys edited kept.indexed;
      few_indexes = omega (arith, kept.few_indexes, same_many n line bytes xs ys edited);
    }
      where
        one_read : All (IsRead f bytes tapes) (line ∷ [])
        one_read = All-cons (IsRead f bytes tapes) line [] read (λ k d l. absurd (omega (arith, l)))

  -- in the place of another
  module _ (i : ℕ) (before : Line) (within : i < length lines) (is : n ≡ i + 1) where
    abbrev pub was_line : Line
    was_line = get_or lines i before

    texts_set : map (stored_text bytes) (set lines i line) ≡ set texts i text
    texts_set = map-set (stored_text bytes) lines i line

    statuses_set : statuses f (map (stored_text bytes) (set lines i line)) ≡ set ss i s
    statuses_set = ap (statuses f) texts_set ∙ map-set (status_of f) texts i text

    over_set : (xs ys : List ValueIndex) → AreEdited n (told_tree (told_of line) text) xs ys → All (IsOver ss) xs → All (IsOver (statuses f (map (stored_text bytes) (set lines i line)))) ys
    over_set xs ys h all =
        edited_over n (told_tree (told_of line) text) ss (statuses f (map (stored_text bytes) (set lines i line)))
        (λ p. ap (λ here. with_line n here (entries_of p ss)) (entry_is p n f (told_of line) text read.told) ∙ entries_set p 1 ss i n s (omega (arith, within, many)) (omega (arith, is)) ∙ ap (entries_of p) (sym statuses_set))
        xs ys h all

    module _ (old new : Counts) (each : All (IsRead f bytes tapes) lines) (c : AreCounted f texts old) where
      counted_set : new.held + (length (stored_text bytes was_line) + 1) ≡ old.held + (length text + 1) → new.trees + cond (is_tree_status (told_of was_line)) 1 0 ≡ old.trees + cond (is_tree_status (told_of line)) 1 0
          → numbers_of new.refused ≡ with_number n (is_fault_status (told_of line)) (numbers_of old.refused) → AreCounted f (map (stored_text bytes) (set lines i line)) new
      counted_set held tree gone =
          let sizes = sum_by-set (λ (l : List ℕ). length l + 1) texts i text (stored_text bytes before) (omega (arith, within, length-map lines (stored_text bytes))) in
          let size : new.held ≡ bytes_held (set texts i text) = omega (arith, held, c.held_is, sizes, ap length (text_was f bytes tapes lines i before within old each c)) in
          let one : bit (is_tree_status (told_of line)) ≡ bit (is_tree s) = ap bit trees in
          let other = ap bit (was_tree f bytes tapes lines i before within old each c) in
          let sum = sum_by-set (λ r. bit (is_tree r)) ss i s (status_of f (stored_text bytes before)) (omega (arith, within, many)) in
          let count : new.trees ≡ count_by is_tree (set ss i s) = omega (arith, tree, c.trees_is, one, other, sum) in
          record {
            held_is = size ∙ ap bytes_held (sym texts_set);
            trees_is = count ∙ ap (count_by is_tree) (sym statuses_set);
            refused_is =
                gone ∙ ap (λ b. with_number n b (numbers_of old.refused)) refusals ∙ ap (with_number n (is_refused_status s)) c.refused_is
                ∙ lines_set is_refused_status 1 ss i n s (omega (arith, within, many)) (omega (arith, is)) ∙ ap (numbers_where is_refused_status 1) (sym statuses_set);
          }

    -- with another line in the place of one
    pub kept_set : (old new : Counts) (xs ys : List ValueIndex) → IsKept f bytes tapes lines old xs → new.held + (length (stored_text bytes was_line) + 1) ≡ old.held + (length text + 1)
        → new.trees + cond (is_tree_status (told_of was_line)) 1 0 ≡ old.trees + cond (is_tree_status (told_of line)) 1 0 → numbers_of new.refused ≡ with_number n (is_fault_status (told_of line)) (numbers_of old.refused)
        → AreEdited n (told_tree (told_of line) text) xs ys → IsKept f bytes tapes (set lines i line) new ys
    kept_set old new xs ys kept held tree gone edited = record {
      each = All-set (IsRead f bytes tapes) lines i line read kept.each;
      few = omega (arith, kept.few, length-set lines i line);
      counted = counted_set old new kept.each kept.counted held tree gone;
      indexed = over_set xs ys edited kept.indexed;
      few_indexes = omega (arith, kept.few_indexes, same_many n line bytes xs ys edited);
    }
