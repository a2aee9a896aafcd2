-- A value that a line accepts is written as the grammar says.
use Rattle.std.proofs.Common.{◌≡◌, ℕ, ◌-◌, Bool, true, false, cond, List, ◌++◌, length, take, Some, None, refl, sym, ap, ap₂, subst, ◌∙◌, arith}
use Rattle.std.specs.Prelude.{nat_lt}
use Rattle.std.proofs.lemmas.List.{take_all}
use Rattle.jp_model.specs.declared.Framing.TheVariants.{Lines}
use Rattle.jp_model.specs.declared.LineFault.TheVariants.{Truncated, Depth, Surrogate, Number, Duplicate}
use Rattle.jp_model.specs.Json.Faults.{has_long_exponent, has_surrogate, has_duplicate, depth, is_truncated}
use Rattle.jp_model.specs.Json.Places.{bytes_between}
use Rattle.jp_model.specs.Json.Status.{parsed, fault_of_tree, HasStatus}
use Rattle.jp_model.specs.Json.Reader.{status_of}
use Rattle.jp_model.specs.Json.Tree.{Tree, span}
use Rattle.jp_model.proofs.Reader.Statuses.{each_status}
use Rattle.jp_cut_laws.specs.Values.{IsValue}
use Rattle.jp_cut_laws.proofs.Parts.{between_join, tree_part, white_part}
use Rattle.jp_cut_laws.proofs.Written.{IsWhite, Writes}

-- where no fault is the first, none is one
no_faults : (a b c d e : Bool) → cond a (Some Truncated) (cond b (Some Depth) (cond c (Some Surrogate) (cond d (Some Number) (cond e (Some Duplicate) None)))) ≡ None → (b ≡ false) × (c ≡ false) × (d ≡ false) × (e ≡ false)
no_faults true b c d e h = absurd (cc)
no_faults false true c d e h = absurd (cc)
no_faults false false true d e h = absurd (cc)
no_faults false false false true e h = absurd (cc)
no_faults false false false false true h = absurd (cc)
no_faults false false false false false h = (refl, refl, refl, refl)

pub status_is : (line : List ℕ) (t : Tree) → status_of Lines line ≡ parsed t → HasStatus Lines line (parsed t)
status_is line t e = subst (HasStatus Lines line) e (each_status Lines line)

-- what is known of a tree without a fault
pub without_faults : (line : List ℕ) (t : Tree) → fault_of_tree Lines line t ≡ None
    → (nat_lt 512 (depth t) ≡ false) × (has_surrogate t ≡ false) × (has_long_exponent line t ≡ false) × (has_duplicate t ≡ false)
without_faults line t e = no_faults (is_truncated Lines line t) (nat_lt 512 (depth t)) (has_surrogate t) (has_long_exponent line t) (has_duplicate t) e

all_between : (line : List ℕ) → bytes_between line 0 (length line) ≡ line
all_between line = let n : length line - 0 ≡ length line = omega arith in ap (λ k. take k line) n ∙ take_all (length line) line (omega arith)

-- an accepted line is what is written for its tree, with white space around it
pub record LineParts (line : List ℕ) (t : Tree) : Type 0 where
  pub before : List ℕ
  pub after : List ℕ
  pub is_before : before ≡ bytes_between line 0 (span t).start
  pub joined : line ≡ before ++ (bytes_between line (span t).start (span t).end ++ after)
  pub white_before : IsWhite before
  pub white_after : IsWhite after
  pub writes : Writes (bytes_between line (span t).start (span t).end) t

pub accepted_parts : (line : List ℕ) (t : Tree) → status_of Lines line ≡ parsed t → LineParts line t
accepted_parts line t e =
    let status = status_is line t e in
    let part = tree_part line t status.1.value (without_faults line t status.2).2 in
    let before = status.1.before in
    let after = status.1.after in
    record {
      before = bytes_between line 0 (span t).start;
      after = bytes_between line (span t).end (length line);
      is_before = refl;
      joined =
          sym (all_between line)
          ∙ sym (between_join line 0 (span t).start (length line) before.order (omega (arith, part.0, after.order)))
          ∙ ap (λ xs. bytes_between line 0 (span t).start ++ xs) (sym (between_join line (span t).start (span t).end (length line) part.0 after.order));
      white_before = white_part line 0 (span t).start before;
      white_after = white_part line (span t).end (length line) after;
      writes = part.1;
    }

pub value_written : (bytes : List ℕ) (t : Tree) → IsValue bytes t → Writes bytes t
value_written bytes t h = subst (λ xs. Writes xs t) (ap₂ (bytes_between bytes) h.start h.end ∙ all_between bytes) (accepted_parts bytes t h.accepted).writes
