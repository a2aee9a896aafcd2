-- An index is built line by line.
use Rattle.std.proofs.Common.{◌≡◌, ◌∙◌, ◌<◌, ◌≤◌, ◌+◌, ◌++◌, ℕ, List, [], ◌∷◌, length, map, take, get_or, Option, sym, ap, arith}
use Rattle.std.proofs.lemmas.List.{take_more, take_all, length-map, get_or-map, length-take-le}
use Rattle.jp_model.specs.declared.Framing.{Framing}
use Rattle.jp_model.specs.Json.Status.{LineStatus}
use Rattle.jp_model.specs.Json.Tree.{Tree}
use Rattle.jp_model.specs.Json.Reader.{status_of}
use Rattle.jp_model.specs.Steps.{Step}
use Rattle.jp_model.specs.Script.Machine.{statuses}
use Rattle.jp_index.specs.Entries.{entries_of, entry_in, status_entry}
use Rattle.jp_lines.specs.Stored.{stored_text}
use Rattle.jp_lines.specs.declared.line.Line.{Line}
use Rattle.jp_store.proofs.Renewed.{from-append}

module _ (p : List Step) (f : Framing) (bytes : List ℕ) (lines : List Line) (i : ℕ) (line : Line) (within : i < length lines) (is : line ≡ get_or lines i line) where
  abbrev ss : List LineStatus
  ss = statuses f (map (stored_text bytes) lines)

  abbrev s : LineStatus
  s = status_of f (stored_text bytes line)

  long : length ss ≡ length lines
  long = length-map (map (stored_text bytes) lines) (status_of f) ∙ length-map lines (stored_text bytes)

  at : get_or ss i s ≡ s
  at =
      get_or-map (status_of f) (map (stored_text bytes) lines) i (stored_text bytes line) s (omega (arith, within, length-map lines (stored_text bytes)))
      ∙ ap (status_of f) (get_or-map (stored_text bytes) lines i line (stored_text bytes line) within ∙ ap (stored_text bytes) (sym is))

  taken : take (i + 1) ss ≡ take i ss ++ s ∷ []
  taken = take_more ss i s (omega (arith, within, long)) ∙ ap (λ x. take i ss ++ x ∷ []) at

  counted : i + 1 ≡ 1 + length (take i ss)
  counted = omega (arith, length-take-le i ss (omega (arith, within, long)))

  pub line_more : (t : Option Tree) → entry_in p (i + 1) t ≡ status_entry p (i + 1) s → entries_of p (take i ss) ++ entry_in p (i + 1) t ≡ entries_of p (take (i + 1) ss)
  line_more t e =
      ap (λ r. entries_of p (take i ss) ++ r) e ∙ sym (from-append p 1 (take i ss) s (i + 1) counted) ∙ ap (entries_of p) (sym taken)

pub all_built : (f : Framing) (bytes : List ℕ) (lines : List Line) (i : ℕ) → length lines ≤ i → take i (statuses f (map (stored_text bytes) lines)) ≡ statuses f (map (stored_text bytes) lines)
all_built f bytes lines i l =
    take_all i (statuses f (map (stored_text bytes) lines)) (omega (arith, length-map (map (stored_text bytes) lines) (status_of f), length-map lines (stored_text bytes)))
