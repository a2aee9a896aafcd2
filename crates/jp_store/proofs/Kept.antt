-- A line that is stored is read.
use Rattle.std.proofs.Common.{◌≡◌, ◌∙◌, ◌<◌, ℕ, List, length, map, get_or, sym, ap}
use Rattle.std.specs.Prelude.{slice_get, All}
use Rattle.std.specs.Option.{option_map}
use Rattle.std.proofs.lemmas.Option.{slice_get-map, slice_get-get_or}
use Rattle.jp_model.specs.declared.Framing.{Framing}
use Rattle.jp_model.specs.Json.Reader.{status_of}
use Rattle.jp_model.specs.Plans.{is_tree}
use Rattle.jp_model.specs.Steps.{Step}
use Rattle.jp_index.specs.Entries.{entry_in, status_entry}
use Rattle.jp_model.specs.Script.Machine.{text_or_nothing, is_refused_status}
use Rattle.jp_lines.specs.Stored.{IsRead, IsTold, stored_text, told_of, is_tree_status, is_fault_status, told_tree}
use Rattle.jp_lines.specs.Views.{status_kind}
use Rattle.jp_lines.specs.declared.Status.{Status}
use Rattle.jp_lines.specs.declared.Status.TheVariants as told
use Rattle.jp_lines.specs.declared.line.Line.{Line}

-- what is told of a line is its status
pub is_told : (f : Framing) (status : Status) (text : List ℕ) → IsTold f status text → status ≡ status_kind (status_of f text)
is_told f told.Blank text h = sym (ap status_kind h)
is_told f (told.Refused fault) text h = sym (ap status_kind h)
is_told f told.Tree text h = sym (ap status_kind h)

pub told_is_tree : (f : Framing) (status : Status) (text : List ℕ) → IsTold f status text → is_tree_status status ≡ is_tree (status_of f text)
told_is_tree f told.Blank text h = sym (ap is_tree h)
told_is_tree f (told.Refused fault) text h = sym (ap is_tree h)
told_is_tree f told.Tree text h = sym (ap is_tree h)

pub told_is_fault : (f : Framing) (status : Status) (text : List ℕ) → IsTold f status text → is_fault_status status ≡ is_refused_status (status_of f text)
told_is_fault f told.Blank text h = sym (ap is_refused_status h)
told_is_fault f (told.Refused fault) text h = sym (ap is_refused_status h)
told_is_fault f told.Tree text h = sym (ap is_refused_status h)

-- the entry of a line by its tree is that by its status
pub entry_is : (p : List Step) (n : ℕ) (f : Framing) (status : Status) (text : List ℕ) → IsTold f status text → entry_in p n (told_tree status text) ≡ status_entry p n (status_of f text)
entry_is p n f told.Blank text h = sym (ap (status_entry p n) h)
entry_is p n f (told.Refused fault) text h = sym (ap (status_entry p n) h)
entry_is p n f told.Tree text h = sym (ap (status_entry p n) h)

module _ (f : Framing) (bytes tapes : List ℕ) (lines : List Line) (i : ℕ) (d : Line) (within : i < length lines) where
  abbrev pub line : Line
  line = get_or lines i d

  pub text_at : text_or_nothing (slice_get (map (stored_text bytes) lines) i) ≡ stored_text bytes line
  text_at = ap text_or_nothing (slice_get-map (stored_text bytes) lines i ∙ ap (option_map (stored_text bytes)) (slice_get-get_or lines i d within))

  module _ (all : All (IsRead f bytes tapes) lines) where
    pub read_at : IsRead f bytes tapes line
    read_at = all i d within

    -- what is told of the line
    pub status_told : told_of line ≡ status_kind (status_of f (text_or_nothing (slice_get (map (stored_text bytes) lines) i)))
    status_told = is_told f (told_of line) (stored_text bytes line) read_at.told ∙ ap (λ t. status_kind (status_of f t)) (sym text_at)
