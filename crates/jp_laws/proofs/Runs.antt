-- Runs of commands: indexes are not seen, lines stay lines, and the output goes on.
use Rattle.std.proofs.Common.{◌≡◌, ℕ, zero, suc, ◌+◌, ◌-◌, List, [], ◌∷◌, ◌++◌, length, drop, take, map, All, Bool, true, false, not, cond, ◌&&◌, ◌==◌, Option, Some, None, if◌then◌else◌, codes, decimal, count_by, nat_lt, nat_le, slice_set, refl, sym, ap, ap₂, subst, ◌∙◌, append_assoc, append-nil}
use Rattle.std.specs.List.{list_any}
use Rattle.std.proofs.lemmas.Bool.{or_parts}
use Rattle.std.proofs.lemmas.List.{map-append}
use Rattle.std.proofs.lemmas.List.Elements.{All-cons, All-head, All-tail, All-nil, All-append, All-set, All-drop}
use Rattle.jp_model.specs.declared.Framing.{Framing}
use Rattle.jp_model.specs.declared.Framing.TheVariants.{Lines as in_lines, Sequence as in_sequence}
use Rattle.jp_model.specs.declared.Setup.{Setup}
use Rattle.jp_model.specs.Lines.{pieces, before_last_piece, last_piece, closed_lines, open_line, first_piece, HasNoSeparator, line_unless_empty, text_lines, lines, separator_of, is_separator, without_empty, without_byte_order_mark}
use Rattle.jp_model.specs.Query.Status.{QueryStatus, refused_query, query}
use Rattle.jp_model.specs.Rows.{rows}
use Rattle.jp_model.specs.Script.Commands.{Command, empty_line, query_line, explain_line, index_line, drop_line, indexes_line, check_line, append_line, replace_line, unknown_line, command_lines, without_final_cr}
use Rattle.jp_model.specs.Script.Headline.{loaded}
use Rattle.jp_model.specs.Script.Machine.{State, Outcome, keeps, statuses, rows_text, query_answer, index_path, index_answer, drop_answer, check_answer, has_path, has_node, without_path, edited, bytes_held, said, error, step, step_unless, run_commands}
use Rattle.jp_model.specs.Steps.{Step}
use Rattle.jp_model.proofs.Pieces.{closed-append, open-append}
use Rattle.jp_laws.specs.Scripts.{is_of_indexes, first_flag, later_flags, other_lines, other_flags, other_answers, with_line_feeds, begins_with_mark}
use Rattle.jp_laws.proofs.CutPieces.{all_clear, lines_of}

-- two outcomes are the same but for their indexes
abbrev Same : Outcome → Outcome → Type 0
Same a b = (a.written ≡ b.written) × (a.after.lines ≡ b.after.lines)

edited_same : (setup : Setup) (s t : State) (line : List ℕ) (new : List (List ℕ)) (done : List ℕ) → s.lines ≡ t.lines → Same (edited setup s line new done) (edited setup t line new done)
edited_same setup s t line new done h = pick (nat_lt setup.most (bytes_held new)) (list_any (λ b. b == separator_of setup.framing) line)
  where
    pick : (a b : Bool) → Same (if a then keeps (error (codes "size")) s else if b then keeps (error (codes "separator")) s else record { written = done; after = record s { lines = new } }) (if a then keeps (error (codes "size")) t else if b then keeps (error (codes "separator")) t else record { written = done; after = record t { lines = new } })
    pick true b = (refl, h)
    pick false true = (refl, h)
    pick false false = (refl, refl)

module _ (query_of : List ℕ → QueryStatus) where
  query_same : (f : Framing) (s t : State) (q : QueryStatus) → s.lines ≡ t.lines → query_answer f s q ≡ query_answer f t q
  query_same f s t (refused_query fault) h = refl
  query_same f s t (query q) h = ap (λ ls. rows_text f ls (rows q (statuses f ls))) h

  append_same : (setup : Setup) (ls : List (List ℕ)) (p q : List (List Step)) (line : List ℕ) → Same (step query_of setup (record { lines = ls; paths = p }) (append_line line)) (step query_of setup (record { lines = ls; paths = q }) (append_line line))
  append_same setup ls p q line = edited_same setup (record { lines = ls; paths = p }) (record { lines = ls; paths = q }) line (ls ++ line ∷ []) (said (codes "appended " ++ decimal (length ls + 1))) refl

  replace_same : (setup : Setup) (ls : List (List ℕ)) (p q : List (List Step)) (n : ℕ) (line : List ℕ) → Same (step query_of setup (record { lines = ls; paths = p }) (replace_line n line)) (step query_of setup (record { lines = ls; paths = q }) (replace_line n line))
  replace_same setup ls p q n line = pick (nat_le 1 n && nat_le n (length ls))
    where
      s : State
      s = record { lines = ls; paths = p }

      t : State
      t = record { lines = ls; paths = q }

      pick : (b : Bool) → Same (if b then edited setup s line (slice_set ls (n - 1) line) (said (codes "replaced " ++ decimal n)) else keeps (error (codes "line")) s) (if b then edited setup t line (slice_set ls (n - 1) line) (said (codes "replaced " ++ decimal n)) else keeps (error (codes "line")) t)
      pick true = edited_same setup s t line (slice_set ls (n - 1) line) (said (codes "replaced " ++ decimal n)) refl
      pick false = (refl, refl)

  pub step_same : (setup : Setup) (s t : State) (c : Command) → is_of_indexes c ≡ false → s.lines ≡ t.lines → Same (step query_of setup s c) (step query_of setup t c)
  step_same setup s t empty_line i h = (refl, h)
  step_same setup s t (query_line x) i h = (query_same setup.framing s t (query_of x) h, h)
  step_same setup s t (explain_line x) i h = absurd (cc)
  step_same setup s t (index_line x) i h = absurd (cc)
  step_same setup s t (drop_line x) i h = absurd (cc)
  step_same setup s t indexes_line i h = absurd (cc)
  step_same setup s t check_line i h = (ap (λ ls. check_answer setup.framing (record { lines = ls; paths = [] })) h, h)
  step_same setup s t (append_line line) i h = subst (λ ls. Same (step query_of setup s (append_line line)) (step query_of setup (record { lines = ls; paths = t.paths }) (append_line line))) h (append_same setup s.lines s.paths t.paths line)
  step_same setup s t (replace_line n line) i h = subst (λ ls. Same (step query_of setup s (replace_line n line)) (step query_of setup (record { lines = ls; paths = t.paths }) (replace_line n line))) h (replace_same setup s.lines s.paths t.paths n line)
  step_same setup s t unknown_line i h = (refl, h)

  unless_same : (starved : Bool) (setup : Setup) (s t : State) (c : Command) → is_of_indexes c ≡ false → s.lines ≡ t.lines → Same (step_unless query_of starved setup s c) (step_unless query_of starved setup t c)
  unless_same true setup s t c i h = (refl, h)
  unless_same false setup s t c i h = step_same setup s t c i h

  index_lines : (f : Framing) (s : State) (o : Option (List Step)) → (index_answer f s o).after.lines ≡ s.lines
  index_lines f s None = refl
  index_lines f s (Some p) = pick (has_path p s.paths) (nat_le 16 (length s.paths))
    where
      pick : (a b : Bool) → (if a then keeps (error (codes "index exists")) s else if b then keeps (error (codes "index limit")) s else record { written = said (codes "indexed " ++ decimal (count_by (has_node p) (statuses f s.lines))); after = record s { paths = s.paths ++ p ∷ [] } }).after.lines ≡ s.lines
      pick true b = refl
      pick false true = refl
      pick false false = refl

  drop_lines : (s : State) (o : Option (List Step)) → (drop_answer s o).after.lines ≡ s.lines
  drop_lines s None = refl
  drop_lines s (Some p) = pick (has_path p s.paths)
    where
      pick : (a : Bool) → (if a then record { written = said (codes "dropped"); after = record s { paths = without_path p s.paths } } else keeps (error (codes "index missing")) s).after.lines ≡ s.lines
      pick true = refl
      pick false = refl

  index_step_lines : (setup : Setup) (s : State) (c : Command) → is_of_indexes c ≡ true → (step query_of setup s c).after.lines ≡ s.lines
  index_step_lines setup s (explain_line x) i = refl
  index_step_lines setup s (index_line x) i = index_lines setup.framing s (index_path (query_of x))
  index_step_lines setup s (drop_line x) i = drop_lines s (index_path (query_of x))
  index_step_lines setup s indexes_line i = refl
  index_step_lines setup s c i = absurd (cc)

  index_unless_lines : (starved : Bool) (setup : Setup) (s : State) (c : Command) → is_of_indexes c ≡ true → (step_unless query_of starved setup s c).after.lines ≡ s.lines
  index_unless_lines true setup s c i = refl
  index_unless_lines false setup s c i = index_step_lines setup s c i

  module _ (asked : List ℕ → Command) (setup : Setup) where
    abbrev run : State → List (List ℕ) → List Bool → Outcome
    run s commands flags = run_commands query_of asked setup s commands flags

    abbrev first_step : State → List ℕ → List Bool → Outcome
    first_step s line flags = step_unless query_of (first_flag flags) setup s (asked line)

    run_first : (s : State) (line : List ℕ) (rest : List (List ℕ)) (flags : List Bool)
        → run s (line ∷ rest) flags ≡ record { written = (first_step s line flags).written ++ (run (first_step s line flags).after rest (later_flags flags)).written; after = (run (first_step s line flags).after rest (later_flags flags)).after }
    run_first s line rest [] = refl
    run_first s line rest (flag ∷ flags) = refl

    abbrev Others : State → State → List (List ℕ) → List Bool → Type 0
    Others s t commands flags =
        ((run t (other_lines asked commands) (other_flags asked commands flags)).written ≡ other_answers query_of asked setup s commands flags)
        × ((run t (other_lines asked commands) (other_flags asked commands flags)).after.lines ≡ (run s commands flags).after.lines)

    others_same : (commands : List (List ℕ)) (flags : List Bool) (s t : State) → s.lines ≡ t.lines → Others s t commands flags
    others_same [] flags s t h = (refl, sym h)
    others_same (line ∷ rest) flags s t h = pick (is_of_indexes (asked line)) refl (others_same rest (later_flags flags) (first_step s line flags).after)
      where
        last : (run s (line ∷ rest) flags).after.lines ≡ (run (first_step s line flags).after rest (later_flags flags)).after.lines
        last = ap (λ o. o.after.lines) (run_first s line rest flags)

        OL : List (List ℕ)
        OL = other_lines asked rest

        OF : List Bool
        OF = other_flags asked rest (later_flags flags)

        OA : List ℕ
        OA = other_answers query_of asked setup (first_step s line flags).after rest (later_flags flags)

        pick : (b : Bool) → is_of_indexes (asked line) ≡ b → ((u : State) → (first_step s line flags).after.lines ≡ u.lines → Others (first_step s line flags).after u rest (later_flags flags))
            → ((run t (cond (not b) (line ∷ OL) OL) (if b then OF else first_flag flags ∷ OF)).written ≡ (if b then [] else (first_step s line flags).written) ++ OA)
            × ((run t (cond (not b) (line ∷ OL) OL) (if b then OF else first_flag flags ∷ OF)).after.lines ≡ (run s (line ∷ rest) flags).after.lines)
        pick true e again =
            let r = again t (index_unless_lines (first_flag flags) setup s (asked line) e ∙ h) in
            (r.0, r.1 ∙ sym last)
        pick false e again =
            let f = unless_same (first_flag flags) setup s t (asked line) e h in
            let r = again (step_unless query_of (first_flag flags) setup t (asked line)).after f.1 in
            (ap₂ (λ x y. x ++ y) (sym f.0) r.0, r.1 ∙ sym last)

    pub others_answer : (s : State) (commands : List (List ℕ)) (flags : List Bool) → (run s (other_lines asked commands) (other_flags asked commands flags)).written ≡ other_answers query_of asked setup s commands flags
    others_answer s commands flags = (others_same commands flags s s refl).0

    pub others_leave : (s : State) (commands : List (List ℕ)) (flags : List Bool) → (run s (other_lines asked commands) (other_flags asked commands flags)).after.lines ≡ (run s commands flags).after.lines
    others_leave s commands flags = (others_same commands flags s s refl).1

    -- ---- the output goes on

    abbrev Goes : State → List (List ℕ) → List (List ℕ) → List Bool → List Bool → List Bool → Type 0
    Goes s a b flags front back = ((run s (a ++ b) flags).written ≡ (run s a front).written ++ (run (run s a front).after b back).written) × ((run s (a ++ b) flags).after ≡ (run (run s a front).after b back).after)

    take_none : (n : ℕ) → take {A = Bool} n [] ≡ []
    take_none zero = refl
    take_none (suc n) = refl

    drop_none : (n : ℕ) → drop {A = Bool} n [] ≡ []
    drop_none zero = refl
    drop_none (suc n) = refl

    goes_on : (a b : List (List ℕ)) (s : State) (flags : List Bool) → Goes s a b flags (take (length a) flags) (drop (length a) flags)
    goes_on [] b s flags = (refl, refl)
    goes_on (line ∷ a) b s [] =
        let again = goes_on a b (step query_of setup s (asked line)).after [] in
        let plain : Goes (step query_of setup s (asked line)).after a b [] [] [] = subst (λ fs. Goes (step query_of setup s (asked line)).after a b [] [] fs) (drop_none (length a)) (subst (λ fs. Goes (step query_of setup s (asked line)).after a b [] fs (drop (length a) [])) (take_none (length a)) again) in
        (ap (λ l. (step query_of setup s (asked line)).written ++ l) plain.0 ∙ sym (append_assoc (step query_of setup s (asked line)).written _ _), plain.1)
    goes_on (line ∷ a) b s (flag ∷ flags) =
        let again = goes_on a b (step_unless query_of flag setup s (asked line)).after flags in
        (ap (λ l. (step_unless query_of flag setup s (asked line)).written ++ l) again.0 ∙ sym (append_assoc (step_unless query_of flag setup s (asked line)).written _ _), again.1)

    pub goes_on_written : (s : State) (a b : List (List ℕ)) (flags : List Bool) → (run s (a ++ b) flags).written ≡ (run s a (take (length a) flags)).written ++ (run (run s a (take (length a) flags)).after b (drop (length a) flags)).written
    goes_on_written s a b flags = (goes_on a b s flags).0

    pub goes_on_after : (s : State) (a b : List (List ℕ)) (flags : List Bool) → (run s (a ++ b) flags).after ≡ (run (run s a (take (length a) flags)).after b (drop (length a) flags)).after
    goes_on_after s a b flags = (goes_on a b s flags).1

    -- ---- no line gets a separator

    abbrev Clean : List (List ℕ) → Type 0
    Clean ls = All (HasNoSeparator (separator_of setup.framing)) ls

    none_equal : (sep : ℕ) (line : List ℕ) → list_any (λ b. b == sep) line ≡ false → HasNoSeparator sep line
    none_equal sep [] h = All-nil (λ b. is_separator sep b ≡ false)
    none_equal sep (b ∷ line) h = let p = or_parts (b == sep) (list_any (λ c. c == sep) line) h in All-cons (λ c. is_separator sep c ≡ false) b line p.0 (none_equal sep line p.1)

    edited_clean : (s : State) (line : List ℕ) (new : List (List ℕ)) (done : List ℕ) → Clean s.lines → (HasNoSeparator (separator_of setup.framing) line → Clean new) → Clean (edited setup s line new done).after.lines
    edited_clean s line new done h g = pick (nat_lt setup.most (bytes_held new)) (list_any (λ b. b == separator_of setup.framing) line) refl
      where
        pick : (a b : Bool) → list_any (λ b. b == separator_of setup.framing) line ≡ b → Clean (if a then keeps (error (codes "size")) s else if b then keeps (error (codes "separator")) s else record { written = done; after = record s { lines = new } }).after.lines
        pick true b e = h
        pick false true e = h
        pick false false e = g (none_equal (separator_of setup.framing) line e)

    step_clean : (s : State) (c : Command) → Clean s.lines → Clean (step query_of setup s c).after.lines
    step_clean s empty_line h = h
    step_clean s (query_line x) h = h
    step_clean s (explain_line x) h = h
    step_clean s (index_line x) h = subst Clean (sym (index_lines setup.framing s (index_path (query_of x)))) h
    step_clean s (drop_line x) h = subst Clean (sym (drop_lines s (index_path (query_of x)))) h
    step_clean s indexes_line h = h
    step_clean s check_line h = h
    step_clean s (append_line line) h =
        edited_clean s line (s.lines ++ line ∷ []) (said (codes "appended " ++ decimal (length s.lines + 1))) h
        (λ g. All-append (HasNoSeparator (separator_of setup.framing)) s.lines (line ∷ []) h (All-cons (HasNoSeparator (separator_of setup.framing)) line [] g (All-nil (HasNoSeparator (separator_of setup.framing)))))
    step_clean s (replace_line n line) h = pick (nat_le 1 n && nat_le n (length s.lines))
      where
        pick : (b : Bool) → Clean (if b then edited setup s line (slice_set s.lines (n - 1) line) (said (codes "replaced " ++ decimal n)) else keeps (error (codes "line")) s).after.lines
        pick true = edited_clean s line (slice_set s.lines (n - 1) line) (said (codes "replaced " ++ decimal n)) h (λ g. All-set (HasNoSeparator (separator_of setup.framing)) s.lines (n - 1) line g h)
        pick false = h
    step_clean s unknown_line h = h

    unless_clean : (starved : Bool) (s : State) (c : Command) → Clean s.lines → Clean (step_unless query_of starved setup s c).after.lines
    unless_clean true s c h = h
    unless_clean false s c h = step_clean s c h

    run_clean : (commands : List (List ℕ)) (flags : List Bool) (s : State) → Clean s.lines → Clean (run s commands flags).after.lines
    run_clean [] flags s h = h
    run_clean (line ∷ rest) [] s h = run_clean rest [] (step query_of setup s (asked line)).after (step_clean s (asked line) h)
    run_clean (line ∷ rest) (flag ∷ flags) s h = run_clean rest flags (step_unless query_of flag setup s (asked line)).after (unless_clean flag s (asked line) h)

    before_clean : (parts : List (List ℕ)) → All (HasNoSeparator 0x0A) parts → All (HasNoSeparator 0x0A) (before_last_piece parts)
    before_clean [] h = h
    before_clean (part ∷ []) h = All-nil (HasNoSeparator 0x0A)
    before_clean (part ∷ next ∷ parts) h = All-cons (HasNoSeparator 0x0A) part (before_last_piece (next ∷ parts)) (All-head (HasNoSeparator 0x0A) part (next ∷ parts) h) (before_clean (next ∷ parts) (All-tail (HasNoSeparator 0x0A) part (next ∷ parts) h))

    last_clean : (parts : List (List ℕ)) → All (HasNoSeparator 0x0A) parts → All (HasNoSeparator 0x0A) (line_unless_empty (last_piece parts))
    last_clean [] h = h
    last_clean (part ∷ []) h = unless_empty part (All-head (HasNoSeparator 0x0A) part [] h)
      where
        unless_empty : (line : List ℕ) → HasNoSeparator 0x0A line → All (HasNoSeparator 0x0A) (line_unless_empty line)
        unless_empty [] g = All-nil (HasNoSeparator 0x0A)
        unless_empty (b ∷ line) g = All-cons (HasNoSeparator 0x0A) (b ∷ line) [] g (All-nil (HasNoSeparator 0x0A))
    last_clean (part ∷ next ∷ parts) h = last_clean (next ∷ parts) (All-tail (HasNoSeparator 0x0A) part (next ∷ parts) h)

    lines_clean : (text : List ℕ) → All (HasNoSeparator 0x0A) (text_lines text)
    lines_clean text = All-append (HasNoSeparator 0x0A) (closed_lines text) (line_unless_empty (open_line text)) (before_clean (pieces 0x0A text) (all_clear 0x0A text)) (last_clean (pieces 0x0A text) (all_clear 0x0A text))

    some_clean : (parts : List (List ℕ)) → All (HasNoSeparator 0x1E) parts → All (HasNoSeparator 0x1E) (without_empty parts)
    some_clean [] h = h
    some_clean ([] ∷ parts) h = some_clean parts (All-tail (HasNoSeparator 0x1E) [] parts h)
    some_clean ((b ∷ part) ∷ parts) h = All-cons (HasNoSeparator 0x1E) (b ∷ part) (without_empty parts) (All-head (HasNoSeparator 0x1E) (b ∷ part) parts h) (some_clean parts (All-tail (HasNoSeparator 0x1E) (b ∷ part) parts h))

    load_clean : (f : Framing) (collection : List ℕ) → All (HasNoSeparator (separator_of f)) (lines f collection)
    load_clean in_lines collection = lines_clean (without_byte_order_mark collection)
    load_clean in_sequence collection =
        some_clean (drop 1 (pieces 0x1E (without_byte_order_mark collection))) (All-drop (HasNoSeparator 0x1E) 1 (pieces 0x1E (without_byte_order_mark collection)) (all_clear 0x1E (without_byte_order_mark collection)))

    pub stays_clean : (collection : List ℕ) (commands : List (List ℕ)) (flags : List Bool) → Clean (run (loaded setup collection) commands flags).after.lines
    stays_clean collection commands flags = run_clean commands flags (loaded setup collection) (load_clean setup.framing collection)

    pub loads_again : (collection : List ℕ) (commands : List (List ℕ)) (flags : List Bool) → setup.framing ≡ in_lines → begins_with_mark (first_piece (run (loaded setup collection) commands flags).after.lines) ≡ false
        → (loaded setup (with_line_feeds (run (loaded setup collection) commands flags).after.lines)).lines ≡ (run (loaded setup collection) commands flags).after.lines
    loads_again collection commands flags e g =
        let ls : List (List ℕ) = (run (loaded setup collection) commands flags).after.lines in
        let clean : All (HasNoSeparator 0x0A) ls = subst (λ f. All (HasNoSeparator (separator_of f)) ls) e (stays_clean collection commands flags) in
        ap (λ f. lines f (with_line_feeds ls)) e ∙ lines_of ls clean g

-- ---- the commands of two texts

pub commands_go_on : (a b : List ℕ) → open_line a ≡ [] → command_lines (a ++ b) ≡ command_lines a ++ command_lines b
commands_go_on a b e =
    let closed : closed_lines (a ++ b) ≡ closed_lines a ++ closed_lines b = closed-append 0x0A a b ∙ ap (λ o. closed_lines a ++ closed_lines (o ++ b)) e in
    let rest : open_line (a ++ b) ≡ open_line b = open-append 0x0A a b ∙ ap (λ o. open_line (o ++ b)) e in
    let whole : text_lines (a ++ b) ≡ text_lines a ++ text_lines b =
    ap₂ (λ x y. x ++ line_unless_empty y) closed rest ∙ (append_assoc (closed_lines a) (closed_lines b) (line_unless_empty (open_line b)) ∙ ap (λ l. l ++ text_lines b) (sym (ap (λ o. closed_lines a ++ line_unless_empty o) e ∙ append-nil (closed_lines a)))) in
    ap (map without_final_cr) whole ∙ map-append without_final_cr (text_lines a) (text_lines b)
