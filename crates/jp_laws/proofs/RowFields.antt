-- The fields of a row hold neither a tab nor what ends or begins rows.
use Rattle.std.proofs.Common.{◌≡◌, ℕ, zero, suc, ◌+◌, ◌-◌, ◌/◌, ◌%◌, ◌<◌, ◌≤◌, pos, negsuc, List, [], ◌∷◌, ◌++◌, flat_map, drop, false, ◌==◌, nat_lt, ltb, decimal, eq-eqb, refl, ap, ◌∙◌, append_assoc, arith}
use Rattle.std.specs.Fmt.{digits, digits_onto, digit_glyph}
use lib.Utf8.{encode, encodes}
use Rattle.std.proofs.lemmas.Bool.{cond_both, ne_eqb}
use Rattle.std.proofs.lemmas.List.Elements.{All-take, All-drop}
use Rattle.std.proofs.lemmas.List.Splits.{slice_split_at, slice_split_none}
use Rattle.jp_model.specs.declared.Framing.{Framing}
use Rattle.jp_model.specs.declared.Framing.TheVariants.{Lines as in_lines, Sequence as in_sequence}
use Rattle.jp_model.specs.Json.Tree.{Tree, span}
use Rattle.jp_model.specs.Lines.{pieces, is_separator, HasNoSeparator}
use Rattle.jp_model.specs.Meaning.Nodes.{Node}
use Rattle.jp_model.specs.Meaning.Paths.{hex_digit, name_scalar, step_text, steps_text, path_text}
use Rattle.jp_model.specs.Rows.{row_start, line_feed, tab, source, node_text}
use Rattle.jp_model.specs.Steps.{Step, name_step, index_step}
use Rattle.jp_laws.proofs.PathTexts.{name_scalar_by}
use Rattle.jp_laws.proofs.Reached.{Each, each_append, all_each, each_all}

-- no control character
abbrev pub High : List ℕ → Type 0
High bytes = Each (λ b. 32 ≤ b) bytes

high_append : (xs ys : List ℕ) → High xs → High ys → High (xs ++ ys)
high_append xs ys h g = each_append (λ b. 32 ≤ b) xs ys h g

glyph_high : (n : ℕ) → 32 ≤ digit_glyph false n
glyph_high n = cond_both (nat_lt n 10) (48 + n) (87 + n) (λ b. 32 ≤ b) (λ e. omega arith) (λ e. omega arith)

onto_high : (k n : ℕ) (acc : List ℕ) → High acc → High (digits_onto k 10 false n acc)
onto_high zero n acc h = h
onto_high (suc k) n acc h =
    cond_both (n / 10 == 0) (digit_glyph false (n % 10) ∷ acc) (digits_onto k 10 false (n / 10) (digit_glyph false (n % 10) ∷ acc)) High
    (λ e. (glyph_high (n % 10), h)) (λ e. onto_high k (n / 10) (digit_glyph false (n % 10) ∷ acc) (glyph_high (n % 10), h))

decimal_high : (n : ℕ) → High (decimal n)
unfolding digits
decimal_high n = onto_high 64 n [] tt

-- ---- the bytes of a path

encode_high : (c : ℕ) → 32 ≤ c → High (encode c)
unfolding encode
encode_high c h =
    cond_both (ltb c 128) _ _ High (λ e. (h, tt)) (λ a.
    cond_both (ltb c 2048) _ _ High (λ e. (omega arith, (omega arith, tt))) (λ b.
    cond_both (ltb c 65536) _ _ High (λ e. (omega arith, (omega arith, (omega arith, tt)))) (λ e. (omega arith, (omega arith, (omega arith, (omega arith, tt)))))))

encodes_high : (cs : List ℕ) → High cs → High (encodes cs)
encodes_high [] h = tt
encodes_high (c ∷ cs) h = high_append (encode c) (encodes cs) (encode_high c h.0) (encodes_high cs h.1)

hex_high : (n : ℕ) → 32 ≤ hex_digit n
hex_high n = cond_both (nat_lt n 10) (48 + n) (87 + n) (λ b. 32 ≤ b) (λ e. omega arith) (λ e. omega arith)

escape_high : (b : ℕ) → 32 ≤ b → High (92 ∷ b ∷ [])
escape_high b h = (omega arith, (h, tt))

name_scalar_high : (c : ℕ) → High (name_scalar c)
name_scalar_high c =
    name_scalar_by c High (λ e. escape_high 98 (omega arith)) (λ e. escape_high 116 (omega arith)) (λ e. escape_high 110 (omega arith)) (λ e. escape_high 102 (omega arith)) (λ e. escape_high 114 (omega arith)) (λ e. escape_high 39 (omega arith)) (λ e. escape_high 92 (omega arith))
    (λ l. (omega arith, (omega arith, (omega arith, (omega arith, (hex_high (c / 16), (hex_high (c % 16), tt))))))) (λ l n m. (l, tt))

name_high : (x : List ℕ) → High (flat_map name_scalar x)
name_high [] = tt
name_high (c ∷ x) = high_append (name_scalar c) (flat_map name_scalar x) (name_scalar_high c) (name_high x)

one_high : (b : ℕ) → 32 ≤ b → High (b ∷ [])
one_high b h = (h, tt)

step_high : (s : Step) → High (step_text s)
step_high (name_step x) = high_append (91 ∷ (39 ∷ flat_map name_scalar x ++ 39 ∷ [])) (93 ∷ []) (omega arith, (omega arith, high_append (flat_map name_scalar x) (39 ∷ []) (name_high x) (one_high 39 (omega arith)))) (one_high 93 (omega arith))
step_high (index_step (pos k)) = high_append (91 ∷ decimal k) (93 ∷ []) (omega arith, decimal_high k) (one_high 93 (omega arith))
step_high (index_step (negsuc k)) = high_append (91 ∷ 45 ∷ decimal (suc k)) (93 ∷ []) (omega arith, (omega arith, decimal_high (suc k))) (one_high 93 (omega arith))

steps_high : (steps : List Step) → High (steps_text steps)
steps_high [] = tt
steps_high (s ∷ ss) = high_append (step_text s) (steps_text ss) (step_high s) (steps_high ss)

pub path_high : (steps : List Step) → High (path_text steps)
path_high steps = encodes_high (36 ∷ steps_text steps) (omega arith, steps_high steps)

-- ---- what is not there

abbrev Clear : ℕ → List ℕ → Type 0
Clear sep bytes = Each (λ b. is_separator sep b ≡ false) bytes

high_clear : (sep : ℕ) → sep < 32 → (bytes : List ℕ) → High bytes → Clear sep bytes
high_clear sep l [] h = tt
high_clear sep l (b ∷ bytes) h = (ne_eqb b sep (λ (e : b ≡ sep). let k = h.0 in omega arith), high_clear sep l bytes h.1)

clear_append : (sep : ℕ) (xs ys : List ℕ) → Clear sep xs → Clear sep ys → Clear sep (xs ++ ys)
clear_append sep xs ys h g = each_append (λ b. is_separator sep b ≡ false) xs ys h g

has_none : (sep : ℕ) (bytes : List ℕ) → Clear sep bytes → HasNoSeparator sep bytes
has_none sep bytes h = each_all (λ b. is_separator sep b ≡ false) bytes h

cut_at : (sep : ℕ) (front rest : List ℕ) → Clear sep front → pieces sep (front ++ sep ∷ rest) ≡ front ∷ pieces sep rest
cut_at sep front rest h = slice_split_at (is_separator sep) front sep rest (has_none sep front h) (eq-eqb sep sep refl)

regroup : (a p s l : List ℕ) → a ++ 9 ∷ [] ++ p ++ 9 ∷ [] ++ s ++ l ≡ a ++ 9 ∷ (p ++ 9 ∷ (s ++ l))
regroup a p s l =
    append_assoc (a ++ 9 ∷ [] ++ p ++ 9 ∷ []) s l ∙ (append_assoc (a ++ 9 ∷ [] ++ p) (9 ∷ []) (s ++ l) ∙ (append_assoc (a ++ 9 ∷ []) p (9 ∷ (s ++ l)) ∙ append_assoc a (9 ∷ []) (p ++ 9 ∷ (s ++ l))))

start_clear : (f : Framing) → Clear 9 (row_start f)
start_clear in_lines = tt
start_clear in_sequence = (refl, tt)

pub row_fields : (f : Framing) (number : ℕ) (line : List ℕ) (n : Node) → pieces 0x09 (node_text f number line n) ≡ (row_start f ++ decimal number) ∷ path_text n.location ∷ pieces 0x09 (source line n.tree ++ line_feed)
row_fields f number line n =
    ap (pieces 9) (regroup (row_start f ++ decimal number) (path_text n.location) (source line n.tree) line_feed)
    ∙ (cut_at 9 (row_start f ++ decimal number) (path_text n.location ++ 9 ∷ (source line n.tree ++ line_feed)) (clear_append 9 (row_start f) (decimal number) (start_clear f) (high_clear 9 (omega arith) (decimal number) (decimal_high number)))
    ∙ ap (λ l. (row_start f ++ decimal number) ∷ l) (cut_at 9 (path_text n.location) (source line n.tree ++ line_feed) (high_clear 9 (omega arith) (path_text n.location) (path_high n.location))))

source_clear : (sep : ℕ) (line : List ℕ) (t : Tree) → HasNoSeparator sep line → Clear sep (source line t)
source_clear sep line t h =
    all_each (λ b. is_separator sep b ≡ false) (source line t)
    (All-take (λ b. is_separator sep b ≡ false) ((span t).end - (span t).start) (drop (span t).start line) (All-drop (λ b. is_separator sep b ≡ false) (span t).start line h))

front_clear : (sep : ℕ) → sep < 32 → is_separator sep 9 ≡ false → (number : ℕ) (line : List ℕ) (n : Node) → HasNoSeparator sep line → Clear sep (decimal number ++ tab ++ path_text n.location ++ tab ++ source line n.tree)
front_clear sep l e number line n h =
    clear_append sep (decimal number ++ tab ++ path_text n.location ++ tab) (source line n.tree)
    (clear_append sep (decimal number ++ tab ++ path_text n.location) tab
    (clear_append sep (decimal number ++ tab) (path_text n.location) (clear_append sep (decimal number) tab (high_clear sep l (decimal number) (decimal_high number)) (e, tt)) (high_clear sep l (path_text n.location) (path_high n.location)))
    (e, tt))
    (source_clear sep line n.tree h)

pub row_line : (number : ℕ) (line : List ℕ) (n : Node) → HasNoSeparator 0x0A line → pieces 0x0A (node_text in_lines number line n) ≡ (decimal number ++ tab ++ path_text n.location ++ tab ++ source line n.tree) ∷ [] ∷ []
row_line number line n h = cut_at 10 (decimal number ++ tab ++ path_text n.location ++ tab ++ source line n.tree) [] (front_clear 10 (omega arith) refl number line n h)

uncut : (sep : ℕ) (bytes : List ℕ) → Clear sep bytes → pieces sep bytes ≡ bytes ∷ []
uncut sep bytes h = slice_split_none (is_separator sep) bytes (has_none sep bytes h)

pub row_sequence : (number : ℕ) (line : List ℕ) (n : Node) → HasNoSeparator 0x1E line → pieces 0x1E (node_text in_sequence number line n) ≡ [] ∷ (decimal number ++ tab ++ path_text n.location ++ tab ++ source line n.tree ++ line_feed) ∷ []
row_sequence number line n h =
    cut_at 30 [] (decimal number ++ tab ++ path_text n.location ++ tab ++ source line n.tree ++ line_feed) tt
    ∙ ap (λ l. [] ∷ l) (uncut 30 (decimal number ++ tab ++ path_text n.location ++ tab ++ source line n.tree ++ line_feed) (clear_append 30 (decimal number ++ tab ++ path_text n.location ++ tab ++ source line n.tree) line_feed (front_clear 30 (omega arith) refl number line n h) (refl, tt)))
