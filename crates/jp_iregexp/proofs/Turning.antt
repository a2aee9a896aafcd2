-- The loop over a pattern's tokens.
use Rattle.std.proofs.Common.{◌≡◌, ℕ, suc, ◌+◌, ◌-◌, ◌<◌, ◌≤◌, List, [], ◌∷◌, length, take, drop, get_or, Option, Some, None, option_and_then, refl, sym, ◌∙◌, ap, arith}
use Rattle.std.proofs.lemmas.List.{take_rest}
use Rattle.jp_model.specs.Pattern.Groups.{Groups, fresh, after_token, read_from, pattern_of_tokens}
use Rattle.jp_model.specs.Pattern.Reading.{Read, read_token, tokens_within, tokens_of}
use Rattle.jp_model.specs.Pattern.Spelling.{Token}
use Rattle.jp_model.specs.Pattern.Tree.{Pattern}
use Rattle.jp_iregexp.specs.Tokens.{read_on}

pub first_and_rest : (text : List ℕ) (c : ℕ) → 1 ≤ length text → c ≡ get_or text 0 c → text ≡ c ∷ take (length text - 1) (drop 1 text)
first_and_rest [] c l is = absurd (omega arith)
first_and_rest (d ∷ text) c l is = ap (λ x. x ∷ text) (sym is) ∙ ap (λ x. c ∷ x) (sym (take_rest (d ∷ text) 1))

-- before the first turn
pub turns_start : (text : List ℕ) (groups : Groups) → groups ≡ record { now = fresh; around = [] } → read_on (length text - 0) text groups ≡ option_and_then pattern_of_tokens (tokens_of text)
turns_start text groups is =
    let all : length text - 0 ≡ length text = omega arith in
    ap (λ n. read_on n text groups) all ∙ ap (λ g. read_on (length text) text g) is

swapped : (after : Option Groups) (tokens : Option (List Token)) → option_and_then (λ ts. option_and_then (read_from ts) after) tokens ≡ option_and_then (λ g. option_and_then (λ ts. read_from ts g) tokens) after
swapped None None = refl
swapped None (Some ts) = refl
swapped (Some g) None = refl
swapped (Some g) (Some ts) = refl

-- the pattern, where this token was read
abbrev pub read_found : ℕ → Groups → Read Token → Option Pattern
read_found steps groups None = None
read_found steps groups (Some p) = option_and_then (read_on steps p.1) (after_token p.0 groups)

onto : (t : Token) (groups : Groups) (tokens : Option (List Token)) → option_and_then (λ ts. read_from ts groups) (option_and_then (λ ts. Some (t ∷ ts)) tokens) ≡ option_and_then (λ ts. option_and_then (read_from ts) (after_token t groups)) tokens
onto t groups None = refl
onto t groups (Some ts) = refl

found_step : (steps : ℕ) (groups : Groups) (found : Read Token) → option_and_then (λ ts. read_from ts groups) (option_and_then (λ p. option_and_then (λ ts. Some (p.0 ∷ ts)) (tokens_within steps p.1)) found) ≡ read_found steps groups found
found_step steps groups None = refl
found_step steps groups (Some p) = onto p.0 groups (tokens_within steps p.1) ∙ swapped (after_token p.0 groups) (tokens_within steps p.1)

one_turn : (limit turn : ℕ) → turn < limit → limit - turn ≡ suc (limit - (turn + 1))
one_turn limit turn l = omega arith

-- one turn
pub turns_step : (left behind : List ℕ) (c limit turn : ℕ) (groups : Groups) (found : Read Token) (target : Option Pattern) → turn < limit → left ≡ c ∷ behind → found ≡ read_token c behind → read_on (limit - turn) left groups ≡ target → read_found (limit - (turn + 1)) groups found ≡ target
turns_step left behind c limit turn groups found target l is reads so_far =
    ap (read_found (limit - (turn + 1)) groups) reads
    ∙ sym (found_step (limit - (turn + 1)) groups (read_token c behind))
    ∙ ap (λ n. read_on n (c ∷ behind) groups) (sym (one_turn limit turn l))
    ∙ ap (λ x. read_on (limit - turn) x groups) (sym is) ∙ so_far

pub turns_refused : (steps : ℕ) (groups : Groups) (t : Token) (rest : List ℕ) (target : Option Pattern) → after_token t groups ≡ None → read_found steps groups (Some (t, rest)) ≡ target → None ≡ target
turns_refused steps groups t rest target refused h = ap (option_and_then (read_on steps rest)) (sym refused) ∙ h

pub turns_taken : (steps : ℕ) (groups more : Groups) (t : Token) (rest : List ℕ) (target : Option Pattern) → after_token t groups ≡ Some more → read_found steps groups (Some (t, rest)) ≡ target → read_on steps rest more ≡ target
turns_taken steps groups more t rest target taken h = ap (option_and_then (read_on steps rest)) (sym taken) ∙ h

-- no turn is left
pub turns_end : (limit turn : ℕ) (left : List ℕ) (groups : Groups) (target : Option Pattern) → limit ≤ turn → 1 ≤ length left → read_on (limit - turn) left groups ≡ target → None ≡ target
turns_end limit turn [] groups target l some h = absurd (omega arith)
turns_end limit turn (c ∷ left) groups target l some h =
    let none : limit - turn ≡ 0 = omega arith in
    ap (λ n. read_on n (c ∷ left) groups) (sym none) ∙ h
