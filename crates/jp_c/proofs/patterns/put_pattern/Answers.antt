-- The pattern is the scalars that its bytes encode.
use Rattle.std.proofs.Common.{◌∙◌, ◌++◌, ℕ, List, Some, ap, chars, drop, length, option_map, sym, take}
use denote.Ref.{Bor}
use Rattle.std.proofs.lemmas.Option.{slice_get-get_or, slice_get-map}
use Rattle.std.proofs.lemmas.Str.{encodes-chars}
use Rattle.jp_c.proofs.patterns.put_pattern.Goals as goal

pub returns-clause-told : goal.returns-clause-told
returns-clause-told c =
    let pattern : Bor (List ℕ) = c.in-Some.pattern.now in
    let room : List ℕ = c.args.room.now in
    let utf8 = rw c.as_bytes.ensures.value at c.as_bytes.ensures.utf8 in
    let same = sym (encodes-chars pattern.now utf8) in
    let lookup = c.in-Some.ensures.lookup in
    λ _. record {
      pattern = chars pattern.now;
      is = slice_get-map (λ (text : Bor (List ℕ)). chars text.now) c.args.patterns.now c.args.number
          ∙ ap (option_map (λ (text : Bor (List ℕ)). chars text.now)) (slice_get-get_or c.args.patterns.now c.args.number pattern lookup.3.0 ∙ ap (λ (text : Bor (List ℕ)). Some text) (sym lookup.1));
      count_is = ap length same;
      room = c.put_text.ensures ∙ ap (λ (bytes : List ℕ). take (length room) bytes ++ drop (length bytes) room) (c.as_bytes.ensures.value ∙ same);
    }
