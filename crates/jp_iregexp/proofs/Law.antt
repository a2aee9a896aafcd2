-- The reader of patterns is their grammar.
use Rattle.std.proofs.Common.{◌≡◌, ◌↔◌, ◌==◌, ◌≤◌, ℕ, Bool, true, false, nat_le, List, length, Option, Some, None, option_and_then, count_by, if◌then◌else◌, refl, ◌∙◌, ap, arith}
use Rattle.std.proofs.lemmas.Bool.{leb-true, le-leb}
use Rattle.jp_model.specs.Pattern.Groups.{pattern_of_tokens}
use Rattle.jp_model.specs.Pattern.Reading.{tokens_of, pattern_of}
use Rattle.jp_model.specs.Pattern.Spelling.{Token, SpellsPattern}
use Rattle.jp_model.specs.Pattern.Tree.{Pattern}
use Rattle.jp_model.proofs.Pattern.Readings.{tokens_read}
use Rattle.jp_iregexp.proofs.Found.{tokens_sound}
use Rattle.jp_iregexp.proofs.Complete.{tokens_complete}

from_tokens : (text : List ℕ) (r : Pattern) (o : Option (List Token)) → tokens_of text ≡ o → count_by (λ c. c == 0x28) text ≤ 256 → option_and_then pattern_of_tokens o ≡ Some r → SpellsPattern text r
from_tokens text r None is few e = absurd (cc)
from_tokens text r (Some ts) is few e = record { tokens = ts; spelled = tokens_sound (length text) text ts is; derived = (tokens_read ts r).0 e; shallow = few }

sound : (text : List ℕ) (r : Pattern) (few : Bool) → nat_le (count_by (λ c. c == 0x28) text) 256 ≡ few → (if few then option_and_then pattern_of_tokens (tokens_of text) else None) ≡ Some r → SpellsPattern text r
sound text r true is e = from_tokens text r (tokens_of text) refl (leb-true (count_by (λ c. c == 0x28) text) 256 is) e
sound text r false is e = absurd (cc)

complete : (text : List ℕ) (r : Pattern) → SpellsPattern text r → pattern_of text ≡ Some r
complete text r s =
    ap (λ b. if b then option_and_then pattern_of_tokens (tokens_of text) else None) (le-leb (count_by (λ c. c == 0x28) text) 256 s.shallow)
    ∙ ap (option_and_then pattern_of_tokens) (tokens_complete s.spelled (length text) (omega arith))
    ∙ (tokens_read s.tokens r).1 s.derived

pub patterns_read : (text : List ℕ) (r : Pattern) → (pattern_of text ≡ Some r) ↔ SpellsPattern text r
patterns_read text r = (sound text r (nat_le (count_by (λ c. c == 0x28) text) 256) refl, complete text r)
