-- A body without an escape is its own text.
use Rattle.std.proofs.Common.{◌∙◌, sym, ap, chars, encode_utf8_all}
use Rattle.std.proofs.lemmas.Str.{encodes-chars}
use Rattle.jp_grep.proofs.spelling.body_text.Goals as goal

pub returns-in-Some : goal.returns-in-Some
returns-in-Some c =
    sym (encodes-chars c.as_bytes.result.now c.as_bytes.ensures.utf8)
    ∙ ap (λ text. encode_utf8_all (chars text)) c.as_bytes.ensures.value
    ∙ ap encode_utf8_all c.in-Some.ensures.text
