-- A body without an escape is its own text. Else each turn appends a character more.
use Rattle.std.proofs.Common.{◌≡◌, ◌∙◌, ◌++◌, ◌∷◌, [], sym, ap, append_assoc, append-nil, chars, encode_utf8_all}
use Rattle.std.specs.Prelude.{encode_utf8}
use Rattle.std.proofs.lemmas.Str.{encodes-append, encodes-chars}
use Rattle.jp_strings.specs.Points.{points_of}
use Rattle.jp_strings.specs.Scalars.{scalars_left}
use Rattle.jp_grep.proofs.Appended.{ok_items}
use Rattle.jp_grep.proofs.spelling.append_body.Goals as goal

pub returns-in-Some : goal.returns-in-Some
returns-in-Some c =
    let bytes = c.as_bytes.result.now in
    let is : bytes ≡ encode_utf8_all (points_of c.args.body.now) =
    sym (encodes-chars bytes c.as_bytes.ensures.utf8)
    ∙ ap (λ text. encode_utf8_all (chars text)) c.as_bytes.ensures.value
    ∙ ap encode_utf8_all c.in-Some.ensures.text in
    ok_items c.extend_from_slice.result _ _ _ _ c.extend_from_slice.ensures.items is

pub loop-scalar-preserved : goal.loop-scalar-preserved
loop-scalar-preserved c =
    let read = c.loop-scalar.yielded in
    let scalar = c.in-Some-scalar.scalar in
    let front = c.args.text.now.items in
    let next : scalars_left c.loop-scalar.scalar-iterator ≡ scalar ∷ scalars_left c.next.new.self = c.in-Some-scalar.ensures.steps in
    let bytes : c.as_bytes-in-loop-scalar.result.now ≡ encode_utf8 scalar = c.as_bytes-in-loop-scalar.ensures.value ∙ c.encode_utf8.ensures.value in
    record {
      left = c.loop-scalar.invariant.left ∙ ap (λ xs. read ++ xs) next ∙ sym (append_assoc read (scalar ∷ []) (scalars_left c.next.new.self));
      text = c.in_ok-extend_from_slice.ensures.items
          ∙ ap (λ l. l ++ c.as_bytes-in-loop-scalar.result.now) c.loop-scalar.invariant.text
          ∙ append_assoc front (encode_utf8_all read) c.as_bytes-in-loop-scalar.result.now
          ∙ ap (λ l. front ++ (encode_utf8_all read ++ l)) (bytes ∙ sym (append-nil (encode_utf8 scalar)))
          ∙ ap (λ l. front ++ l) (sym (encodes-append read (scalar ∷ [])));
    }
