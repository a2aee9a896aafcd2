-- A plain body is appended as it stands. Else each turn appends one more scalar.
use Rattle.std.proofs.Common.{◌≡◌, ◌∙◌, ◌++◌, ◌∷◌, [], sym, ap, append_assoc}
use Rattle.std.proofs.lemmas.List.{flat_map_more}
use Rattle.jp_canon.specs.Canonical.{character_text}
use Rattle.jp_strings.specs.Points.{points_of}
use Rattle.jp_strings.specs.Scalars.{scalars_left}
use Rattle.jp_canon.proofs.Appends.{bytes_appended}
use Rattle.jp_canon.proofs.Characters.{plain_characters}
use Rattle.jp_canon.proofs.string.append_characters.Goals as goal

pub returns-then-is_plain : goal.returns-then-is_plain
returns-then-is_plain c = bytes_appended c.extend_from_slice.result _ _ _ _ c.extend_from_slice.ensures.items (sym (plain_characters c.args.body.now c.requires (c.is_plain.ensures.plain c.if-is_plain.true)))

pub loop-scalar-preserved : goal.loop-scalar-preserved
loop-scalar-preserved c =
    let next : scalars_left c.loop-scalar.scalar-iterator ≡ c.in-Some.scalar ∷ scalars_left c.next.new.self = c.in-Some.ensures.steps in
    let all : points_of c.args.body.now ≡ c.loop-scalar.yielded ++ c.in-Some.scalar ∷ scalars_left c.next.new.self = c.loop-scalar.invariant.left ∙ ap (λ xs. c.loop-scalar.yielded ++ xs) next in
    record {
      left = all ∙ sym (append_assoc c.loop-scalar.yielded (c.in-Some.scalar ∷ []) (scalars_left c.next.new.self));
      text = c.in_ok-append_character.ensures ∙ (ap (λ t. t ++ character_text c.in-Some.scalar) c.loop-scalar.invariant.text ∙ flat_map_more character_text c.args.text.now.items c.loop-scalar.yielded c.in-Some.scalar);
    }
