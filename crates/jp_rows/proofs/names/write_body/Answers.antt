-- In one piece what the body spells is the body. Else each turn writes one more scalar.
use Rattle.std.proofs.Common.{◌≡◌, ◌∙◌, ◌++◌, ◌∷◌, [], sym, ap, append_assoc}
use Rattle.jp_strings.specs.Points.{points_of}
use Rattle.jp_strings.specs.Scalars.{scalars_left}
use Rattle.jp_rows.specs.Names.{name_text}
use Rattle.jp_devices.proofs.Chains.{both_received, part_more, part_behind, ends_in_part}
use Rattle.jp_rows.proofs.Printed.{name-push, name-parts}
use Rattle.jp_rows.proofs.Plain.{plain_name}
use Rattle.jp_rows.proofs.names.write_body.Goals as goal

pub returns-then-needs_no_escape-clause-text : goal.returns-then-needs_no_escape-clause-text
returns-then-needs_no_escape-clause-text g c =
    let plain = plain_name c.args.body.now c.requires.body (sym c.needs_no_escape.ensures ∙ c.if-needs_no_escape.true) in
    rw plain c.write_whole.ensures.text

pub returns-in_err-write_scalar-clause-text : goal.returns-in_err-write_scalar-clause-text
returns-in_err-write_scalar-clause-text g c =
    let next : scalars_left c.loop-scalar.scalar-iterator ≡ c.in-Some.scalar ∷ scalars_left c.next.new.self = c.in-Some.ensures.steps in
    let all : points_of c.args.body.now ≡ c.loop-scalar.yielded ++ c.in-Some.scalar ∷ scalars_left c.next.new.self = c.loop-scalar.invariant.left ∙ ap (λ xs. c.loop-scalar.yielded ++ xs) next in
    let part = part_behind _ _ _ (name_text c.loop-scalar.yielded) _ c.loop-scalar.invariant.written c.in_err-write_scalar.ensures.text in
    rw (ap name_text all ∙ name-parts c.loop-scalar.yielded c.in-Some.scalar (scalars_left c.next.new.self))
    (ends_in_part c.from_residual.result _ _ _ c.from_residual.ensures.0 (part_more _ _ _ (name_text (scalars_left c.next.new.self)) part))

pub loop-scalar-preserved : goal.loop-scalar-preserved
loop-scalar-preserved g c =
    let next : scalars_left c.loop-scalar.scalar-iterator ≡ c.in-Some.scalar ∷ scalars_left c.next.new.self = c.in-Some.ensures.steps in
    let all : points_of c.args.body.now ≡ c.loop-scalar.yielded ++ c.in-Some.scalar ∷ scalars_left c.next.new.self = c.loop-scalar.invariant.left ∙ ap (λ xs. c.loop-scalar.yielded ++ xs) next in
    record {
      left = all ∙ sym (append_assoc c.loop-scalar.yielded (c.in-Some.scalar ∷ []) (scalars_left c.next.new.self));
      working = c.in_ok-write_scalar.ensures.fault;
      early = c.in_ok-write_scalar.ensures.after ∙ c.loop-scalar.invariant.early;
      written = rw (name-push c.loop-scalar.yielded c.in-Some.scalar) (both_received _ _ _ _ _ c.loop-scalar.invariant.written c.in_ok-write_scalar.ensures.text);
    }
