-- Each turn writes one step more.
use Rattle.std.proofs.Common.{◌≡◌, ◌∙◌, ◌+◌, ◌∷◌, ◌++◌, List, ℕ, ap, drop, encode_utf8_all, map, sym, take}
use Rattle.jp_model.specs.Meaning.Paths.{path_text, steps_text}
use Rattle.jp_model.specs.Steps as model
use Rattle.jp_syntax.specs.SingularPaths.{step_view, path_steps}
use Rattle.jp_syntax.specs.declared.paths.Step.{Step}
use Rattle.jp_devices.proofs.Chains.{both_received, part_more, part_behind, ends_in_part}
use Rattle.jp_rows.proofs.Printed.{path-push, path-parts}
use Rattle.jp_rows.proofs.Turns.{map_around, map_push}
use Rattle.jp_rows.proofs.singular.write_steps.Goals as goal

pub returns-in_err-write_singular_step-clause-text : goal.returns-in_err-write_singular_step-clause-text
returns-in_err-write_singular_step-clause-text g c =
    let k : ℕ = c.loop-step.step-index in
    let items : List Step = c.steps-step-items.result.now in
    let step : Step = c.step-item.result in
    let before : List model.Step = map step_view (take k items) in
    let behind : List model.Step = map step_view (drop (k + 1) items) in
    let all : path_steps c.args.path.now ≡ before ++ step_view step ∷ behind =
    sym c.steps-step-items.ensures ∙ map_around step_view items k step c.loop-step-test.true c.step-item.is in
    let part = part_behind _ _ _ (path_text before) _ c.loop-step.invariant.written c.in_err-write_singular_step.ensures.text in
    rw (ap path_text all ∙ path-parts before (step_view step) behind)
    (ends_in_part c.from_residual-in_err-write_singular_step.result _ _ _ c.from_residual-in_err-write_singular_step.ensures.0 (part_more _ _ _ (encode_utf8_all (steps_text behind)) part))

pub loop-step-preserved : goal.loop-step-preserved
loop-step-preserved g c =
    let k : ℕ = c.loop-step.step-index in
    let items : List Step = c.steps-step-items.result.now in
    let step : Step = c.step-item.result in
    record {
      working = c.in_ok-write_singular_step.ensures.fault;
      early = c.in_ok-write_singular_step.ensures.after ∙ c.loop-step.invariant.early;
      written = rw (ap path_text (map_push step_view items k step c.loop-step-test.true c.step-item.is) ∙ path-push (map step_view (take k items)) (step_view step))
          (both_received _ _ _ _ _ c.loop-step.invariant.written c.in_ok-write_singular_step.ensures.text);
    }
