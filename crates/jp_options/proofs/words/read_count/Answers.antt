use Rattle.std.proofs.Common.{◌≡◌, ◌∙◌, ap, sym, option_map, refl, Some, None}
use Rattle.std.proofs.lemmas.Result.{err_from_is_err_and}
use Rattle.clap.specs.Words.{first_of, found_of, rows_of}
use Rattle.clap.proofs.WalkLemmas.{first_value-rows}
use Rattle.jp_options.proofs.Program.{reads_count, refuses_count}
use Rattle.jp_options.proofs.words.read_count.Goals as goal

pub returns-in_err-parse-in-Some : goal.returns-in_err-parse-in-Some
returns-in_err-parse-in-Some c =
    let value : Some c.in-Some.word.now ≡ first_of c.args.id.now (rows_of (found_of c.args.matches.now)) =
    ap (option_map (λ s. s.now)) (sym c.in-Some.is) ∙ c.get_str.ensures ∙ first_value-rows (found_of c.args.matches.now) c.args.id.now in
    let met = err_from_is_err_and c.from_residual.result c.from_residual.ensures.1 in
    let refused = refuses_count c.in-Some.word.now c.parse.result c.in_err-parse-in-Some.field-0.0 c.in_err-parse-in-Some.was c.parse.ensures.value.0 in
    rw (met.1, ← value) refused

pub returns-in_ok-parse-in-Some : goal.returns-in_ok-parse-in-Some
returns-in_ok-parse-in-Some c =
    let value : Some c.in-Some.word.now ≡ first_of c.args.id.now (rows_of (found_of c.args.matches.now)) =
    ap (option_map (λ s. s.now)) (sym c.in-Some.is) ∙ c.get_str.ensures ∙ first_value-rows (found_of c.args.matches.now) c.args.id.now in
    let read = reads_count c.in-Some.word.now c.parse.result c.in_ok-parse-in-Some.field-0 c.in_ok-parse-in-Some.was c.parse.ensures.value.0 in
    rw (← value) (read.0, ap Some read.1)

pub returns-in-None : goal.returns-in-None
returns-in-None c =
    let value : None ≡ first_of c.args.id.now (rows_of (found_of c.args.matches.now)) =
    ap (option_map (λ s. s.now)) (sym c.in-None.is) ∙ c.get_str.ensures ∙ first_value-rows (found_of c.args.matches.now) c.args.id.now in
    rw (← value) (refl, refl)
