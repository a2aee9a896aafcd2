use Rattle.std.proofs.Common.{◌≡◌, ◌∙◌, sym, ap, cond, eqb, not}
use lib.Lanes.{chunk}
use lib.Count.{count_trailing_zeros}
use Rattle.std.specs.List.{prefix_len}
use Rattle.std.proofs.lemmas.Simd.{none_from_empty_mask, first_set_mask_l, run_in_chunk_le, run_in_chunk_fails, run_in_chunk_stops, length-chunk}
use Rattle.std.proofs.lemmas.Bool.{ne_eqb, cond-false}
use Rattle.jp_lanes.specs.Search.{is_special}
use Rattle.jp_lanes.proofs.search.plain_run.Goals as goal

pub returns-then-special-eq0-clause-plain : goal.returns-then-special-eq0-clause-plain
returns-then-special-eq0-clause-plain g c = none_from_empty_mask is_special c.args.bytes.now c.args.at g.row.N 0 c.requires.inside (sym c.special_lanes-special.ensures ∙ c.if-special-eq0.true)

pub returns-clause-plain : goal.returns-clause-plain
returns-clause-plain g c =
    let run : count_trailing_zeros 64 c.special_lanes-special.result ≡ prefix_len (λ x. not (is_special x)) (chunk c.args.at g.row.N c.args.bytes.now) =
    sym (cond-false _ _ _ (ne_eqb _ _ c.if-special-eq0.false)) ∙ (ap (λ m. cond (eqb m 0) g.row.N (count_trailing_zeros 64 m)) c.special_lanes-special.ensures
    ∙ first_set_mask_l is_special (chunk c.args.at g.row.N c.args.bytes.now) g.row.N (length-chunk c.args.at g.row.N c.args.bytes.now c.requires.inside) c.requires.few) in
    run_in_chunk_fails is_special c.args.bytes.now c.args.at g.row.N (count_trailing_zeros 64 c.special_lanes-special.result) 0 c.requires.inside run

pub returns-clause-stops : goal.returns-clause-stops
returns-clause-stops g c =
    let run : count_trailing_zeros 64 c.special_lanes-special.result ≡ prefix_len (λ x. not (is_special x)) (chunk c.args.at g.row.N c.args.bytes.now) =
    sym (cond-false _ _ _ (ne_eqb _ _ c.if-special-eq0.false)) ∙ (ap (λ m. cond (eqb m 0) g.row.N (count_trailing_zeros 64 m)) c.special_lanes-special.ensures
    ∙ first_set_mask_l is_special (chunk c.args.at g.row.N c.args.bytes.now) g.row.N (length-chunk c.args.at g.row.N c.args.bytes.now c.requires.inside) c.requires.few) in
    run_in_chunk_stops is_special c.args.bytes.now c.args.at g.row.N (count_trailing_zeros 64 c.special_lanes-special.result) 0 c.requires.inside run

pub returns-clause-most : goal.returns-clause-most
returns-clause-most g c =
    let run : count_trailing_zeros 64 c.special_lanes-special.result ≡ prefix_len (λ x. not (is_special x)) (chunk c.args.at g.row.N c.args.bytes.now) =
    sym (cond-false _ _ _ (ne_eqb _ _ c.if-special-eq0.false)) ∙ (ap (λ m. cond (eqb m 0) g.row.N (count_trailing_zeros 64 m)) c.special_lanes-special.ensures
    ∙ first_set_mask_l is_special (chunk c.args.at g.row.N c.args.bytes.now) g.row.N (length-chunk c.args.at g.row.N c.args.bytes.now c.requires.inside) c.requires.few) in
    run_in_chunk_le is_special c.args.bytes.now c.args.at g.row.N (count_trailing_zeros 64 c.special_lanes-special.result) 0 c.requires.inside run
