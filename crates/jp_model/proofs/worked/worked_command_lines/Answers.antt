-- By computing.
use Rattle.std.proofs.Common.{refl, subst}
use Rattle.std.specs.Prelude.{T, bytes_eq, codes}
use Rattle.jp_model.proofs.worked.worked_command_lines.Goals as goal

pub returns-clause-command_lines_of_a_cut_script : goal.returns-clause-command_lines_of_a_cut_script
returns-clause-command_lines_of_a_cut_script c = refl

pub returns-clause-closed_command_lines_of_a_cut_script : goal.returns-clause-closed_command_lines_of_a_cut_script
returns-clause-closed_command_lines_of_a_cut_script c = refl

pub returns-clause-closed_command_lines_cut_before_a_line_feed : goal.returns-clause-closed_command_lines_cut_before_a_line_feed
returns-clause-closed_command_lines_cut_before_a_line_feed c = refl

pub returns-clause-one_final_carriage_return : goal.returns-clause-one_final_carriage_return
returns-clause-one_final_carriage_return c = refl

pub returns-clause-a_cut_row_begins_the_output : goal.returns-clause-a_cut_row_begins_the_output
returns-clause-a_cut_row_begins_the_output c = refl

pub returns-clause-another_row_does_not : goal.returns-clause-another_row_does_not
returns-clause-another_row_does_not c = λ e. absurd (subst (λ text. T (bytes_eq text (codes "1\t$['a'"))) e tt)

pub returns-clause-a_script_over_its_limit : goal.returns-clause-a_script_over_its_limit
returns-clause-a_script_over_its_limit c = refl
