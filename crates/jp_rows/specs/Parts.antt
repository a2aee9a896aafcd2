-- The parts of a singular query's text (RFC 9535, section 2.7).
use Rattle.std.specs.Prelude.{ℕ, List, chars, encode_utf8_all}
use Rattle.jp_model.specs.Meaning.Paths.{path_text, quoted, step_text}
use Rattle.jp_model.specs.Steps.{index_step, name_step}
use Rattle.jp_syntax.specs.SingularPaths.{path_steps}
use Rattle.jp_rows.specs.declared.singular.QueryPart.{QueryPart}
use Rattle.jp_rows.specs.declared.singular.QueryPart.TheVariants as parts

-- the bytes of a part
abbrev pub part_text : QueryPart → List ℕ
part_text (parts.Path p) = path_text (path_steps p.now)
part_text (parts.Name x) = encode_utf8_all (step_text (name_step (chars x.now)))
part_text (parts.Index i) = encode_utf8_all (step_text (index_step i))
part_text (parts.Quoted x) = encode_utf8_all (quoted (chars x.now))
