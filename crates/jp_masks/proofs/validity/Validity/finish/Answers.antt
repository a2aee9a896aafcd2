use Rattle.std.proofs.Common.{subst, sym}
use Rattle.std.specs.Str.{IsUtf8}
use Rattle.simdutf8.proofs.StepsLemmas.{IsUtf8-after_ascii}
use Rattle.jp_masks.proofs.validity.Validity.finish.Goals as goal

pub returns : goal.returns
returns c read was =
    let told = c.finish.ensures was.others was.checked in
    let behind = IsUtf8-after_ascii was.front was.others was.ascii in (
      λ yes. subst IsUtf8 (sym was.joined) (behind.1 (told.0 yes)),
      λ utf8. told.1 (behind.0 (subst IsUtf8 was.joined utf8)),
    )
