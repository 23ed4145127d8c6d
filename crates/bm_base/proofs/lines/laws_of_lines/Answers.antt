use Rattle.std.proofs.Common.{[], refl}
use Rattle.bm_base.proofs.LineTexts.{lines-text, lines-plain, cut-plain, whole-step, cut-step}
use Rattle.bm_base.proofs.lines.laws_of_lines.Goals as goal

pub returns : goal.returns
returns c = record {
  text = lines-text [];
  plain = λ bytes. (lines-plain [] bytes refl, cut-plain [] bytes refl);
  first = whole-step [];
  last = cut-step [];
}
