use Rattle.bm_words.proofs.Ranges.{request-within}
use Rattle.bm_words.proofs.laws.requests_are_in_range.Goals as goal

pub returns : goal.returns
returns c = request-within
