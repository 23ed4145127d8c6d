use Rattle.stream_image.proofs.LineStreams.{stream_is, masks_are, own_line}
use Rattle.stream_image.proofs.laws.lines_have_their_streams.Goals as goal

pub returns-clause-streams : goal.returns-clause-streams
returns-clause-streams c = λ n streams queue h p l. stream_is n p queue streams l h

pub returns-clause-masks : goal.returns-clause-masks
returns-clause-masks c = λ n streams queue. masks_are n queue streams

pub returns-clause-own : goal.returns-clause-own
returns-clause-own c = λ n streams queue h. own_line n queue streams h
