use Rattle.stream_file.proofs.Spaces.{spaced_items}
use Rattle.stream_file.proofs.writing.some_items.Goals as goal

pub returns : goal.returns
returns c = rw (← (spaced_items c.args.list.now c.requires)) c.items.ensures
