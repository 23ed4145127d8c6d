use Rattle.machine_file.proofs.Shapes.{too_short, too_long, no_pair}
use Rattle.machine_file.proofs.read.pair.Goals as goal

pub returns-in_default-as_slice : goal.returns-in_default-as_slice
returns-in_default-as_slice c =
    no_pair c.args.value.now c.in-Array.items c.in-Array.is (too_short c.in-Array.items.items (rw (← c.as_slice.ensures.value) c.in_default-as_slice.len_below))

pub returns-in_default-as_slice-2 : goal.returns-in_default-as_slice-2
returns-in_default-as_slice-2 c =
    no_pair c.args.value.now c.in-Array.items c.in-Array.is (too_long c.in-Array.items.items (rw (← c.as_slice.ensures.value) c.in_default-as_slice.len_at_least))
