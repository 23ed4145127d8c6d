use Rattle.std.proofs.Common.{◌≡◌, ℕ, ◌<◌, length, slice_index}
use Rattle.list_schedule.specs.Steps.{starts_of, open_from}
use Rattle.list_schedule.proofs.tables.open_all.Given as goal

abbrev pub invariant-loop-t : goal.invariant-loop-t
invariant-loop-t l = record {
  starts : l.draft.starts ≡ l.fn.draft.starts;
  places : l.draft.places ≡ l.fn.draft.places;
  idles : l.draft.idles ≡ l.fn.draft.idles;
  many : length l.draft.opens.items ≡ length l.job.times.items;
  told : (u : ℕ) → u < l.t → slice_index l.draft.opens.items u ≡ open_from l.job.times.items l.job.deps.now.producers (starts_of l.draft) u;
}
