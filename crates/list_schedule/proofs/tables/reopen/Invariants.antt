use Rattle.std.proofs.Common.{◌≡◌, ℕ, ◌<◌, List, length, set, slice_index}
use Rattle.list_schedule.specs.Steps.{starts_of, open_from}
use Rattle.list_schedule.proofs.TableFacts.{Reopened}
use Rattle.list_schedule.proofs.tables.reopen.Given as goal

abbrev pub invariant-loop-b : goal.invariant-loop-b
invariant-loop-b l = record {
  starts : l.draft.starts ≡ l.fn.draft.starts;
  places : l.draft.places ≡ l.fn.draft.places;
  idles : l.draft.idles ≡ l.fn.draft.idles;
  many : length l.draft.opens.items ≡ length l.job.times.items;
  told : (before : List ℕ) (z : ℕ) → starts_of l.fn.draft ≡ set before l.fn.t z → ((u : ℕ) → u < length l.job.times.items → slice_index l.fn.draft.opens.items u ≡ open_from l.job.times.items l.job.deps.now.producers before u) → Reopened l.job.times.items l.job.deps.now.producers (set before l.fn.t z) before l.draft.opens.items l.b;
}
