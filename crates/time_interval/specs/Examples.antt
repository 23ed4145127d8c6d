-- Small lines with numbers that can be computed.
use Rattle.std.specs.Prelude.{List, [], ◌∷◌}
use Rattle.bm_base.specs.Spec.{interval}
use Rattle.line_model.specs.declared.line.Item.{Item}
use Rattle.line_model.specs.declared.line.Item.TheVariants.{Run, Bar}
use Rattle.time_interval.specs.Bounds.{Pace}

-- two loads are added on processor 0 while processors 2 and 4 divide; the sum and the quotients are negated
abbrev pub divided : List Item
divided = Run 0 0 ∷ Run 1 1 ∷ Run 2 2 ∷ Run 2 3 ∷ Run 4 4 ∷ Run 4 5 ∷ Bar 3 ∷ Run 0 6 ∷ Bar 12 ∷ Run 3 7 ∷ Run 4 8 ∷ []

abbrev pub divided_merged : List Item
divided_merged = Run 0 0 ∷ Run 1 1 ∷ Run 2 2 ∷ Run 2 3 ∷ Run 4 4 ∷ Run 4 5 ∷ Bar 15 ∷ Run 0 6 ∷ Run 3 7 ∷ Run 4 8 ∷ []

-- its times: load, load, const, div, const, div, add, neg, neg; five processors and no delay
abbrev pub divided_pace : Pace
divided_pace = record {
  processors = 5;
  delay = 0;
  times = interval 1 4 ∷ interval 1 4 ∷ interval 1 1 ∷ interval 4 12 ∷ interval 1 1 ∷ interval 4 12 ∷
      interval 1 1 ∷ interval 1 1 ∷ interval 1 1 ∷ [];
}

-- the same with a delay of two ticks
abbrev pub delayed_pace : Pace
delayed_pace = record divided_pace { delay = 2 }

-- processors 0 and 1 have a mask each, of nobody else; the second waits for the first in the queue
abbrev pub queued : List Item
queued = Run 0 0 ∷ Run 2 2 ∷ Run 2 3 ∷ Bar 1 ∷ Bar 2 ∷ Run 1 1 ∷ []

-- its times: load, const, const, neg; three processors
abbrev pub queued_pace : Pace
queued_pace = record {
  processors = 3;
  delay = 0;
  times = interval 1 4 ∷ interval 1 1 ∷ interval 1 1 ∷ interval 1 1 ∷ [];
}

abbrev pub queued_delayed : Pace
queued_delayed = record queued_pace { delay = 2 }
