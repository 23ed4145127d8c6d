-- The line of an event.
use Rattle.std.specs.Prelude.{ℕ, Bool, true, false, List, [], ◌++◌, codes, decimal}
use Rattle.std.specs.Fmt.{signed_decimal}
use Rattle.bm_base.specs.Numeral.{hexadecimal}
use Rattle.tuple_ir.specs.declared.event.Event.{Event}
use Rattle.tuple_ir.specs.declared.event.Event.TheVariants.{Started, Finished, Printed, Fired, Entered, Ended, Reached}
use Rattle.bm_report.specs.Text.{line}

-- a number behind some words
abbrev pub then : List ℕ → ℕ → List ℕ
then words n = words ++ decimal n

-- its tick, what it is, and of what; a mask is in hexadecimal
abbrev pub event_text : Event → List ℕ
event_text (Started at p t time) = then [] at ++ then (codes " start ") p ++ then (codes " ") t ++ then (codes " ") time
event_text (Finished at p t value) = then [] at ++ then (codes " finish ") p ++ then (codes " ") t ++ (codes " " ++ signed_decimal value)
event_text (Printed at p t value) = then [] at ++ then (codes " print ") p ++ then (codes " ") t ++ (codes " " ++ signed_decimal value)
event_text (Fired at index mask) = then [] at ++ then (codes " fire ") index ++ (codes " " ++ hexadecimal mask)
event_text (Entered at block) = then [] at ++ then (codes " enter ") block
event_text (Ended at) = []
event_text Reached = []

abbrev pub event_line : Event → List ℕ
event_line event = line (event_text event)

-- the run goes on by it
abbrev pub has_line : Event → Bool
has_line (Started at p t time) = true
has_line (Finished at p t value) = true
has_line (Printed at p t value) = true
has_line (Fired at index mask) = true
has_line (Entered at block) = true
has_line (Ended at) = false
has_line Reached = false
