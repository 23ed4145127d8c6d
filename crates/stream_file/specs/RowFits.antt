-- The ranges of what a line says.
use Rattle.std.specs.Prelude.{◌≡◌, ◌≤◌, ◌<◌, ◌^◌, false, List}
use Rattle.std.specs.List.{AllByRecursion}
use Rattle.std.specs.Int.{w64}
use Rattle.std.specs.Int.RustNames.{FitsSigned}
use Rattle.bm_base.specs.declared.names.Kind.{Kind}
use Rattle.bm_base.specs.declared.names.Kind.TheVariants.{Var, Array}
use Rattle.bm_base.specs.Machine.{IsTime}
use Rattle.bm_base.specs.Entry.{Entry}
use Rattle.bm_base.specs.Lines.{has_byte}
use Rattle.tuple_ir.specs.declared.tuple.Tuple.{Tuple}
use Rattle.stream_file.specs.Rows.{Row, Version, Processors, Barrier, Times, Named, Opens, Does, Masks, Streams, Follows, Ends}
use Rattle.stream_file.specs.Fields.{TupleFits, NextFits}

abbrev pub InRange : Kind → Type 0
InRange (Var initial) = FitsSigned w64 initial
InRange (Array len) = len ≤ 4294967295

abbrev pub RowFits : Row → Type 0
RowFits (Version v) = v ≤ 255
RowFits (Processors n) = n ≤ 255
RowFits (Barrier d) = d ≤ 255
RowFits (Times c t) = IsTime t
RowFits (Named e) = (has_byte 32 e.name ≡ false) × InRange e.kind
RowFits (Opens b) = b ≤ 4294967295
RowFits (Does t) = TupleFits t
RowFits (Masks m) = m < 2 ^ 128
RowFits (Streams p text) = p ≤ 255
RowFits (Follows n) = NextFits n
RowFits Ends = Unit {0}

-- .. of which the types of the code give these
abbrev pub IsTypedRow : Row → Type 0
IsTypedRow (Named e) = InRange e.kind
IsTypedRow (Does t) = TupleFits t
IsTypedRow _ = Unit {0}

abbrev pub AreTypedTuples : List Tuple → Type 0
AreTypedTuples tuples = AllByRecursion TupleFits tuples

abbrev pub AreTypedNames : List Entry → Type 0
AreTypedNames names = AllByRecursion (λ (e : Entry). InRange e.kind) names
