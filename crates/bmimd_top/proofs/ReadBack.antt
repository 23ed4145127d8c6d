-- The image of a source has the ranges that its text asks for.
use Rattle.std.proofs.Common.{◌≡◌, ◌≤◌, ℕ, List, [], ◌∷◌, length, refl, arith}
use Rattle.std.specs.List.{AllByRecursion}
use Rattle.bm_base.specs.declared.limits.TheConstants.{MOST_SOURCE_BYTES}
use Rattle.bm_base.specs.declared.names.Kind.{Kind}
use Rattle.bm_base.specs.declared.names.Kind.TheVariants.{Var, Array}
use Rattle.bm_base.specs.Entry.{Entry}
use Rattle.stream_file.specs.RowFits.{InRange, AreTypedNames}
use Rattle.stream_file.specs.Typed.{ImagesHaveTexts}
use Rattle.src_names.specs.Ranges.{KindInRange}
use Rattle.src_front.specs.Laws.{ReadRight, ReadFewNodes, ReadFewStatements, ReadInRange}
use Rattle.compiled_image.specs.Ranges.{ImagesHaveRanges}
use Rattle.bmimd_top.specs.ReadBack.{ImagesAreReadBack}

typed : (k : Kind) → KindInRange k → InRange k
typed (Var initial) h = h
typed (Array len) h = h

all_typed : (es : List Entry) → AllByRecursion (λ (e : Entry). KindInRange e.kind) es → AreTypedNames es
all_typed [] h = tt
all_typed (e ∷ es) h = (typed e.kind h.0, all_typed es h.1)

pub read_back : ReadRight → ReadFewNodes → ReadFewStatements → ReadInRange → ImagesHaveRanges → ImagesHaveTexts → ImagesAreReadBack
read_back right nodes few range ranges texts source p machine image short reads lawful compiled =
    let r = ranges machine p image lawful (right source p reads) (nodes source p reads) (range source p reads) compiled.image_is in
    let most : MOST_SOURCE_BYTES ≡ 262144 = refl in
    let statements = few source p reads in
    let blocks = r.few in
    texts image compiled.lawful (record {
      machine = r.machine;
      names = r.names;
      kinds = all_typed image.names r.kinds;
      few = omega arith;
      tuples = r.tuples;
    })
