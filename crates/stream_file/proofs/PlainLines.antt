-- No line has an LF.
use Rattle.std.proofs.Common.{◌≡◌, ℕ, ◌^◌, ◌<◌, ◌≤◌, suc, refl, sym, subst, arith, true, false, List, [], ◌∷◌, ◌++◌, Some, None, Option, ℤ, pos, negsuc, true≢false, w64, FitsSigned}
use Rattle.std.specs.Prelude.{decimal, codes}
use Rattle.std.proofs.Common.{inl, inr}
use Rattle.std.specs.Fmt.{signed_decimal}
use Rattle.bm_base.specs.declared.spec.Class.{Class}
use Rattle.bm_base.specs.declared.spec.Class.TheVariants as c
use Rattle.bm_base.specs.declared.word.Un.{Un}
use Rattle.bm_base.specs.declared.word.Un.TheVariants as u
use Rattle.bm_base.specs.declared.word.Bin.{Bin}
use Rattle.bm_base.specs.declared.word.Bin.TheVariants as b
use Rattle.bm_base.specs.declared.names.Kind.{Kind}
use Rattle.bm_base.specs.declared.names.Kind.TheVariants.{Var, Array}
use Rattle.bm_base.specs.Entry.{Entry}
use Rattle.bm_base.specs.Lines.{has_byte}
use Rattle.bm_base.specs.Numeral.{hexadecimal}
use Rattle.bm_base.proofs.StrictTexts.{none_some}
use Rattle.tuple_ir.specs.declared.tuple.Tuple.{Tuple}
use Rattle.tuple_ir.specs.declared.tuple.Tuple.TheVariants.{Const, Load, Store, LoadEl, StoreEl, One, Two, Print}
use Rattle.tuple_ir.specs.declared.block.Next.{Next}
use Rattle.tuple_ir.specs.declared.block.Next.TheVariants.{Halt, Goto, If}
use Rattle.stream_file.specs.Words.{class_word, unary_word, binary_word}
use Rattle.stream_file.specs.Rows as r
use Rattle.stream_file.specs.Rows.{◌‿◌, Row, mapped, row_of, row_text, row_by, row_alone, row_split, tuple_of, tuple_by, tuple_text, operator_of, time_of, variable_of, array_of, stream_of, next_text, entry_text}
use Rattle.stream_file.specs.Fields.{TupleFits, NextFits}
use Rattle.stream_file.specs.RowFits.{RowFits, InRange}
use Rattle.std.proofs.Common.{Ok, Err, Result}
use Rattle.std.specs.Prelude.{◌==◌, ◌&&◌, nat_le}
use Rattle.std.specs.Char.{is_ascii_digit}
use Rattle.std.specs.List.{AllByRecursion}
use Rattle.std.proofs.lemmas.Fmt.{digits_decimal}
use Rattle.std.proofs.lemmas.Bool.Decides.{nat_tests}
use Rattle.bm_base.specs.Numeral.{all_digits}
use Rattle.bm_base.specs.declared.names.NamesFault.{NamesFault}
use Rattle.bm_base.specs.Names.{adding}
use Rattle.bm_base.proofs.NumberTexts.{numerals}
use Rattle.bm_base.proofs.StrictTexts.{both_true, chosen}
use Rattle.bm_base.proofs.HexTexts.{hexadecimal-plain}
use Rattle.line_model.specs.declared.line.StreamItem.{StreamItem}
use Rattle.line_model.specs.declared.line.StreamItem.TheVariants.{Do, Wait}
use Rattle.stream_file.specs.Rows.{item_text}
use Rattle.stream_file.specs.Fields.{ItemFits, items_text}
use Rattle.stream_file.specs.Draft.{Draft, step, items_of, with_stream, with_name, is_open, is_names}
use Rattle.stream_file.proofs.ItemTexts.{items_is}
use Rattle.stream_file.proofs.NamesAgain.{name_plain}
use Rattle.stream_file.proofs.SoFar.{taken, adding_is}

abbrev Plain : List ℕ → Type 0
Plain bs = has_byte 10 bs ≡ false

append_plain : (a b : List ℕ) → Plain a → Plain b → Plain (a ++ b)
append_plain [] b h k = k
append_plain (x ∷ a) b h k = elim (chosen (x == 10) true (has_byte 10 a) false h) [
  | inl p ↦ absurd (true≢false p.1)
  | inr p ↦ rw p.0 (append_plain a b p.1 k)
]

joined_plain : (a b : List ℕ) → Plain a → Plain b → Plain (a ‿ b)
joined_plain a b h k = append_plain a (32 ∷ b) h k

digits_plain : (ds : List ℕ) → all_digits ds ≡ true → Plain ds
digits_plain [] h = refl
digits_plain (d ∷ ds) h =
    let e = both_true (is_ascii_digit d) (all_digits ds) h in
    let i : is_ascii_digit d ≡ true = e.0 in
    let t : (d == 10) ≡ false = grind (arith, nat_tests) in
    rw t (digits_plain ds e.1)

number_plain : (n : ℕ) → n < 2 ^ 64 → Plain (decimal n)
number_plain n h = digits_plain (decimal n) (digits_decimal numerals n h)

signed_plain : (z : ℤ) → FitsSigned w64 z → Plain (signed_decimal z)
signed_plain (pos n) f = let h : n < 2 ^ 63 = f.sfits in number_plain n (omega arith)
signed_plain (negsuc n) f = let h : n < 2 ^ 63 = f.sfits in number_plain (suc n) (omega arith)

small_plain : (n most : ℕ) → most < 2 ^ 64 → n ≤ most → Plain (decimal n)
small_plain n most m l = number_plain n (omega arith)

class_plain : (x : Class) → Plain (class_word x)
class_plain c.Const = refl
class_plain c.Load = refl
class_plain c.Store = refl
class_plain c.LoadEl = refl
class_plain c.StoreEl = refl
class_plain c.Alu = refl
class_plain c.Mul = refl
class_plain c.Div = refl
class_plain c.Print = refl

unary_plain : (x : Un) → Plain (unary_word x)
unary_plain u.Neg = refl
unary_plain u.Not = refl

binary_plain : (x : Bin) → Plain (binary_word x)
binary_plain b.Or = refl
binary_plain b.Xor = refl
binary_plain b.And = refl
binary_plain b.Eq = refl
binary_plain b.Ne = refl
binary_plain b.Lt = refl
binary_plain b.Le = refl
binary_plain b.Gt = refl
binary_plain b.Ge = refl
binary_plain b.Shl = refl
binary_plain b.Shr = refl
binary_plain b.Add = refl
binary_plain b.Sub = refl
binary_plain b.Mul = refl
binary_plain b.Div = refl
binary_plain b.Rem = refl

cell_plain : (n : ℕ) → n ≤ 255 → Plain (decimal n)
cell_plain n h = small_plain n 255 (omega arith) h

id_plain : (n : ℕ) → n ≤ 65535 → Plain (decimal n)
id_plain n h = small_plain n 65535 (omega arith) h

block_plain : (n : ℕ) → n ≤ 4294967295 → Plain (decimal n)
block_plain n h = small_plain n 4294967295 (omega arith) h

tuple_plain : (t : Tuple) → TupleFits t → Plain (tuple_text t)
tuple_plain (Const v) h = joined_plain (codes "const") (signed_decimal v) refl (signed_plain v h)
tuple_plain (Load x) h = joined_plain (codes "load") (decimal x) refl (id_plain x h)
tuple_plain (Store x v) h = joined_plain (codes "store") (decimal x ‿ decimal v) refl (joined_plain (decimal x) (decimal v) (id_plain x h.0) (cell_plain v h.1))
tuple_plain (LoadEl x v) h = joined_plain (codes "loadel") (decimal x ‿ decimal v) refl (joined_plain (decimal x) (decimal v) (id_plain x h.0) (cell_plain v h.1))
tuple_plain (StoreEl x i v) h = joined_plain (codes "storeel") (decimal x ‿ (decimal i ‿ decimal v)) refl (joined_plain (decimal x) (decimal i ‿ decimal v) (id_plain x h.0) (joined_plain (decimal i) (decimal v) (cell_plain i h.1) (cell_plain v h.2)))
tuple_plain (One o a) h = joined_plain (unary_word o) (decimal a) (unary_plain o) (cell_plain a h)
tuple_plain (Two o a v) h = joined_plain (binary_word o) (decimal a ‿ decimal v) (binary_plain o) (joined_plain (decimal a) (decimal v) (cell_plain a h.0) (cell_plain v h.1))
tuple_plain (Print v) h = joined_plain (codes "print") (decimal v) refl (cell_plain v h)

next_plain : (n : Next) → NextFits n → Plain (next_text n)
next_plain Halt h = refl
next_plain (Goto x) h = joined_plain (codes "goto") (decimal x) refl (block_plain x h)
next_plain (If x y z) h = joined_plain (codes "if") (decimal x ‿ (decimal y ‿ decimal z)) refl (joined_plain (decimal x) (decimal y ‿ decimal z) (cell_plain x h.0) (joined_plain (decimal y) (decimal z) (block_plain y h.1) (block_plain z h.2)))

item_plain : (i : StreamItem) → ItemFits i → Plain (item_text i)
item_plain Wait h = refl
item_plain (Do t) h = cell_plain t h

items_plain : (is : List StreamItem) → AllByRecursion ItemFits is → Plain (items_text is)
items_plain [] h = refl
items_plain (i ∷ []) h = item_plain i h.0
items_plain (i ∷ j ∷ js) h = joined_plain (item_text i) (items_text (j ∷ js)) (item_plain i h.0) (items_plain (j ∷ js) h.1)

entry_plain : (name : List ℕ) (k : Kind) → Plain name → InRange k → Plain (entry_text name k)
entry_plain name (Var initial) p h = joined_plain (codes "var") (name ‿ signed_decimal initial) refl (joined_plain name (signed_decimal initial) p (signed_plain initial h))
entry_plain name (Array len) p h = joined_plain (codes "array") (name ‿ decimal len) refl (joined_plain name (decimal len) p (block_plain len h))

named_plain : (d f : Draft) (e : Entry) → InRange e.kind → step d (r.Named e) ≡ Some f → Plain (row_text (r.Named e))
named_plain d f e fits h =
    let k = taken (is_names d.stage) (with_name e d (adding e.name e.kind d.names)) f h in
    by (adding e.name e.kind d.names) refl k.1
  where
    by : (o : Result ℕ NamesFault) → adding e.name e.kind d.names ≡ o → with_name e d o ≡ Some f → Plain (row_text (r.Named e))
    by (Err x) a w = absurd (none_some w)
    by (Ok id) a w = entry_plain e.name e.kind (name_plain 10 e.name (omega arith) (adding_is e.name e.kind d.names id a).named) fits

streams_plain : (d f : Draft) (p : ℕ) (text : List ℕ) → p ≤ 255 → step d (r.Streams p text) ≡ Some f → Plain (row_text (r.Streams p text))
streams_plain d f p text small h =
    let k = taken (is_open d.stage && nat_le d.from p) (with_stream p d (items_of text)) f h in
    by (items_of text) refl k.1
  where
    by : (o : Option (List StreamItem)) → items_of text ≡ o → with_stream p d o ≡ Some f → Plain (row_text (r.Streams p text))
    by None a w = absurd (none_some w)
    by (Some is) a w =
        let i = items_is text is a in
        joined_plain (codes "p") (decimal p ‿ text) refl (joined_plain (decimal p) text (cell_plain p small) (subst Plain (sym i.0) (items_plain is i.1)))

-- a line that is taken has no LF
pub taken_plain : (d f : Draft) (row : Row) → RowFits row → step d row ≡ Some f → Plain (row_text row)
taken_plain d f (r.Version v) h s = joined_plain (codes "bmimd") (decimal v) refl (cell_plain v h)
taken_plain d f (r.Processors v) h s = joined_plain (codes "processors") (decimal v) refl (cell_plain v h)
taken_plain d f (r.Barrier v) h s = joined_plain (codes "barrier") (decimal v) refl (cell_plain v h)
taken_plain d f (r.Times x t) h s =
    let order : t.least ≤ t.most = h.order in
    let high : t.most ≤ 1000 = h.high in
    joined_plain (codes "time") (class_word x ‿ (decimal t.least ‿ decimal t.most)) refl (joined_plain (class_word x) (decimal t.least ‿ decimal t.most) (class_plain x) (joined_plain (decimal t.least) (decimal t.most) (number_plain t.least (omega arith)) (number_plain t.most (omega arith))))
taken_plain d f (r.Named e) h s = named_plain d f e h.1 s
taken_plain d f (r.Opens v) h s = joined_plain (codes "block") (decimal v) refl (block_plain v h)
taken_plain d f (r.Does t) h s = joined_plain (codes "t") (tuple_text t) refl (tuple_plain t h)
taken_plain d f (r.Masks m) h s = joined_plain (codes "m") (hexadecimal m) refl (hexadecimal-plain 10 m (omega arith) h)
taken_plain d f (r.Streams p text) h s = streams_plain d f p text h s
taken_plain d f (r.Follows n) h s = next_plain n h
taken_plain d f r.Ends h s = refl
