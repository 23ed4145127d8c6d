-- Lines, one by one: what is read is spelled so, and what is spelled so is read.
use Rattle.std.proofs.Common.{◌≡◌, ℕ, ◌≤◌, refl, sym, ap, subst, ◌∙◌, arith, false, List, Some, None, Option, ℤ}
use Rattle.std.specs.Prelude.{decimal, codes}
use Rattle.std.proofs.Common.{inl, inr}
use Rattle.std.specs.Fmt.{signed_decimal}
use Rattle.bm_base.specs.declared.spec.Interval.{Interval}
use Rattle.bm_base.specs.declared.spec.Class.{Class}
use Rattle.bm_base.specs.declared.spec.Class.TheVariants as c
use Rattle.bm_base.specs.declared.word.Un.{Un}
use Rattle.bm_base.specs.declared.word.Un.TheVariants as u
use Rattle.bm_base.specs.declared.word.Bin.{Bin}
use Rattle.bm_base.specs.declared.word.Bin.TheVariants as b
use Rattle.bm_base.specs.declared.names.Kind.{Kind}
use Rattle.bm_base.specs.declared.names.Kind.TheVariants.{Var, Array}
use Rattle.bm_base.specs.Machine.{IsTime}
use Rattle.bm_base.specs.Lines.{has_byte}
use Rattle.bm_base.specs.Strict.{strict_number_of}
use Rattle.bm_base.specs.Hex.{hex_of}
use Rattle.bm_base.proofs.StrictTexts.{none_some, some_same, strict_number-spelled, strict_number-decimal, strict_number-fits}
use Rattle.bm_base.proofs.HexTexts.{hex-spelled, hex-hexadecimal}
use Rattle.tuple_ir.specs.declared.tuple.Tuple.{Tuple}
use Rattle.tuple_ir.specs.declared.tuple.Tuple.TheVariants.{Const, Load, Store, LoadEl, StoreEl, One, Two, Print}
use Rattle.tuple_ir.specs.declared.block.Next.{Next}
use Rattle.tuple_ir.specs.declared.block.Next.TheVariants.{Halt, Goto, If}
use Rattle.stream_file.specs.Cuts.{◌>>=◌, cut, count_within, two_of, three_of}
use Rattle.stream_file.specs.Words.{class_word, unary_word, binary_word, class_of_word, unary_of_word, binary_of_word, classes, unaries, binaries}
use Rattle.stream_file.specs.Rows as r
use Rattle.stream_file.specs.Rows.{◌‿◌, Row, mapped, row_of, row_text, row_by, row_alone, row_split, tuple_of, tuple_by, tuple_text, operator_of, time_of, variable_of, array_of, stream_of, next_text, entry_text}
use Rattle.stream_file.specs.Fields.{TupleFits, NextFits}
use Rattle.stream_file.specs.RowFits.{RowFits, InRange}
use Rattle.stream_file.proofs.Parts.{bind_some, mapped_some, named, named_by-is, cut_is, cut_plain, cut_again, decimal_plain, count_is, count_again, two_is, two_again, three_is, three_again}

-- ---- what is read is spelled so

abbrev TupleIs : List ℕ → List ℕ → Tuple → Type 0
TupleIs op args t = (op ‿ args ≡ tuple_text t) × TupleFits t

unary_is : (op args : List ℕ) (x : Un) (t : Tuple) → unary_of_word op ≡ Some x → mapped (λ (a : ℕ). One x a) (count_within 0 255 args) ≡ Some t → TupleIs op args t
unary_is op args x t o e =
    let m = mapped_some (λ (a : ℕ). One x a) (count_within 0 255 args) t e in
    let k = count_is 0 255 args m.x m.first in
    let w = named_by-is unary_word op unaries x o in
    subst (TupleIs op args) m.same ((λ i. w i ‿ k.0 i), k.2)

binary_is : (op args : List ℕ) (x : Bin) (t : Tuple) → binary_of_word op ≡ Some x → mapped (λ (p : ℕ × ℕ). Two x p.0 p.1) (two_of 255 255 args) ≡ Some t → TupleIs op args t
binary_is op args x t o e =
    let m = mapped_some (λ (p : ℕ × ℕ). Two x p.0 p.1) (two_of 255 255 args) t e in
    let k = two_is 255 255 args m.x m.first in
    let w = named_by-is binary_word op binaries x o in
    subst (TupleIs op args) m.same ((λ i. w i ‿ k.0 i), (k.1, k.2))

operator_is : (op args : List ℕ) (t : Tuple) → operator_of op args ≡ Some t → TupleIs op args t
operator_is op args t e = by (unary_of_word op) refl e
  where
    by_binary : (o : Option Bin) → binary_of_word op ≡ o → elim o as (λ _. Option Tuple) [ Some x ↦ mapped (λ (p : ℕ × ℕ). Two x p.0 p.1) (two_of 255 255 args) | None ↦ None ] ≡ Some t → TupleIs op args t
    by_binary None o h = absurd (none_some h)
    by_binary (Some x) o h = binary_is op args x t o h

    by : (o : Option Un) → unary_of_word op ≡ o → elim o as (λ _. Option Tuple) [ Some x ↦ mapped (λ (a : ℕ). One x a) (count_within 0 255 args) | None ↦ elim (binary_of_word op) as (λ _. Option Tuple) [ Some x ↦ mapped (λ (p : ℕ × ℕ). Two x p.0 p.1) (two_of 255 255 args) | None ↦ None ] ] ≡ Some t → TupleIs op args t
    by (Some x) o h = unary_is op args x t o h
    by None o h = by_binary (binary_of_word op) refl h

abbrev w_const : List ℕ
w_const = codes "const"

tuple_by-is : (op args : List ℕ) (t : Tuple) → tuple_by op args ≡ Some t → TupleIs op args t
tuple_by-is op args t e = elim (named op (codes "const") (mapped (λ (v : ℤ). Const v) (strict_number_of args)) _ t e) [
  | inl p ↦
      (let m = mapped_some (λ (v : ℤ). Const v) (strict_number_of args) t p.1 in
      subst (TupleIs op args) m.same ((λ i. p.0 i ‿ strict_number-spelled args m.x m.first i), strict_number-fits args m.x m.first))
  | inr e1 ↦ elim (named op (codes "load") (mapped (λ (x : ℕ). Load x) (count_within 0 65535 args)) _ t e1) [
    | inl p ↦
        (let m = mapped_some (λ (x : ℕ). Load x) (count_within 0 65535 args) t p.1 in
        let k = count_is 0 65535 args m.x m.first in
        subst (TupleIs op args) m.same ((λ i. p.0 i ‿ k.0 i), k.2))
    | inr e2 ↦ elim (named op (codes "store") (mapped (λ (p : ℕ × ℕ). Store p.0 p.1) (two_of 65535 255 args)) _ t e2) [
      | inl p ↦
          (let m = mapped_some (λ (p : ℕ × ℕ). Store p.0 p.1) (two_of 65535 255 args) t p.1 in
          let k = two_is 65535 255 args m.x m.first in
          subst (TupleIs op args) m.same ((λ i. p.0 i ‿ k.0 i), (k.1, k.2)))
      | inr e3 ↦ elim (named op (codes "loadel") (mapped (λ (p : ℕ × ℕ). LoadEl p.0 p.1) (two_of 65535 255 args)) _ t e3) [
        | inl p ↦
            (let m = mapped_some (λ (p : ℕ × ℕ). LoadEl p.0 p.1) (two_of 65535 255 args) t p.1 in
            let k = two_is 65535 255 args m.x m.first in
            subst (TupleIs op args) m.same ((λ i. p.0 i ‿ k.0 i), (k.1, k.2)))
        | inr e4 ↦ elim (named op (codes "storeel") (mapped (λ (p : ℕ × ℕ × ℕ). StoreEl p.0 p.1 p.2) (three_of 65535 255 255 args)) _ t e4) [
          | inl p ↦
              (let m = mapped_some (λ (p : ℕ × ℕ × ℕ). StoreEl p.0 p.1 p.2) (three_of 65535 255 255 args) t p.1 in
              let k = three_is 65535 255 255 args m.x m.first in
              subst (TupleIs op args) m.same ((λ i. p.0 i ‿ k.0 i), (k.1, k.2, k.3)))
          | inr e5 ↦ elim (named op (codes "print") (mapped (λ (v : ℕ). Print v) (count_within 0 255 args)) _ t e5) [
            | inl p ↦
                (let m = mapped_some (λ (v : ℕ). Print v) (count_within 0 255 args) t p.1 in
                let k = count_is 0 255 args m.x m.first in
                subst (TupleIs op args) m.same ((λ i. p.0 i ‿ k.0 i), k.2))
            | inr e6 ↦ operator_is op args t e6
          ]
        ]
      ]
    ]
  ]
]

tuple_of-is : (bs : List ℕ) (t : Tuple) → tuple_of bs ≡ Some t → (bs ≡ tuple_text t) × TupleFits t
tuple_of-is bs t e =
    let c = bind_some (cut bs) (λ (p : List ℕ × List ℕ). tuple_by p.0 p.1) t e in
    let k = tuple_by-is c.x.0 c.x.1 t c.next in
    (cut_is bs c.x c.first ∙ k.0, k.1)

-- the rest of a line whose first word is w
abbrev RestIs : List ℕ → List ℕ → Row → Type 0
RestIs w rest row = (w ‿ rest ≡ row_text row) × RowFits row

time_is : (rest : List ℕ) (row : Row) → time_of rest ≡ Some row → RestIs (codes "time") rest row
time_is rest row e =
    let p = bind_some (cut rest) (λ (parts : List ℕ × List ℕ). class_of_word parts.0 >>= (λ (class : Class). cut parts.1 >>= (λ (ends : List ℕ × List ℕ). count_within 1 1000 ends.0 >>= (λ (least : ℕ). count_within least 1000 ends.1 >>= (λ (most : ℕ). Some (r.Times class (record { least = least; most = most }))))))) row e in
    let k = bind_some (class_of_word p.x.0) (λ (class : Class). cut p.x.1 >>= (λ (ends : List ℕ × List ℕ). count_within 1 1000 ends.0 >>= (λ (least : ℕ). count_within least 1000 ends.1 >>= (λ (most : ℕ). Some (r.Times class (record { least = least; most = most })))))) row p.next in
    let q = bind_some (cut p.x.1) (λ (ends : List ℕ × List ℕ). count_within 1 1000 ends.0 >>= (λ (least : ℕ). count_within least 1000 ends.1 >>= (λ (most : ℕ). Some (r.Times k.x (record { least = least; most = most }))))) row k.next in
    let l = bind_some (count_within 1 1000 q.x.0) (λ (least : ℕ). count_within least 1000 q.x.1 >>= (λ (most : ℕ). Some (r.Times k.x (record { least = least; most = most })))) row q.next in
    let m = bind_some (count_within l.x 1000 q.x.1) (λ (most : ℕ). Some (r.Times k.x (record { least = l.x; most = most }))) row l.next in
    let w = named_by-is class_word p.x.0 classes k.x k.first in
    let il = count_is 1 1000 q.x.0 l.x l.first in
    let im = count_is l.x 1000 q.x.1 m.x m.first in
    let ends : p.x.1 ≡ decimal l.x ‿ decimal m.x = cut_is p.x.1 q.x q.first ∙ (λ i. il.0 i ‿ im.0 i) in
    let text : codes "time" ‿ rest ≡ codes "time" ‿ (class_word k.x ‿ (decimal l.x ‿ decimal m.x)) = ap (λ (x : List ℕ). codes "time" ‿ x) (cut_is rest p.x p.first ∙ (λ i. w i ‿ ends i)) in
    subst (RestIs (codes "time") rest) (some_same m.next) (text, record { low = il.1; order = im.1; high = im.2 })

variable_is : (rest : List ℕ) (row : Row) → variable_of rest ≡ Some row → RestIs (codes "var") rest row
variable_is rest row e =
    let p = bind_some (cut rest) (λ (parts : List ℕ × List ℕ). strict_number_of parts.1 >>= (λ (initial : ℤ). Some (r.Named (record { name = parts.0; kind = Var initial })))) row e in
    let n = bind_some (strict_number_of p.x.1) (λ (initial : ℤ). Some (r.Named (record { name = p.x.0; kind = Var initial }))) row p.next in
    let text : codes "var" ‿ rest ≡ codes "var" ‿ (p.x.0 ‿ signed_decimal n.x) = ap (λ (x : List ℕ). codes "var" ‿ x) (cut_is rest p.x p.first ∙ ap (λ (x : List ℕ). p.x.0 ‿ x) (strict_number-spelled p.x.1 n.x n.first)) in
    subst (RestIs (codes "var") rest) (some_same n.next) (text, (cut_plain rest p.x p.first, strict_number-fits p.x.1 n.x n.first))

array_is : (rest : List ℕ) (row : Row) → array_of rest ≡ Some row → RestIs (codes "array") rest row
array_is rest row e =
    let p = bind_some (cut rest) (λ (parts : List ℕ × List ℕ). count_within 0 4294967295 parts.1 >>= (λ (len : ℕ). Some (r.Named (record { name = parts.0; kind = Array len })))) row e in
    let n = bind_some (count_within 0 4294967295 p.x.1) (λ (len : ℕ). Some (r.Named (record { name = p.x.0; kind = Array len }))) row p.next in
    let k = count_is 0 4294967295 p.x.1 n.x n.first in
    let text : codes "array" ‿ rest ≡ codes "array" ‿ (p.x.0 ‿ decimal n.x) = ap (λ (x : List ℕ). codes "array" ‿ x) (cut_is rest p.x p.first ∙ ap (λ (x : List ℕ). p.x.0 ‿ x) k.0) in
    subst (RestIs (codes "array") rest) (some_same n.next) (text, (cut_plain rest p.x p.first, k.2))

stream_is : (rest : List ℕ) (row : Row) → stream_of rest ≡ Some row → RestIs (codes "p") rest row
stream_is rest row e =
    let p = bind_some (cut rest) (λ (parts : List ℕ × List ℕ). count_within 0 255 parts.0 >>= (λ (n : ℕ). Some (r.Streams n parts.1))) row e in
    let n = bind_some (count_within 0 255 p.x.0) (λ (n : ℕ). Some (r.Streams n p.x.1)) row p.next in
    let k = count_is 0 255 p.x.0 n.x n.first in
    let text : codes "p" ‿ rest ≡ codes "p" ‿ (decimal n.x ‿ p.x.1) = ap (λ (x : List ℕ). codes "p" ‿ x) (cut_is rest p.x p.first ∙ ap (λ (x : List ℕ). x ‿ p.x.1) k.0) in
    subst (RestIs (codes "p") rest) (some_same n.next) (text, k.2)

counted_is : (w : List ℕ) (f : ℕ → Row) (most : ℕ) (rest : List ℕ) (row : Row) → ((n : ℕ) → row_text (f n) ≡ w ‿ decimal n) → ((n : ℕ) → n ≤ most → RowFits (f n)) → mapped f (count_within 0 most rest) ≡ Some row → RestIs w rest row
counted_is w f most rest row text fits e =
    let m = mapped_some f (count_within 0 most rest) row e in
    let k = count_is 0 most rest m.x m.first in
    subst (RestIs w rest) m.same (ap (λ (x : List ℕ). w ‿ x) k.0 ∙ sym (text m.x), fits m.x k.2)

-- at another word that is this one
moved : (w v rest : List ℕ) (row : Row) → w ≡ v → RestIs v rest row → RestIs w rest row
moved w v rest row e h = subst (λ (x : List ℕ). RestIs x rest row) (sym e) h

row_by-is : (w rest : List ℕ) (row : Row) → row_by w rest ≡ Some row → RestIs w rest row
row_by-is w rest row e = elim (named w (codes "t") (mapped (λ (t : Tuple). r.Does t) (tuple_of rest)) _ row e) [
  | inl p ↦
      (let m = mapped_some (λ (t : Tuple). r.Does t) (tuple_of rest) row p.1 in
      let k = tuple_of-is rest m.x m.first in
      subst (RestIs w rest) m.same ((λ i. p.0 i ‿ k.0 i), k.1))
  | inr e1 ↦ elim (named w (codes "m") (mapped (λ (m : ℕ). r.Masks m) (hex_of rest)) _ row e1) [
    | inl p ↦
        (let m = mapped_some (λ (m : ℕ). r.Masks m) (hex_of rest) row p.1 in
        let k = hex-spelled rest m.x m.first in
        subst (RestIs w rest) m.same ((λ i. p.0 i ‿ k.0 i), k.1))
    | inr e2 ↦ elim (named w (codes "p") (stream_of rest) _ row e2) [
      | inl p ↦ moved w (codes "p") rest row p.0 (stream_is rest row p.1)
      | inr e3 ↦ elim (named w (codes "goto") (mapped (λ (n : ℕ). r.Follows (Goto n)) (count_within 0 4294967295 rest)) _ row e3) [
        | inl p ↦ moved w (codes "goto") rest row p.0 (counted_is (codes "goto") (λ (n : ℕ). r.Follows (Goto n)) 4294967295 rest row (λ n. refl) (λ n l. l) p.1)
        | inr e4 ↦ elim (named w (codes "if") (mapped (λ (p : ℕ × ℕ × ℕ). r.Follows (If p.0 p.1 p.2)) (three_of 255 4294967295 4294967295 rest)) _ row e4) [
          | inl p ↦
              (let m = mapped_some (λ (p : ℕ × ℕ × ℕ). r.Follows (If p.0 p.1 p.2)) (three_of 255 4294967295 4294967295 rest) row p.1 in
              let k = three_is 255 4294967295 4294967295 rest m.x m.first in
              subst (RestIs w rest) m.same ((λ i. p.0 i ‿ k.0 i), (k.1, k.2, k.3)))
          | inr e5 ↦ elim (named w (codes "block") (mapped (λ (n : ℕ). r.Opens n) (count_within 0 4294967295 rest)) _ row e5) [
            | inl p ↦ moved w (codes "block") rest row p.0 (counted_is (codes "block") (λ (n : ℕ). r.Opens n) 4294967295 rest row (λ n. refl) (λ n l. l) p.1)
            | inr e6 ↦ elim (named w (codes "var") (variable_of rest) _ row e6) [
              | inl p ↦ moved w (codes "var") rest row p.0 (variable_is rest row p.1)
              | inr e7 ↦ elim (named w (codes "array") (array_of rest) _ row e7) [
                | inl p ↦ moved w (codes "array") rest row p.0 (array_is rest row p.1)
                | inr e8 ↦ elim (named w (codes "time") (time_of rest) _ row e8) [
                  | inl p ↦ moved w (codes "time") rest row p.0 (time_is rest row p.1)
                  | inr e9 ↦ elim (named w (codes "processors") (mapped (λ (n : ℕ). r.Processors n) (count_within 0 255 rest)) _ row e9) [
                    | inl p ↦ moved w (codes "processors") rest row p.0 (counted_is (codes "processors") (λ (n : ℕ). r.Processors n) 255 rest row (λ n. refl) (λ n l. l) p.1)
                    | inr e10 ↦ elim (named w (codes "barrier") (mapped (λ (n : ℕ). r.Barrier n) (count_within 0 255 rest)) _ row e10) [
                      | inl p ↦ moved w (codes "barrier") rest row p.0 (counted_is (codes "barrier") (λ (n : ℕ). r.Barrier n) 255 rest row (λ n. refl) (λ n l. l) p.1)
                      | inr e11 ↦ elim (named w (codes "bmimd") (mapped (λ (n : ℕ). r.Version n) (count_within 0 255 rest)) _ row e11) [
                        | inl p ↦ moved w (codes "bmimd") rest row p.0 (counted_is (codes "bmimd") (λ (n : ℕ). r.Version n) 255 rest row (λ n. refl) (λ n l. l) p.1)
                        | inr e12 ↦ absurd (none_some e12)
                      ]
                    ]
                  ]
                ]
              ]
            ]
          ]
        ]
      ]
    ]
  ]
]

row_alone-is : (bs : List ℕ) (row : Row) → row_alone bs ≡ Some row → (bs ≡ row_text row) × RowFits row
row_alone-is bs row e = elim (named bs (codes "halt") (Some (r.Follows Halt)) _ row e) [
  | inl p ↦ subst (λ (x : Row). (bs ≡ row_text x) × RowFits x) (some_same p.1) (p.0, tt)
  | inr e1 ↦ elim (named bs (codes "end") (Some r.Ends) None row e1) [
    | inl p ↦ subst (λ (x : Row). (bs ≡ row_text x) × RowFits x) (some_same p.1) (p.0, tt)
    | inr e2 ↦ absurd (none_some e2)
  ]
]

-- what a line says is spelled so
pub row_is : (bs : List ℕ) (row : Row) → row_of bs ≡ Some row → (bs ≡ row_text row) × RowFits row
row_is bs row e = by (cut bs) refl e
  where
    by : (o : Option (List ℕ × List ℕ)) → cut bs ≡ o → row_split bs o ≡ Some row → (bs ≡ row_text row) × RowFits row
    by None o h = row_alone-is bs row h
    by (Some p) o h = let k = row_by-is p.0 p.1 row h in (cut_is bs p o ∙ k.0, k.1)

-- ---- what is spelled so is read

class_again : (x : Class) (rest : List ℕ) → (cut (class_word x ‿ rest) ≡ Some (class_word x, rest)) × (class_of_word (class_word x) ≡ Some x)
class_again c.Const rest = (refl, refl)
class_again c.Load rest = (refl, refl)
class_again c.Store rest = (refl, refl)
class_again c.LoadEl rest = (refl, refl)
class_again c.StoreEl rest = (refl, refl)
class_again c.Alu rest = (refl, refl)
class_again c.Mul rest = (refl, refl)
class_again c.Div rest = (refl, refl)
class_again c.Print rest = (refl, refl)

one_again : (x : Un) (rest : List ℕ) → tuple_of (unary_word x ‿ rest) ≡ mapped (λ (a : ℕ). One x a) (count_within 0 255 rest)
one_again u.Neg rest = refl
one_again u.Not rest = refl

two_op_again : (x : Bin) (rest : List ℕ) → tuple_of (binary_word x ‿ rest) ≡ mapped (λ (p : ℕ × ℕ). Two x p.0 p.1) (two_of 255 255 rest)
two_op_again b.Or rest = refl
two_op_again b.Xor rest = refl
two_op_again b.And rest = refl
two_op_again b.Eq rest = refl
two_op_again b.Ne rest = refl
two_op_again b.Lt rest = refl
two_op_again b.Le rest = refl
two_op_again b.Gt rest = refl
two_op_again b.Ge rest = refl
two_op_again b.Shl rest = refl
two_op_again b.Shr rest = refl
two_op_again b.Add rest = refl
two_op_again b.Sub rest = refl
two_op_again b.Mul rest = refl
two_op_again b.Div rest = refl
two_op_again b.Rem rest = refl

tuple_again : (t : Tuple) → TupleFits t → tuple_of (tuple_text t) ≡ Some t
tuple_again (Const v) h = ap (mapped (λ (z : ℤ). Const z)) (strict_number-decimal v h)
tuple_again (Load x) h = ap (mapped (λ (n : ℕ). Load n)) (count_again 0 65535 x (omega arith) h (omega arith))
tuple_again (Store x v) h = ap (mapped (λ (p : ℕ × ℕ). Store p.0 p.1)) (two_again 65535 255 x v (omega arith) (omega arith) h.0 h.1)
tuple_again (LoadEl x v) h = ap (mapped (λ (p : ℕ × ℕ). LoadEl p.0 p.1)) (two_again 65535 255 x v (omega arith) (omega arith) h.0 h.1)
tuple_again (StoreEl x i v) h = ap (mapped (λ (p : ℕ × ℕ × ℕ). StoreEl p.0 p.1 p.2)) (three_again 65535 255 255 x i v (omega arith) (omega arith) (omega arith) h.0 h.1 h.2)
tuple_again (One x a) h = one_again x (decimal a) ∙ ap (mapped (λ (n : ℕ). One x n)) (count_again 0 255 a (omega arith) h (omega arith))
tuple_again (Two x a v) h = two_op_again x (decimal a ‿ decimal v) ∙ ap (mapped (λ (p : ℕ × ℕ). Two x p.0 p.1)) (two_again 255 255 a v (omega arith) (omega arith) h.0 h.1)
tuple_again (Print v) h = ap (mapped (λ (n : ℕ). Print n)) (count_again 0 255 v (omega arith) h (omega arith))

time_again : (x : Class) (t : Interval) → IsTime t → time_of (class_word x ‿ (decimal t.least ‿ decimal t.most)) ≡ Some (r.Times x t)
time_again x t h =
    let k = class_again x (decimal t.least ‿ decimal t.most) in
    let low : 1 ≤ t.least = h.low in
    let order : t.least ≤ t.most = h.order in
    let high : t.most ≤ 1000 = h.high in
    rw (k.0, k.1, cut_again (decimal t.least) (decimal t.most) (decimal_plain t.least (omega arith)), count_again 1 1000 t.least low (omega arith) (omega arith), count_again t.least 1000 t.most order high (omega arith)) refl

named_again : (name : List ℕ) (k : Kind) → has_byte 32 name ≡ false → InRange k → row_of (entry_text name k) ≡ Some (r.Named (record { name = name; kind = k }))
named_again name (Var initial) plain h = rw (cut_again name (signed_decimal initial) plain, strict_number-decimal initial h) refl
named_again name (Array len) plain h =
    let k : len ≤ 4294967295 = h in
    rw (cut_again name (decimal len) plain, count_again 0 4294967295 len (omega arith) k (omega arith)) refl

next_again : (n : Next) → NextFits n → row_of (next_text n) ≡ Some (r.Follows n)
next_again Halt h = refl
next_again (Goto x) h = ap (mapped (λ (n : ℕ). r.Follows (Goto n))) (count_again 0 4294967295 x (omega arith) h (omega arith))
next_again (If x y z) h = ap (mapped (λ (p : ℕ × ℕ × ℕ). r.Follows (If p.0 p.1 p.2))) (three_again 255 4294967295 4294967295 x y z (omega arith) (omega arith) (omega arith) h.0 h.1 h.2)

-- a line that is spelled so is read
pub row_again : (row : Row) → RowFits row → row_of (row_text row) ≡ Some row
row_again (r.Version v) h = ap (mapped (λ (n : ℕ). r.Version n)) (count_again 0 255 v (omega arith) h (omega arith))
row_again (r.Processors v) h = ap (mapped (λ (n : ℕ). r.Processors n)) (count_again 0 255 v (omega arith) h (omega arith))
row_again (r.Barrier v) h = ap (mapped (λ (n : ℕ). r.Barrier n)) (count_again 0 255 v (omega arith) h (omega arith))
row_again (r.Times x t) h = time_again x t h
row_again (r.Named e) h = named_again e.name e.kind h.0 h.1
row_again (r.Opens v) h = ap (mapped (λ (n : ℕ). r.Opens n)) (count_again 0 4294967295 v (omega arith) h (omega arith))
row_again (r.Does t) h = ap (mapped (λ (x : Tuple). r.Does x)) (tuple_again t h)
row_again (r.Masks m) h = ap (mapped (λ (n : ℕ). r.Masks n)) (hex-hexadecimal m h)
row_again (r.Streams p text) h =
    let k : p ≤ 255 = h in
    rw (cut_again (decimal p) text (decimal_plain p (omega arith)), count_again 0 255 p (omega arith) k (omega arith)) refl
row_again (r.Follows n) h = next_again n h
row_again r.Ends h = refl
