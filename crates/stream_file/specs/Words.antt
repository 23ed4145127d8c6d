-- The words of an image's text, and which operator or class a word names.
use Rattle.std.specs.Prelude.{ℕ, List, [], ◌∷◌, Option, Some, None, if◌then◌else◌, codes}
use Rattle.std.specs.Str.{bytes_eq}
use Rattle.bm_base.specs.declared.spec.Class.{Class}
use Rattle.bm_base.specs.declared.spec.Class.TheVariants as c
use Rattle.bm_base.specs.declared.word.Un.{Un}
use Rattle.bm_base.specs.declared.word.Un.TheVariants as u
use Rattle.bm_base.specs.declared.word.Bin.{Bin}
use Rattle.bm_base.specs.declared.word.Bin.TheVariants as b

abbrev pub class_word : Class → List ℕ
class_word c.Const = codes "const"
class_word c.Load = codes "load"
class_word c.Store = codes "store"
class_word c.LoadEl = codes "loadel"
class_word c.StoreEl = codes "storeel"
class_word c.Alu = codes "alu"
class_word c.Mul = codes "mul"
class_word c.Div = codes "div"
class_word c.Print = codes "print"

-- the classes, in the order of their lines
abbrev pub classes : List Class
classes = c.Const ∷ c.Load ∷ c.Store ∷ c.LoadEl ∷ c.StoreEl ∷ c.Alu ∷ c.Mul ∷ c.Div ∷ c.Print ∷ []

abbrev pub unary_word : Un → List ℕ
unary_word u.Neg = codes "neg"
unary_word u.Not = codes "not"

abbrev pub binary_word : Bin → List ℕ
binary_word b.Or = codes "or"
binary_word b.Xor = codes "xor"
binary_word b.And = codes "and"
binary_word b.Eq = codes "eq"
binary_word b.Ne = codes "ne"
binary_word b.Lt = codes "lt"
binary_word b.Le = codes "le"
binary_word b.Gt = codes "gt"
binary_word b.Ge = codes "ge"
binary_word b.Shl = codes "shl"
binary_word b.Shr = codes "shr"
binary_word b.Add = codes "add"
binary_word b.Sub = codes "sub"
binary_word b.Mul = codes "mul"
binary_word b.Div = codes "div"
binary_word b.Rem = codes "rem"

abbrev pub unaries : List Un
unaries = u.Neg ∷ u.Not ∷ []

abbrev pub binaries : List Bin
binaries = b.Or ∷ b.Xor ∷ b.And ∷ b.Eq ∷ b.Ne ∷ b.Lt ∷ b.Le ∷ b.Gt ∷ b.Ge ∷ b.Shl ∷ b.Shr ∷ b.Add ∷ b.Sub ∷ b.Mul ∷ b.Div ∷ b.Rem ∷ []

-- the first of these that has this word
abbrev pub named_by : {A : Type 0} → (A → List ℕ) → List ℕ → List A → Option A
named_by word w [] = None
named_by word w (x ∷ xs) = if bytes_eq w (word x) then Some x else named_by word w xs

abbrev pub class_of_word : List ℕ → Option Class
class_of_word w = named_by class_word w classes

abbrev pub unary_of_word : List ℕ → Option Un
unary_of_word w = named_by unary_word w unaries

abbrev pub binary_of_word : List ℕ → Option Bin
binary_of_word w = named_by binary_word w binaries
