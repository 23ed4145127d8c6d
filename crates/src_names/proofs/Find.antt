-- The number of a name in a list of declared names.
use Rattle.std.proofs.Common.{◌≡◌, ℕ, ◌<◌, pos, true, false, List, [], length, Option, Some, None, sym, ◌∙◌, subst, true≢false}
use Rattle.std.specs.Prelude.{slice_get, get_or, IfSome}
use Rattle.std.specs.Str.{bytes_eq}
use Rattle.std.proofs.lemmas.Slice.Eq.{bytes_eq-Decides}
use Rattle.std.proofs.lemmas.Option.{slice_get-get_or}
use Rattle.std.proofs.lemmas.List.Quantifiers.{position-Some}
use Rattle.std.proofs.lemmas.Iterator.Adapters.{position_from-zero}
use Rattle.bm_base.specs.declared.names.Kind.{Kind}
use Rattle.bm_base.specs.declared.names.Kind.TheVariants as k
use Rattle.bm_base.specs.Entry.{Entry}
use Rattle.bm_base.specs.Names.{place_of}
use Rattle.bm_base.proofs.Naming.{none_at}
use Rattle.src_tree.specs.declared.tree.Ident.{Ident}
use Rattle.src_names.specs.Fault.{IsFree}

-- what stands at a name's number
pub found : (name : List ℕ) (es : List Entry) (id : ℕ) (kind : Kind) → place_of name es ≡ Some id → IfSome (slice_get es id) (λ e. kind ≡ e.kind) → slice_get es id ≡ Some (record { name = name; kind = kind })
found name es id kind h same =
    let d : Entry = record { name = []; kind = k.Var (pos 0) } in
    let p = position-Some (λ (e : Entry). bytes_eq name e.name) es id d h in
    let e : Entry = get_or es id d in
    let here : slice_get es id ≡ Some e = slice_get-get_or es id d p.0 in
    let P : Option Entry → Type 0 = λ o. IfSome o (λ (x : Entry). kind ≡ x.kind) in
    let kinds : kind ≡ e.kind = subst P here same in
    let names : name ≡ e.name = (bytes_eq-Decides name e.name).0 p.1 in
    rw (names, kinds) here

-- the entry at a name's number has the name
pub record Placed (name : List ℕ) (es : List Entry) (id : ℕ) : Type 0 where
  pub entry : Entry
  pub here : slice_get es id ≡ Some entry
  pub same : name ≡ entry.name

pub placed : (name : List ℕ) (es : List Entry) (id : ℕ) → place_of name es ≡ Some id → Placed name es id
placed name es id h =
    let d : Entry = record { name = []; kind = k.Var (pos 0) } in
    let p = position-Some (λ (e : Entry). bytes_eq name e.name) es id d h in
    record { entry = get_or es id d; here = slice_get-get_or es id d p.0; same = (bytes_eq-Decides name (get_or es id d).name).0 p.1 }

pub within : (name : List ℕ) (es : List Entry) (id : ℕ) → place_of name es ≡ Some id → id < length es
within name es id h =
    let d : Entry = record { name = []; kind = k.Var (pos 0) } in
    (position-Some (λ (e : Entry). bytes_eq name e.name) es id d h).0

-- a name without a number is not declared
pub absent : (n : Ident) (es : List Entry) → place_of n.text es ≡ None → IsFree es n
absent n es h = record {
  none = λ id x e same.
      let other : bytes_eq n.text x.name ≡ false = none_at (λ (z : Entry). bytes_eq n.text z.name) 0 es (sym (position_from-zero (λ (z : Entry). bytes_eq n.text z.name) es) ∙ h) id x e in
      true≢false (sym ((bytes_eq-Decides n.text x.name).1 (sym same)) ∙ other);
}
