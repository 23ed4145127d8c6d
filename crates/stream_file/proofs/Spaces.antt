-- The items of a stream, each behind a space.
use Rattle.std.proofs.Common.{◌≡◌, ℕ, ◌+◌, ◌-◌, ◌<◌, ◌≤◌, zero, suc, refl, sym, ap, ◌∙◌, arith, List, [], ◌∷◌, ◌++◌, length, drop, map, append-nil, append_assoc}
use Rattle.std.specs.Prelude.{IfSome, IfOk, slice_get, OnOk}
use Rattle.std.proofs.Common.{Result, Ok, Err, add-one}
use Rattle.bm_base.specs.Entry.{Entry}
use Rattle.bm_base.specs.declared.names.Kind.{Kind}
use Rattle.line_model.specs.declared.line.StreamItem.{StreamItem}
use Rattle.stream_image.specs.declared.given.Stream.{Stream}
use Rattle.stream_file.specs.Rows.{Row, Opens, Does, Masks, Streams, Follows, item_text, row_text}
use Rattle.stream_file.specs.Fields.{BlockFields, Fields, Fits, IsTextOf, text_of, items_text, block_rows, blocks_rows}
use Rattle.unit_law.specs.State.{Program}
use Rattle.line_model.specs.declared.line.Item.{Item}
use Rattle.line_model.specs.Streams.{stream}
use Rattle.bm_base.specs.declared.spec.Class.{Class}
use Rattle.bm_base.specs.declared.spec.Interval.{Interval}
use Rattle.bm_base.specs.Machine.{Machine}
use Rattle.bm_base.specs.Spec.{time_of}
use Rattle.stream_file.specs.Rows.{Times}
use Rattle.stream_file.specs.Written.{given_by, streams_from, stream_rows, fields_at, blocks_from, time_lines}
use Rattle.stream_file.specs.Texts.{spaced, text_of_rows}

pub spaced_items : (is : List StreamItem) → 1 ≤ length is → spaced is ≡ 32 ∷ items_text is
spaced_items [] h = absurd (omega arith)
spaced_items (i ∷ []) h = ap (λ l. 32 ∷ l) (append-nil (item_text i))
spaced_items (i ∷ j ∷ js) h = ap (λ l. 32 ∷ item_text i ++ l) (spaced_items (j ∷ js) (omega arith))

-- ---- rows, one more

pub more_row : (out : List ℕ) (row : Row) (rest : List Row) → (out ++ text_of_rows (row ∷ [])) ++ text_of_rows rest ≡ out ++ text_of_rows (row ∷ rest)
more_row out row rest = append_assoc out (row_text row ++ 10 ∷ []) (text_of_rows rest) ∙ ap (λ l. out ++ l) (append_assoc (row_text row) (10 ∷ []) (text_of_rows rest))

pub more_rows : (xs ys : List Row) → text_of_rows (xs ++ ys) ≡ text_of_rows xs ++ text_of_rows ys
more_rows [] ys = refl
more_rows (x ∷ xs) ys = ap (λ l. row_text x ++ 10 ∷ l) (more_rows xs ys) ∙ sym (append_assoc (row_text x) (10 ∷ text_of_rows xs) (text_of_rows ys))

-- the entry of a number
pub name_row : (es : List Entry) (i : ℕ) (name : List ℕ) (kind : Kind) → i < length es → IfSome (slice_get es i) (λ e. name ≡ e.name) → IfSome (slice_get es i) (λ e. kind ≡ e.kind) → drop i es ≡ record { name = name; kind = kind } ∷ drop (i + 1) es
name_row [] i name kind h n k = absurd (omega arith)
name_row (e ∷ es) zero name kind h n k = λ i. record { name = sym n i; kind = sym k i } ∷ es
name_row (e ∷ es) (suc i) name kind h n k =
    let s : suc i + 1 ≡ suc (i + 1) = omega arith in
    name_row es i name kind (omega arith) n k ∙ ap (λ (m : ℕ). record { name = name; kind = kind } ∷ drop m (e ∷ es)) (sym s)

abbrev pub fields_row : Stream → Row
fields_row s = Streams s.processor (items_text s.items)

-- one part behind another
pub behind : (old mid new : List ℕ) (a b : List ℕ) → mid ≡ old ++ a → new ≡ mid ++ b → new ≡ old ++ (a ++ b)
behind old mid new a b h k = k ∙ ap (λ l. l ++ b) h ∙ append_assoc old a b

pub on_ok : {P Q : Type 0} {A E : Type 0} (r : Result A E) → (P → Q) → OnOk r P → OnOk r Q
on_ok (Ok x) f h = f h
on_ok (Err e) f h = tt

pub block_text : (n : ℕ) (b : BlockFields) → text_of_rows (block_rows n b) ≡ (((text_of_rows (Opens n ∷ []) ++ text_of_rows (map Does b.tuples)) ++ text_of_rows (map Masks b.masks)) ++ text_of_rows (map fields_row b.streams)) ++ text_of_rows (Follows b.next ∷ [])
block_text n b =
    let o : List Row = Opens n ∷ [] in
    let t : List Row = map Does b.tuples in
    let m : List Row = map Masks b.masks in
    let s : List Row = map fields_row b.streams in
    more_rows (o ++ (t ++ (m ++ s))) (Follows b.next ∷ [])
    ∙ ap (λ l. l ++ text_of_rows (Follows b.next ∷ [])) (more_rows o (t ++ (m ++ s)) ∙ ap (λ l. text_of_rows o ++ l) (more_rows t (m ++ s) ∙ ap (λ l. text_of_rows t ++ l) (more_rows m s))
    ∙ sym (append_assoc (text_of_rows o) (text_of_rows t) (text_of_rows m ++ text_of_rows s)) ∙ sym (append_assoc (text_of_rows o ++ text_of_rows t) (text_of_rows m) (text_of_rows s)))

-- one block more
pub more_block : (n : ℕ) (b : BlockFields) (bs : List BlockFields) → text_of_rows (blocks_rows n (b ∷ bs)) ≡ text_of_rows (block_rows n b) ++ text_of_rows (blocks_rows (n + 1) bs)
more_block n b bs = more_rows (block_rows n b) (blocks_rows (suc n) bs) ∙ ap (λ (k : ℕ). text_of_rows (block_rows n b) ++ text_of_rows (blocks_rows k bs)) (sym (add-one n))

pub length_map : {A B : Type 0} (f : A → B) (xs : List A) → length (map f xs) ≡ length xs
length_map f [] = refl
length_map f (x ∷ xs) = ap suc (length_map f xs)

pub written_is : {A E : Type 0} (r : Result A E) (view : A → List ℕ) (f : Fields) → Fits f → IfOk r (λ v. view v ≡ text_of f) → IfOk r (λ v. IsTextOf (view v) f)
written_is (Ok x) view f fits h = record { fits = fits; text = h }
written_is (Err e) view f fits h = tt

-- ---- one part of an image more

given_text : (p : ℕ) (items : List StreamItem) (streams : List Stream) → text_of_rows (stream_rows (given_by p items streams)) ≡ text_of_rows (stream_rows (given_by p items [])) ++ text_of_rows (stream_rows streams)
given_text p [] streams = refl
given_text p (i ∷ items) streams = more_rows (Streams p (items_text (i ∷ items)) ∷ []) (stream_rows streams)

pub more_stream : (out new : List ℕ) (items : List StreamItem) (p n : ℕ) (line : List Item) → items ≡ stream p line → p < n → new ≡ out ++ text_of_rows (stream_rows (given_by p items [])) → new ++ text_of_rows (stream_rows (streams_from (p + 1) (n - (p + 1)) line)) ≡ out ++ text_of_rows (stream_rows (streams_from p (n - p) line))
more_stream out new items p n line e l h =
    let left : n - p ≡ suc (n - (p + 1)) = omega arith in
    let rest : List Stream = streams_from (p + 1) (n - (p + 1)) line in
    ap (λ l. l ++ text_of_rows (stream_rows rest)) h
    ∙ append_assoc out (text_of_rows (stream_rows (given_by p items []))) (text_of_rows (stream_rows rest))
    ∙ ap (λ l. out ++ l) (sym (given_text p items rest) ∙ ap (λ (is : List StreamItem). text_of_rows (stream_rows (given_by p is rest))) e
    ∙ ap (λ (k : ℕ). text_of_rows (stream_rows (given_by p (stream p line) (streams_from k (n - (p + 1)) line)))) (add-one p)
    ∙ ap (λ (k : ℕ). text_of_rows (stream_rows (streams_from p k line))) (sym left))

pub more_code : (out new : List ℕ) (m : Program) (b : ℕ) → b < length m.blocks → new ≡ out ++ text_of_rows (block_rows b (fields_at m b)) → new ++ text_of_rows (blocks_rows (b + 1) (blocks_from m (b + 1) (length m.blocks - (b + 1)))) ≡ out ++ text_of_rows (blocks_rows b (blocks_from m b (length m.blocks - b)))
more_code out new m b l h =
    let left : length m.blocks - b ≡ suc (length m.blocks - (b + 1)) = omega arith in
    let rest : List BlockFields = blocks_from m (b + 1) (length m.blocks - (b + 1)) in
    ap (λ l. l ++ text_of_rows (blocks_rows (b + 1) rest)) h
    ∙ append_assoc out (text_of_rows (block_rows b (fields_at m b))) (text_of_rows (blocks_rows (b + 1) rest))
    ∙ ap (λ l. out ++ l) (sym (more_block b (fields_at m b) rest)
    ∙ ap (λ (k : ℕ). text_of_rows (blocks_rows b (fields_at m b ∷ blocks_from m k (length m.blocks - (b + 1))))) (add-one b)
    ∙ ap (λ (k : ℕ). text_of_rows (blocks_rows b (blocks_from m b k))) (sym left))

pub more_time : (out new : List ℕ) (m : Machine) (class : Class) (time : Interval) (cs rest : List Class) → time ≡ time_of m class → cs ≡ class ∷ rest → new ≡ out ++ text_of_rows (Times class time ∷ []) → new ++ text_of_rows (time_lines m rest) ≡ out ++ text_of_rows (time_lines m cs)
more_time out new m class time cs rest t e h =
    ap (λ l. l ++ text_of_rows (time_lines m rest)) h
    ∙ more_row out (Times class time) (time_lines m rest)
    ∙ ap (λ (x : Interval). out ++ text_of_rows (Times class x ∷ time_lines m rest)) t
    ∙ ap (λ (l : List Class). out ++ text_of_rows (time_lines m l)) (sym e)
