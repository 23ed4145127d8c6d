use Rattle.std.proofs.Common.{[], ◌∷◌, ◌++◌, Err}
use Rattle.std.proofs.lemmas.Result.{err_from_is_err_and}
use Rattle.bm_io.proofs.Sending.{Sent-stop, Sent-more}
use Rattle.show_text.specs.Listing.{block_line_of, item_lines, pair_lines, shown_next_line}
use Rattle.show_text.proofs.writing.write_block.Goals as goal

pub returns-in_err-write-clause-sent : goal.returns-in_err-write-clause-sent
returns-in_err-write-clause-sent g c =
    let p = err_from_is_err_and c.from_residual.result c.from_residual.ensures.1 in
    let s = rw (c.bytes.ensures.value, c.block_line.ensures) at c.in_err-write.ensures.sent in
    let h = c.args.shown.now in
    rw (p.1, p.2) (Sent-stop _ _ (block_line_of c.args.number ∷ []) (item_lines h.items ++ (pair_lines h.pairs ++ (shown_next_line h.next ∷ []))) c.in_err-write.field-0.0 s)

pub returns-in_err-write_items-clause-sent : goal.returns-in_err-write_items-clause-sent
returns-in_err-write_items-clause-sent g c =
    let p = err_from_is_err_and c.from_residual-in_err-write_items.result c.from_residual-in_err-write_items.ensures.1 in
    let s = rw (c.bytes.ensures.value, c.block_line.ensures) at c.in_ok-write.ensures.sent in
    let i = rw c.items.ensures at c.in_err-write_items.ensures.sent in
    let h = c.args.shown.now in
    let rest = pair_lines h.pairs ++ (shown_next_line h.next ∷ []) in
    rw (p.1, p.2)
    (Sent-more _ _ _ (block_line_of c.args.number ∷ []) (item_lines h.items ++ rest) (Err c.in_err-write_items.field-0.0) s.ok
    (Sent-stop _ _ (item_lines h.items) rest c.in_err-write_items.field-0.0 i))

pub returns-in_err-write_pairs-clause-sent : goal.returns-in_err-write_pairs-clause-sent
returns-in_err-write_pairs-clause-sent g c =
    let p = err_from_is_err_and c.from_residual-in_err-write_pairs.result c.from_residual-in_err-write_pairs.ensures.1 in
    let s = rw (c.bytes.ensures.value, c.block_line.ensures) at c.in_ok-write.ensures.sent in
    let i = rw c.items.ensures at c.in_ok-write_items.ensures.sent in
    let j = rw c.items-2.ensures at c.in_err-write_pairs.ensures.sent in
    let h = c.args.shown.now in
    let last = shown_next_line h.next ∷ [] in
    let e = c.in_err-write_pairs.field-0.0 in
    rw (p.1, p.2)
    (Sent-more _ _ _ (block_line_of c.args.number ∷ []) (item_lines h.items ++ (pair_lines h.pairs ++ last)) (Err e) s.ok
    (Sent-more _ _ _ (item_lines h.items) (pair_lines h.pairs ++ last) (Err e) i.ok
    (Sent-stop _ _ (pair_lines h.pairs) last e j)))

pub returns-clause-sent : goal.returns-clause-sent
returns-clause-sent g c =
    let s = rw (c.bytes.ensures.value, c.block_line.ensures) at c.in_ok-write.ensures.sent in
    let i = rw c.items.ensures at c.in_ok-write_items.ensures.sent in
    let j = rw c.items-2.ensures at c.in_ok-write_pairs.ensures.sent in
    let k = rw (c.bytes-2.ensures.value, c.next_piece.ensures) at c.write-2.ensures.sent in
    let h = c.args.shown.now in
    let last = shown_next_line h.next ∷ [] in
    Sent-more _ _ _ (block_line_of c.args.number ∷ []) (item_lines h.items ++ (pair_lines h.pairs ++ last)) c.write-2.result s.ok
    (Sent-more _ _ _ (item_lines h.items) (pair_lines h.pairs ++ last) c.write-2.result i.ok
    (Sent-more _ _ _ (pair_lines h.pairs) last c.write-2.result j.ok k))
