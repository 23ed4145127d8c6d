use Rattle.std.proofs.Common.{◌≡◌, ◌++◌, ◌∷◌, [], ◌∙◌, ap, List, ℕ}
use Rattle.tuple_ir.specs.declared.tuple.Tuple.{Tuple}
use Rattle.line_model.specs.Streams.{masks}
use Rattle.stream_image.specs.Flat.{streams_on}
use Rattle.stream_image.proofs.ShelfFacts.{both_ok, IsPut, tuples_long, masks_long, ends_long, still_cut, put_is}
use Rattle.stream_image.proofs.shelf.Columns.put_line.Goals as goal

done : (c : goal.After-close) → c.close.new.ends.items ≡ c.args.self.now.ends.items ++ c.len-count.result ∷ [] → c.close.new.nexts.items ≡ c.args.self.now.nexts.items ++ c.args.block.now.next ∷ [] → IsPut c.args.self.now c.requires c.args.block.now.next c.args.block.now.tuples (masks c.args.line.now.items) (streams_on c.args.n c.args.line.now.items) c.close.new.nexts.items c.push.new.self c.push-2.new.self c.push_own.new.self c.close.new.ends.items
done c e n = record {
  nexts_are = n;
  tuples_are = c.in_ok-push.ensures.ok ∙ ap (λ (t : List Tuple). c.args.self.now.tuples ++ t ∷ []) c.items.ensures;
  masks_are = c.in_ok-push-2.ensures.ok ∙ ap (λ (m : List ℕ). c.args.self.now.masks ++ m ∷ []) (c.deref.ensures.value ∙ c.in_ok-fill.ensures);
  streams_are = c.in_ok-push_own.ensures.ok;
  ends_are = e ∙ ap (λ k. c.args.self.now.ends.items ++ k ∷ []) c.len-count.ensures;
}

pub returns-clause-columns : goal.returns-clause-columns
returns-clause-columns c = both_ok c.close.result c.close.ensures.ends c.close.ensures.nexts (λ e n.
    record {
      tuples = tuples_long c.args.self.now c.requires _ _ _ _ _ _ _ _ _ (done c e n);
      masks = masks_long c.args.self.now c.requires _ _ _ _ _ _ _ _ _ (done c e n);
      ends = ends_long c.args.self.now c.requires _ _ _ _ _ _ _ _ _ (done c e n);
      cut = still_cut c.args.self.now c.requires _ _ _ _ _ _ _ _ _ (done c e n);
    })

pub returns-clause-ok : goal.returns-clause-ok
returns-clause-ok c = both_ok c.close.result c.close.ensures.ends c.close.ensures.nexts (λ e n. put_is c.args.self.now c.requires _ _ _ _ _ _ _ _ _ (done c e n))
