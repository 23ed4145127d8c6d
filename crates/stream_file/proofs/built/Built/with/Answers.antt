use Rattle.std.proofs.Common.{◌≡◌, ◌+◌, ◌++◌, ◌∷◌, [], sym, subst, ap, arith, length-append, List}
use Rattle.stream_file.specs.Fields.{BlockFields}
use Rattle.stream_file.specs.Drafted.{block_fields, head_drafted, with_block}
use Rattle.stream_file.specs.Built.{Builds}
use Rattle.stream_file.proofs.built.Built.with.Goals as goal

pub returns-in-Some : goal.returns-in-Some
returns-in-Some c = λ bs h.
    let one : BlockFields = block_fields c.in-Some.one in
    let same : with_block bs c.args.ended ≡ bs ++ one ∷ [] = ap (with_block bs) c.in-Some.is in
    subst (λ (l : List BlockFields). Builds (head_drafted c.args.draft.now) l (record { blocks = c.args.self.blocks + 1; made = c.add.result })) (sym same) (record {
      count = omega (arith, h.count, length-append bs (one ∷ []));
      made = c.add.ensures bs h.made;
    })
