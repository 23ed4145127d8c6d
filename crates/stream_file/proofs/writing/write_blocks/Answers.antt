use Rattle.std.proofs.Common.{ℕ, ◌≡◌, inl, inr, arith, subst, ◌∙◌}
use Rattle.std.proofs.lemmas.Bool.{cases_lt}
use Rattle.unit_law.specs.State.{code_at}
use Rattle.stream_file.specs.RowFits.{AreTypedTuples}
use Rattle.stream_file.proofs.Spaces.{more_code}
use Rattle.stream_file.proofs.writing.write_blocks.Goals as goal

pub loop-b-preserved : goal.loop-b-preserved
loop-b-preserved c = record {
  text = more_code c.loop-b.out.items c.write_block.new.out.items c.args.image.now c.loop-b.b (omega arith) c.in_ok-write_block.ensures.text ∙ c.loop-b.invariant.text;
  typed = λ b l. elim (cases_lt b c.loop-b.b) [
    | inl less ↦ c.loop-b.invariant.typed b less
    | inr more ↦ (let e : c.loop-b.b ≡ b = omega (arith, l, more) in subst (λ (x : ℕ). AreTypedTuples (code_at c.args.image.now x).tuples) e c.in_ok-write_block.ensures.typed)
  ];
}
