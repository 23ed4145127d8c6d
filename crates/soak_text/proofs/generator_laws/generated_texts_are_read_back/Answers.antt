use Rattle.src_tree.specs.Laws.{IsReadAgain}
use Rattle.soak_text.specs.Generator.{generated}
use Rattle.soak_text.proofs.Alike.{same}
use Rattle.soak_text.proofs.generator_laws.generated_texts_are_read_back.Goals as goal

pub returns : goal.returns
returns c = λ seed statements r few named.
    let a : IsReadAgain (generated seed statements) = c.text_of_a_plain_tree_is_read_again.ensures (generated seed statements) (c.generated_trees_are_plain.ensures seed statements few) in
    record {
      tokens = a.tokens;
      tree = a.tree;
      is_tree = record { text = record { spells = a.spells; allowed = a.allowed }; derives = a.derives; limits = a.limits };
      named = same (generated seed statements) a.tree r a.same named;
    }
