use Rattle.src_front.proofs.Answers.{have_one_answer}
use Rattle.src_front.proofs.laws.sources_have_one_answer.Goals as goal

pub returns : goal.returns
returns c =
    have_one_answer
    (
    record {
      spelling = c.text_has_one_spelling.ensures;
      tree = c.tokens_have_one_tree.ensures;
      plain = c.derived_trees_are_plain.ensures;
      lexer = c.texts_have_one_answer.ensures;
      parser = c.tokens_have_one_answer.ensures;
      names = c.trees_have_one_answer.ensures;
    }
    )
