use Rattle.timing_script.proofs.DataReadings.{some_answer, one_memory, one_fault, not_both}
use Rattle.timing_script.proofs.OfNames.{of_names}
use Rattle.timing_script.proofs.data_laws.data_has_one_answer.Goals as goal

pub returns : goal.returns
returns c = record {
  some = λ names bytes l. some_answer names l bytes;
  one_memory = λ names bytes m n l. one_memory names l bytes m n;
  of_names = of_names;
  one_fault = λ names bytes a b l. one_fault names l bytes a b;
  not_both = λ names bytes m a l. not_both names l bytes m a;
}
