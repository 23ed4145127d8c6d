-- The table's words for those of the code.
use Rattle.std.specs.Prelude.{ℕ, List}
use Rattle.std.specs.Borrow.{Bor}
use Rattle.bm_words.specs.declared.command.MachineWord.{MachineWord}
use Rattle.bm_words.specs.declared.command.MachineWord.TheVariants.{Standard, File}
use Rattle.bm_words.specs.declared.command.ScriptWord.{ScriptWord}
use Rattle.bm_words.specs.declared.command.ScriptWord.TheVariants as word
use Rattle.bm_words.specs.declared.command.DataWord.{DataWord}
use Rattle.bm_words.specs.declared.command.DataWord.TheVariants as given
use Rattle.bm_words.specs.declared.command.UnitWord.{UnitWord}
use Rattle.bm_words.specs.declared.command.UnitWord.TheVariants as unit
use Rattle.bm_words.specs.declared.command.RunWords.{RunWords}
use Rattle.bm_words.specs.declared.command.Command.{Command}
use Rattle.bm_words.specs.declared.command.Command.TheVariants.{Eval, Go, Compile, Show, Run, Trace, Check, Soak}
use Rattle.bm_words.specs.Table.{MachineOf, Default, MachineFile, UnitOf, Static, Dynamic, RunWordsOf, Request}
use Rattle.bm_words.specs.Table.{ScriptOf, Least, Most, Seed, ScriptFile, DataOf, Declared, DataFile}
use Rattle.bm_words.specs.Table.{EvalOf, GoOf, CompileOf, ShowOf, RunOf, TraceOf, CheckOf, SoakOf}

abbrev pub seen_name : Bor (List ℕ) → List ℕ
seen_name n = n.now

abbrev pub seen_machine : MachineWord → MachineOf
seen_machine Standard = Default
seen_machine (File name) = MachineFile name.now

abbrev pub seen_script : ScriptWord → ScriptOf
seen_script word.Least = Least
seen_script word.Most = Most
seen_script (word.Seed n) = Seed n
seen_script (word.File name) = ScriptFile name.now

abbrev pub seen_data : DataWord → DataOf
seen_data given.Declared = Declared
seen_data (given.File name) = DataFile name.now

abbrev pub seen_unit : UnitWord → UnitOf
seen_unit unit.Static = Static
seen_unit unit.Dynamic = Dynamic

abbrev pub seen_run : RunWords → RunWordsOf
seen_run r = record { unit = seen_unit r.unit; script = seen_script r.script; given = seen_data r.given; budget = r.budget }

abbrev pub seen_command : Command → Request
seen_command (Eval program memory turns) = EvalOf program.now (seen_data memory) turns
seen_command (Go program machine run) = GoOf program.now (seen_machine machine) (seen_run run)
seen_command (Compile program machine out) = CompileOf program.now (seen_machine machine) out.now
seen_command (Show program machine) = ShowOf program.now (seen_machine machine)
seen_command (Run image run) = RunOf image.now (seen_run run)
seen_command (Trace image run) = TraceOf image.now (seen_run run)
seen_command (Check image) = CheckOf image.now
seen_command (Soak seed statements) = SoakOf seed statements
