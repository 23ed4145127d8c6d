-- The lines of refusals, and their statuses. A name from the command line stands in its line as it is.
use Rattle.std.specs.Prelude.{ℕ, List, ◌++◌, codes, decimal}
use Rattle.bm_course.specs.declared.status.TheConstants.{USAGE, LIMIT, UNREAD, UNWRITTEN, MEMORY}
use Rattle.bm_course.specs.Course.{Refused}

abbrev pub usage : Refused
usage = record { status = USAGE; line = codes "error: usage\n" }

abbrev pub too_long : List ℕ → ℕ → Refused
too_long name most = record {
  status = LIMIT;
  line = codes "error 34: " ++ name ++ (codes " is longer than " ++ decimal most ++ codes " bytes\n");
}

abbrev pub cannot_read : List ℕ → Refused
cannot_read name = record { status = UNREAD; line = codes "error: cannot read " ++ name ++ codes "\n" }

abbrev pub cannot_write : Refused
cannot_write = record { status = UNWRITTEN; line = codes "error: cannot write the output\n" }

abbrev pub cannot_write_file : List ℕ → Refused
cannot_write_file name = record { status = UNWRITTEN; line = codes "error: cannot write " ++ name ++ codes "\n" }

abbrev pub no_memory : Refused
no_memory = record { status = MEMORY; line = codes "error: no memory\n" }
