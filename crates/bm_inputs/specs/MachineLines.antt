-- What the faults of a machine file are refused with. A key stands in its line as it is.
use Rattle.std.specs.Prelude.{◌++◌, codes, Option, Some, None}
use Rattle.std.specs.Fmt.{signed_decimal}
use Rattle.machine_file.specs.declared.fault.MachineFault.{MachineFault}
use Rattle.machine_file.specs.declared.fault.MachineFault.TheVariants.{NotToml, Key, Kind, Range, Memory}
use Rattle.bm_course.specs.declared.status.TheConstants.{MACHINE}
use Rattle.bm_course.specs.Course.{Refused}

abbrev pub machine_refused : MachineFault → Option Refused
machine_refused NotToml = Some (record { status = MACHINE; line = codes "error 13: not TOML\n" })
machine_refused (Key name) = Some (record { status = MACHINE; line = codes "error 14: key " ++ name ++ codes "\n" })
machine_refused (Kind name) = Some (record { status = MACHINE; line = codes "error 15: kind of " ++ name ++ codes "\n" })
machine_refused (Range name value) = Some (record {
  status = MACHINE;
  line = codes "error 16: " ++ name ++ (codes " has " ++ signed_decimal value ++ codes "\n");
})
machine_refused Memory = None
