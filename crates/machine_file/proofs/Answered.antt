-- From what a step tells to what the whole answers.
use Rattle.std.proofs.Common.{◌≡◌, ℕ, List, Bool, true, false, Option, None, Ok, Err, refl, sym, ap, inl, inr, ◌⊎◌, if◌then◌else◌}
use Rattle.std.specs.Str.{is_utf8, IsUtf8}
use Rattle.std.proofs.lemmas.Str.{IsUtf8-from_is_utf8}
use Rattle.bm_base.specs.Machine.{Machine}
use Rattle.toml.specs.Parse.{parse_document}
use Rattle.machine_file.specs.declared.fault.MachineFault.TheVariants.{NotToml, Memory}
use Rattle.machine_file.specs.MachineFile.{Read, Tells, machine_of_text, machine_of}

pub answered : (meant result : Read Machine) → Tells (λ m. m) meant result → (result ≡ meant) ⊎ (result ≡ Err Memory)
answered meant (Ok m) h = inl (sym h)
answered meant (Err e) (inl h) = inl (sym h)
answered meant (Err e) (inr h) = inr (ap Err h)

not_text : (b : Bool) (o : Option _) → (b ≡ true → o ≡ None) → Err NotToml ≡ (if b then machine_of_text o else Err NotToml)
not_text true o h = rw (h refl)
not_text false o h = refl

-- bytes that are no text, or a text that is no document
pub no_document : (bytes : List ℕ) → (IsUtf8 bytes → parse_document bytes ≡ None) → Err NotToml ≡ machine_of bytes
no_document bytes h = not_text (is_utf8 bytes) (parse_document bytes) (λ e. h (IsUtf8-from_is_utf8 bytes e))
