-- Outputs that are sent part by part.
use Rattle.std.proofs.Common.{◌≡◌, ℕ, List, ◌++◌, Result, Ok, Err}
use Rattle.bm_io.specs.declared.sinks.SinkFault.{SinkFault}
use Rattle.bm_io.specs.declared.sinks.SinkFault.TheVariants.{Memory}
use Rattle.bm_io.specs.Sink.{Taken, Sent}
use Rattle.bm_io.proofs.Sending.{TakesWhole-nothing, Sent-stop, Sent-more, Sent-as}
use Rattle.bm_course.specs.Course.{Output}
use Rattle.bm_course.specs.Sends.{Sends}

-- nothing is sent for want of memory
pub Sends-nothing : (before : Taken) (o : Output) → Sends before before o (Err Memory)
Sends-nothing before o = record {
  sent = record {
    ok = tt;
    failed = λ e. let no : ⊥ = cc in absurd no;
    memory = λ e. TakesWhole-nothing before o.lines;
  };
  status = tt;
}

-- lines that are sent behind others
module _ (status : ℕ) (prints rest : List (List ℕ)) where
  pub first_stops : {T : Type 0} (before now : Taken) (e : SinkFault) → Sent {T = T} before now prints (Err e) → Sends before now (record { status = status; lines = prints ++ rest }) (Err e)
  first_stops before now e h = record { sent = Sent-stop before now prints rest e h; status = tt }

  pub then_sends : {T : Type 0} (before mid now : Taken) (x : T) (r : Result ℕ SinkFault) → Sent {T = T} before mid prints (Ok x) → Sends mid now (record { status = status; lines = rest }) r
      → Sends before now (record { status = status; lines = prints ++ rest }) r
  then_sends before mid now x r h k = record { sent = Sent-more before mid now prints rest r h.ok k.sent; status = k.status }

-- its lines were sent, and this is the status
pub sends_all : {T : Type 0} (before now : Taken) (o : Output) (x : T) (status : ℕ) → status ≡ o.status → Sent {T = T} before now o.lines (Ok x) → Sends before now o (Ok status)
sends_all before now o x status s h = record {
  sent = record { ok = h.ok; failed = λ e. let no : ⊥ = cc in absurd no; memory = λ e. let no : ⊥ = cc in absurd no };
  status = s;
}

-- a line was refused
pub sends_part : {T : Type 0} (before now : Taken) (o : Output) (e : SinkFault) → Sent {T = T} before now o.lines (Err e) → Sends before now o (Err e)
sends_part before now o e h = record { sent = Sent-as before now o.lines e h; status = tt }
