-- What holds of all texts of scripts, and of all timings.
use Rattle.std.specs.Prelude.{ℕ, ◌≡◌, ◌^◌, ◌<◌, ◌≤◌, List, [], length, get_or, slice_get, Some}
use Rattle.std.specs.List.{AllByRecursion}
use Rattle.bm_base.specs.declared.spec.Interval.{Interval}
use Rattle.timing_law.specs.Duration.{IsWithin}
use Rattle.timing_script.specs.declared.script.Script.{Script}
use Rattle.timing_script.specs.Script.{script_duration}
use Rattle.timing_script.specs.Text.{IsTextOf, IsScriptOf, IsFirstWrong}

-- what bytes are
pub data Answer (bytes : List ℕ) : Type 0 where
  text : (lists : List (List ℕ)) → IsTextOf bytes lists → Answer bytes
  wrong : (line : ℕ) → IsFirstWrong bytes line → Answer bytes

-- Each text is that of one script. Bytes that are no text have one first line that is no row.
pub record TextsHaveOneAnswer : Type 0 where
  pub some : (bytes : List ℕ) → Answer bytes
  pub one_script : (bytes : List ℕ) (k l : List (List ℕ)) → IsTextOf bytes k → IsTextOf bytes l → k ≡ l
  pub one_line : (bytes : List ℕ) (m n : ℕ) → IsFirstWrong bytes m → IsFirstWrong bytes n → m ≡ n
  pub not_both : (bytes : List ℕ) (lists : List (List ℕ)) (n : ℕ) → IsTextOf bytes lists → IsFirstWrong bytes n → ⊥

-- ---- timings

-- how long an instruction may take, and how long it takes in a run
pub record Timed : Type 0 where
  pub interval : Interval
  pub time : ℕ

pub record IsTimed (t : Timed) : Type 0 where
  pub within : IsWithin t.interval t.time
  pub short : t.time < 2 ^ 64

-- by processor, the instructions that each starts in a finite run
abbrev pub IsTimedRun : List (List Timed) → Type 0
IsTimedRun starts = (length starts ≤ 256) × AllByRecursion (AllByRecursion IsTimed) starts

-- the k-th instruction that processor p starts takes its time
abbrev pub Keeps : Script → List (List Timed) → Type 0
Keeps script starts = (p k : ℕ) (t : Timed) → slice_get (get_or starts p []) k ≡ Some t → script_duration script p k t.interval ≡ t.time

-- Every assignment of times within their intervals to a finite run has a text of a script.
abbrev pub ScriptsReachAllTimings : Type 0
ScriptsReachAllTimings = (starts : List (List Timed)) → IsTimedRun starts
    → (bytes : List ℕ) × ((script : Script) × (IsScriptOf bytes script × Keeps script starts))
