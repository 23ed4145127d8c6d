-- From the end of a command to the end of the call.
use Rattle.std.proofs.Common.{◌≡◌, ◌≤◌, ℕ, List, [], Ok, Err, refl, sym, ap, subst, inl, inr, arith}
use Rattle.bm_course.specs.Course.{Refused, Product, Gives, Course}
use Rattle.bm_course.specs.Lines.{cannot_write_file}
use Rattle.bm_course.specs.Seen.{FilesSeen, SinkSeen, Untouched, together}
use Rattle.bm_course.specs.Goes.{ReportedOrStarved, Reported, to_read, to_write, Meets, refused, unread, unwritten_file, unwritten, starved, starved_writing, Ending, done, told, Goes}
use Rattle.bm_course.specs.Ends.{StopsReading, EndsWriting, EndsCommand, stops, writes, Concludes}
use Rattle.bm_course.specs.Refusals.{stopped_as}
use Rattle.bm_course.specs.declared.refusal.Stop.{Stop}
use Rattle.bm_course.specs.declared.refusal.Stop.TheVariants.{Refused as Refusing, Unread, UnwrittenFile, Unwritten, Memory}

module _ (f g : FilesSeen) (o p e : SinkSeen) (course : Course Product) (contents names : List (List ℕ)) where
  -- the whole product was written
  ends : (status : ℕ) → EndsCommand f g o p course contents names (Ok status) → Ending (together f o e) (together g p e) course contents names status
  ends status (stops s q h u) = let no : ⊥ = cc in absurd no
  ends status (writes t h w) = done t h w.0 w.1 refl w.2

  module _ (n : SinkSeen) where
    -- a reading that was stopped met a refusal
    by_reading : (s : Stop) → StopsReading f g course contents names s → Untouched f g o p → Meets (together f o e) (together g p n) course contents names (stopped_as s)
    by_reading (Refusing r) h u = refused h.0 h.1 u
    by_reading (Unread name) h u = unread name.now h.0.0 h.0.1 h.1 h.2 u refl
    by_reading (UnwrittenFile name) h u = absurd h
    by_reading Unwritten h u = absurd h
    by_reading Memory h u = elim h [
      | inl a ↦ starved (inl a) u refl
      | inr b ↦ starved (inr (b.0, to_read b.0 b.1 b.2, b.3)) u refl
    ]

    -- and so did writes that were stopped
    by_writing : (t : Product) → course contents (Gives t []) → (s : Stop) → EndsWriting f g o p names t (Err s) → Meets (together f o e) (together g p n) course contents names (stopped_as s)
    by_writing t h (Refusing r) w = absurd w
    by_writing t h (Unread name) w = absurd w
    by_writing t h (UnwrittenFile name) w = unwritten_file t w.0 h w.1 w.3 w.5 w.4 (ap cannot_write_file (sym w.2))
    by_writing t h Unwritten w = unwritten t h w.0 w.1 w.2 refl
    by_writing t h Memory w = elim w [
      | inl b ↦ starved (elim b.2 [ inl a ↦ inl a | inr a ↦ inr (b.0.name, to_write t b.0 h b.1, a) ]) b.3 refl
      | inr b ↦ starved_writing t h b.0 b.1 refl
    ]

    stopped : (s : Stop) → EndsCommand f g o p course contents names (Err s) → Meets (together f o e) (together g p n) course contents names (stopped_as s)
    stopped s (stops t q h u) = let same : t ≡ s = cc in subst (λ x. Meets (together f o e) (together g p n) course contents names (stopped_as x)) same (by_reading t h u)
    stopped s (writes t h w) = by_writing t h s w

-- a command that ends with its status ends the call
pub Goes-done : (f g : FilesSeen) (o p e : SinkSeen) (course : Course Product) (status : ℕ) → Concludes f g o p course (Ok status) → Goes (together f o e) (together g p e) course status
Goes-done f g o p e course status h = record {
  contents = h.contents;
  names = h.names;
  reading = h.reading;
  ending = ends f g o p e course h.contents h.names status h.ends;
  later = record { files = h.later; out = h.out_later; err = omega arith };
}

later_of : {e n : SinkSeen} {r : Refused} {status : ℕ} → ReportedOrStarved e n r status → e.faults ≤ n.faults
later_of (inl k) = k.later
later_of (inr k) = k.1.later

-- one that is stopped is reported
pub Goes-stopped : (f g : FilesSeen) (o p e n : SinkSeen) (course : Course Product) (stop : Stop) (status : ℕ) → Concludes f g o p course (Err stop) → ReportedOrStarved e n (stopped_as stop) status
    → Goes (together f o e) (together g p n) course status
Goes-stopped f g o p e n course stop status h k = record {
  contents = h.contents;
  names = h.names;
  reading = h.reading;
  ending = told (stopped_as stop) (stopped f g o p e course h.contents h.names n stop h.ends) k;
  later = record { files = h.later; out = h.out_later; err = later_of k };
}
