-- The statuses of a call, and why it has them.
use Rattle.std.proofs.Common.{◌≡◌, ◌⊎◌, ℕ, List, [], ◌∷◌, Some, refl, sym, ap, subst, ◌∙◌, inl, inr, arith}
use Rattle.bm_io.specs.Causes.{Rose}
use Rattle.bm_io.specs.Files.{asking}
use Rattle.bm_io.proofs.Asking.{asking-nothing}
use Rattle.bm_course.specs.Status.{Kind, Ended, OfWords, OfContent, OfRead, OfWrite, OfMemory, Is, kind_of, HasEnded, IsRefusal, IsStatus}
use Rattle.bm_course.specs.Course.{Refused, Product, Course, refuse, IsReading}
use Rattle.bm_course.specs.Lines.{no_memory}
use Rattle.bm_course.specs.Laws.{Bounds}
use Rattle.bm_course.specs.Seen.{Seen}
use Rattle.bm_course.specs.Goes.{TakesLine, IsLong, WritesOnce, Told, whole, part, nothing, to_read, to_write, Meets, refused, unread, unwritten_file, unwritten, starved, starved_writing, Ending, done, told, Goes}
use Rattle.bm_course.specs.Clauses.{HasWritten, IsRefused, IsUnread, IsUnwritten, IsStarved, Reports, StopsAtOnce}

-- how a call went, by its status
pub data Outcome (before now : Seen) (course : Course Product) (status : ℕ) : Type 0 where
  was_written : HasWritten before now course status → Outcome before now course status
  was_refused : IsRefused before now course status → Outcome before now course status
  was_unread : IsUnread before now course → status ≡ 9 → Outcome before now course status
  was_unwritten : IsUnwritten before now course → status ≡ 10 → Outcome before now course status
  was_starved : IsStarved before now course → status ≡ 11 → Outcome before now course status

module _ (before now : Seen) (course : Course Product) (status : ℕ) where
  module _ (contents names : List (List ℕ)) (reading : IsReading before.files.held course contents names) (r : Refused) where
    -- a refusal whose whole line was taken
    by_whole : Meets before now course contents names r → status ≡ r.status → TakesLine before.err.taken now.err.taken r.line → Outcome before now course status
    by_whole (refused e a o) q t =
        was_refused (record { contents = contents; names = names; reading = reading; refusal = r; refuses = e; asked = a; rests = o; err = t; status_is = q })
    by_whole (unread name most e a f o k) q t =
        was_unread
        (record {
          contents = contents;
          names = names;
          reading = reading;
          name = name;
          most = most;
          asks = e;
          asked = a;
          rose = f;
          rests = o;
          err = subst (λ x. TakesLine before.err.taken now.err.taken x.line) k t;
        })
        (q ∙ ap (λ x. x.status) k)
    by_whole (unwritten_file p file g e a f o k) q t =
        let s : r.status ≡ 10 = ap (λ x. x.status) k in
        was_unwritten (record { contents = contents; names = names; reading = reading; refusal = r; meets = unwritten_file p file g e a f o k; err = inl (s, t) }) (q ∙ s)
    by_whole (unwritten p g h a f k) q t =
        let s : r.status ≡ 10 = ap (λ x. x.status) k in
        was_unwritten (record { contents = contents; names = names; reading = reading; refusal = r; meets = unwritten p g h a f k; err = inl (s, t) }) (q ∙ s)
    by_whole (starved a o k) q t =
        let s : r.status ≡ 11 = ap (λ x. x.status) k in
        was_starved (record { contents = contents; names = names; reading = reading; refusal = r; meets = starved a o k; err = inl (inl k, subst (λ x. TakesLine before.err.taken now.err.taken x.line) k t) }) (q ∙ s)
    by_whole (starved_writing p g h a k) q t =
        let s : r.status ≡ 11 = ap (λ x. x.status) k in
        was_starved (record { contents = contents; names = names; reading = reading; refusal = r; meets = starved_writing p g h a k; err = inl (inl k, subst (λ x. TakesLine before.err.taken now.err.taken x.line) k t) }) (q ∙ s)

    by_report : Meets before now course contents names r → Told before.err now.err r status → Outcome before now course status
    by_report m (whole t q) = by_whole m q t
    by_report m (part t f q) = was_unwritten (record { contents = contents; names = names; reading = reading; refusal = r; meets = m; err = inr (inl (t, f)) }) q
    by_report m (nothing t q) = was_starved (record { contents = contents; names = names; reading = reading; refusal = r; meets = m; err = inr t }) q

    -- want of memory for its line was told in its place
    by_starving : Meets before now course contents names r → IsLong r.line → Told before.err now.err no_memory status → Outcome before now course status
    by_starving m l (whole t q) = was_starved (record { contents = contents; names = names; reading = reading; refusal = r; meets = m; err = inl (inr l, t) }) q
    by_starving m l (part t f q) = was_unwritten (record { contents = contents; names = names; reading = reading; refusal = r; meets = m; err = inr (inr (l, t, f)) }) q
    by_starving m l (nothing t q) = was_starved (record { contents = contents; names = names; reading = reading; refusal = r; meets = m; err = inr t }) q

    by_either : Meets before now course contents names r → Reports before now r status → Outcome before now course status
    by_either m (inl k) = by_report m k.line
    by_either m (inr k) = by_starving m k.0 k.1.line

  by_ending : (contents names : List (List ℕ)) → IsReading before.files.held course contents names → Ending before now course contents names status → Outcome before now course status
  by_ending contents names reading (done p g s t n k) =
      was_written (record { contents = contents; names = names; reading = reading; product = p; gives = g; files = s; out = t; err = n; status_is = k })
  by_ending contents names reading (told r m k) = by_either contents names reading r m k

  pub outcome : Goes before now course status → Outcome before now course status
  outcome h = by_ending h.contents h.names h.reading h.ending

-- a status stands for one thing
module _ (status : ℕ) where
  of_read : status ≡ 9 → Is OfRead status
  of_read e = ap kind_of e

  of_write : status ≡ 10 → Is OfWrite status
  of_write e = ap kind_of e

  of_memory : status ≡ 11 → Is OfMemory status
  of_memory e = ap kind_of e

  one_kind : (k l : Kind) → Is k status → Is l status → k ≡ l
  one_kind k l h i = let e : Some k ≡ Some l = sym h ∙ i in cc

  not_ended : (l : Kind) → (Ended ≡ l → ⊥) → HasEnded status → Is l status → ⊥
  not_ended l n h i = n (one_kind Ended l h i)

  not_refused : (l : Kind) → (OfWords ≡ l → ⊥) → (OfContent ≡ l → ⊥) → IsRefusal status → Is l status → ⊥
  not_refused l n m (inl h) i = n (one_kind OfWords l h i)
  not_refused l n m (inr h) i = m (one_kind OfContent l h i)

-- the clauses of a call whose refusals and products have their statuses
module _ (before now : Seen) (course : Course Product) (status : ℕ) (b : Bounds (λ r. IsRefusal r.status) (λ p. HasEnded p.text.status) course) where
  refusal_status : IsRefused before now course status → IsRefusal status
  refusal_status r = subst IsRefusal (sym r.status_is) (b.refuses r.contents r.refusal r.refuses)

  product_status : HasWritten before now course status → HasEnded status
  product_status w = subst HasEnded (sym w.status_is) (b.gives w.contents [] w.product w.gives)

  ended_refused : HasEnded status → IsRefusal status → ⊥
  ended_refused h i = not_refused status Ended (λ e. cc) (λ e. cc) i h

  ended_other : (l : Kind) → (Ended ≡ l → ⊥) → Is l status → HasEnded status → ⊥
  ended_other l n i h = not_ended status l n h i

  refused_other : (l : Kind) → (OfWords ≡ l → ⊥) → (OfContent ≡ l → ⊥) → Is l status → IsRefusal status → ⊥
  refused_other l n m i h = not_refused status l n m h i

  pub ended_only : Outcome before now course status → HasEnded status → HasWritten before now course status
  ended_only (was_written w) h = w
  ended_only (was_refused r) h = absurd (ended_refused h (refusal_status r))
  ended_only (was_unread u e) h = absurd (ended_other OfRead (λ x. cc) (of_read status e) h)
  ended_only (was_unwritten u e) h = absurd (ended_other OfWrite (λ x. cc) (of_write status e) h)
  ended_only (was_starved u e) h = absurd (ended_other OfMemory (λ x. cc) (of_memory status e) h)

  pub refused_only : Outcome before now course status → IsRefusal status → IsRefused before now course status
  refused_only (was_written w) h = absurd (ended_refused (product_status w) h)
  refused_only (was_refused r) h = r
  refused_only (was_unread u e) h = absurd (refused_other OfRead (λ x. cc) (λ x. cc) (of_read status e) h)
  refused_only (was_unwritten u e) h = absurd (refused_other OfWrite (λ x. cc) (λ x. cc) (of_write status e) h)
  refused_only (was_starved u e) h = absurd (refused_other OfMemory (λ x. cc) (λ x. cc) (of_memory status e) h)

  pub unread_only : Outcome before now course status → status ≡ 9 → IsUnread before now course
  unread_only (was_written w) h = absurd (ended_other OfRead (λ x. cc) (of_read status h) (product_status w))
  unread_only (was_refused r) h = absurd (refused_other OfRead (λ x. cc) (λ x. cc) (of_read status h) (refusal_status r))
  unread_only (was_unread u e) h = u
  unread_only (was_unwritten u e) h = absurd (omega arith)
  unread_only (was_starved u e) h = absurd (omega arith)

  pub unwritten_only : Outcome before now course status → status ≡ 10 → IsUnwritten before now course
  unwritten_only (was_written w) h = absurd (ended_other OfWrite (λ x. cc) (of_write status h) (product_status w))
  unwritten_only (was_refused r) h = absurd (refused_other OfWrite (λ x. cc) (λ x. cc) (of_write status h) (refusal_status r))
  unwritten_only (was_unread u e) h = absurd (omega arith)
  unwritten_only (was_unwritten u e) h = u
  unwritten_only (was_starved u e) h = absurd (omega arith)

  pub starved_only : Outcome before now course status → status ≡ 11 → IsStarved before now course
  starved_only (was_written w) h = absurd (ended_other OfMemory (λ x. cc) (of_memory status h) (product_status w))
  starved_only (was_refused r) h = absurd (refused_other OfMemory (λ x. cc) (λ x. cc) (of_memory status h) (refusal_status r))
  starved_only (was_unread u e) h = absurd (omega arith)
  starved_only (was_unwritten u e) h = absurd (omega arith)
  starved_only (was_starved u e) h = u

  pub some_status : Outcome before now course status → IsStatus status
  some_status (was_written w) = (Ended, product_status w)
  some_status (was_refused r) = elim (refusal_status r) [ inl h ↦ (OfWords, h) | inr h ↦ (OfContent, h) ]
  some_status (was_unread u e) = (OfRead, of_read status e)
  some_status (was_unwritten u e) = (OfWrite, of_write status e)
  some_status (was_starved u e) = (OfMemory, of_memory status e)

  -- one line was sent to the errors
  line_once : (r : Refused) → Told before.err now.err r status → WritesOnce before.err.taken now.err.taken
  line_once r (whole t q) = ap (λ x. x.writes) t
  line_once r (part t f q) = ap (λ x. x.writes) t.taken
  line_once r (nothing t q) = ap (λ x. x.writes) t

  sent_once : (contents names : List (List ℕ)) → Ending before now course contents names status → (HasEnded status → ⊥) → WritesOnce before.err.taken now.err.taken
  sent_once contents names (done p g s t n k) h = absurd (h (subst HasEnded (sym k) (b.gives contents [] p g)))
  sent_once contents names (told r m (inl k)) h = line_once r k.line
  sent_once contents names (told r m (inr k)) h = line_once no_memory k.1.line

  pub tells : Goes before now course status → (HasEnded status → ⊥) → WritesOnce before.err.taken now.err.taken
  tells g = sent_once g.contents g.names g.ending

  module _ (files : Rose before.files.faults now.files.faults → ⊥) (out : Rose before.out.faults now.out.faults → ⊥) (err : Rose before.err.faults now.err.faults → ⊥) where
    -- a write that failed shows in a count
    shows : (contents names : List (List ℕ)) (r : Refused) → Meets before now course contents names r → r.status ≡ 10 → ⊥
    shows contents names r (refused e a o) s = not_refused r.status OfWrite (λ x. cc) (λ x. cc) (b.refuses contents r e) (of_write r.status s)
    shows contents names r (unread name most e a f o k) s = files f
    shows contents names r (unwritten_file p file g e a f o k) s = files f
    shows contents names r (unwritten p g h a f k) s = out f
    shows contents names r (starved a o k) s = let e : r.status ≡ 11 = ap (λ x. x.status) k in omega arith
    shows contents names r (starved_writing p g h a k) s = let e : r.status ≡ 11 = ap (λ x. x.status) k in omega arith

    pub faultless : Outcome before now course status
        → (HasEnded status × HasWritten before now course status) ⊎ (IsRefusal status × IsRefused before now course status) ⊎ (status ≡ 11)
    faultless (was_written w) = inl (product_status w, w)
    faultless (was_refused r) = inr (inl (refusal_status r, r))
    faultless (was_unread u k) = absurd (files u.rose)
    faultless (was_unwritten u k) = elim u.err [ inl x ↦ absurd (shows u.contents u.names u.refusal u.meets x.0) | inr x ↦ elim x [ inl y ↦ absurd (err y.1) | inr y ↦ absurd (err y.2) ] ]
    faultless (was_starved u k) = inr (inr k)

-- words that are refused at once
module _ (before now : Seen) (q : Refused) (status : ℕ) where
  no_names : (contents names : List (List ℕ)) → IsReading before.files.held (refuse {A = Product} q) contents names → names ≡ []
  no_names [] [] h = refl
  no_names (c ∷ cs) (n ∷ ns) h = let e = h.1 in let no : ⊥ = cc in absurd no
  no_names [] (n ∷ ns) h = absurd h
  no_names (c ∷ cs) [] h = absurd h

  abbrev Once : Type 0
  Once = StopsAtOnce before now q status ⊎ StopsAtOnce before now no_memory status

  once : (contents names : List (List ℕ)) → names ≡ [] → (r : Refused) → Meets before now (refuse q) contents names r → Reports before now r status → Once
  once contents names n r (refused e a o) k =
      let same : r ≡ q = cc in
      inl (record {
        asked = a ∙ ap (asking before.files.asked) n ∙ asking-nothing before.files.asked;
        rests = o;
        reported = subst (λ x. Reports before now x status) same k;
      })
  once contents names n r (unread name most e a f o x) k = let no : ⊥ = cc in absurd no
  once contents names n r (unwritten_file p file g e a f o x) k = let no : ⊥ = cc in absurd no
  once contents names n r (unwritten p g h a f x) k = let no : ⊥ = cc in absurd no
  once contents names n r (starved (inl a) o x) k =
      inr (record {
        asked = a ∙ ap (asking before.files.asked) n ∙ asking-nothing before.files.asked;
        rests = o;
        reported = subst (λ x. Reports before now x status) x k;
      })
  once contents names n r (starved (inr b) o x) k = elim b.1 [
    | to_read name most e ↦ let no : ⊥ = cc in absurd no
    | to_write p file g e ↦ let no : ⊥ = cc in absurd no
  ]
  once contents names n r (starved_writing p g h a x) k = let no : ⊥ = cc in absurd no

  pub refused_at_once : Goes before now (refuse q) status → Once
  refused_at_once h = elim h.ending [
    | done p g s t n k ↦ let no : ⊥ = cc in absurd no
    | told r m k ↦ once h.contents h.names (no_names h.contents h.names h.reading) r m k
  ]
