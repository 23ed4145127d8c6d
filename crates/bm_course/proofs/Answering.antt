-- All that is said of a call, from how it goes: its course comes to one step, and its refusals and products have their statuses.
use Rattle.std.proofs.Common.{ℕ}
use Rattle.bm_course.specs.Status.{HasEnded, IsRefusal}
use Rattle.bm_course.specs.Course.{Product, Course}
use Rattle.bm_course.specs.Laws.{IsDetermined, Bounds}
use Rattle.bm_course.specs.Seen.{Seen}
use Rattle.bm_course.specs.Goes.{Goes}
use Rattle.bm_course.specs.Answers.{Answers}
use Rattle.bm_course.proofs.Settling.{settles_refusal, settles_product}
use Rattle.bm_course.proofs.Statuses.{Outcome, outcome, ended_only, refused_only, unread_only, unwritten_only, starved_only, some_status, tells, faultless}

module _ (before now : Seen) (course : Course Product) (status : ℕ) (d : IsDetermined course) (b : Bounds (λ r. IsRefusal r.status) (λ p. HasEnded p.text.status) course) where
  pub answered : Goes before now course status → Answers before now course status
  answered g =
      let h : Outcome before now course status = outcome before now course status g in
      record {
        goes = g;
        refuses = λ held names r e l. settles_refusal held before now course d names status e r l g;
        writes = λ held names p e l. settles_product held before now course d names status e p l g;
        ended = ended_only before now course status b h;
        refused = refused_only before now course status b h;
        unread = unread_only before now course status b h;
        unwritten = unwritten_only before now course status b h;
        starved = starved_only before now course status b h;
        status_is = some_status before now course status b h;
        tells = tells before now course status b g;
        faultless = λ files out err. faultless before now course status b files out err h;
      }
