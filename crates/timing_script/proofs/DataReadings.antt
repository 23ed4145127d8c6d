-- What is read is what the file says, and what is refused is its first fault.
use Rattle.std.proofs.Common.{◌≡◌, ℕ, ◌<◌, refl, sym, ap, subst, ◌∙◌, arith, Bool, true, false, List, [], ◌∷◌, ◌++◌, length, get_or, Option, Some, None, Result, Ok, Err, append_assoc, append-nil, ◌⊎◌, inl, inr}
use Rattle.std.specs.Prelude.{slice_get, slice_set, IfOk, IfErr, MatchResult}
use Rattle.std.specs.Str.{bytes_eq}
use Rattle.std.proofs.lemmas.Slice.Eq.{bytes_eq-Decides}
use Rattle.std.proofs.lemmas.List.{get_or-set_same, get_or-set_other, length-set, get_or-replicate, length-replicate}
use Rattle.std.proofs.lemmas.Option.{slice_get_within}
use Rattle.bm_base.specs.Entry.{Entry}
use Rattle.bm_base.specs.Memory.{Content}
use Rattle.bm_base.specs.Names.{AreNames}
use Rattle.bm_base.proofs.StrictTexts.{some_same}
use Rattle.timing_script.specs.Rows.{TextRow, rows_of}
use Rattle.timing_script.specs.declared.fault.DataFault.{DataFault}
use Rattle.timing_script.specs.declared.fault.DataFault.TheVariants.{Memory}
use Rattle.timing_script.specs.Data.{Gift, is_of, first_line, Stands, StandAll, memory_of, IsDataOf, IsWrong, IsFirstFault}
use Rattle.timing_script.specs.DataLaws.{Answer, gives, wrong}
use Rattle.timing_script.specs.DataReading.{State, start, reading_from, reading, Reads}
use Rattle.timing_script.proofs.Gifts.{gift_of-only}
use Rattle.timing_script.proofs.Laid.{laid_gift, laid_where, all_laid, all_laid-is, first_line-here, first_line-other, is_of-gives, is_of-other, own_place, other_place}
use Rattle.timing_script.proofs.Outcome.{Landed, Says, outcome, says, stands_outcome, wrong_outcome, Firsts, next_state, goes_on, taken_is}

ok_same : {A E : Type 0} {x y : A} → ◌≡◌ {A = Result A E} (Ok x) (Ok y) → x ≡ y
ok_same e = cc

err_same : {A E : Type 0} {x y : E} → ◌≡◌ {A = Result A E} (Err x) (Err y) → x ≡ y
err_same e = cc

no_ok : {A E : Type 0} {e : E} {x : A} → ◌≡◌ {A = Result A E} (Err e) (Ok x) → ⊥
no_ok h = cc

module _ (names : List Entry) (lawful : AreNames names) where
  -- ---- the lines of names, with one row more

  module _ (before : List TextRow) (row : TextRow) (gift : Gift) (s : Stands names before row gift) (firsts : List (Option ℕ)) (f : Firsts names before firsts) where
    first_at : (id : ℕ) (entry : Entry) → slice_get names id ≡ Some entry → (t : Bool) → bytes_eq entry.name gift.name ≡ t
        → get_or (slice_set firsts s.declared.id (Some row.line)) id None ≡ first_line entry.name (before ++ row ∷ [])
    first_at id entry here true h =
        let same : entry.name ≡ gift.name = (bytes_eq-Decides entry.name gift.name).0 h in
        let place : s.declared.id ≡ id = own_place names lawful id entry s.entry gift.name s.declared here h in
        let within : id < length firsts = omega (arith, slice_get_within names id entry here, f.0) in
        let fresh : first_line entry.name before ≡ None = ap (λ n. first_line n before) same ∙ s.fresh in
        let mine : is_of entry.name row.fields ≡ true = ap (λ n. is_of n row.fields) same ∙ is_of-gives row.fields gift s.gives in
        ap (λ j. get_or (slice_set firsts j (Some row.line)) id None) place
        ∙ get_or-set_same firsts id (Some row.line) None within
        ∙ sym (first_line-here entry.name before row fresh mine)
    first_at id entry here false h =
        get_or-set_other firsts s.declared.id id (Some row.line) None (other_place names lawful id entry s.entry gift.name s.declared here h)
        ∙ f.1 id entry here
        ∙ sym (first_line-other entry.name before row (is_of-other row.fields gift entry.name s.gives h))

    firsts-more : Firsts names (before ++ row ∷ []) (slice_set firsts s.declared.id (Some row.line))
    firsts-more = (length-set firsts s.declared.id (Some row.line) ∙ f.0, λ id entry here. first_at id entry here (bytes_eq entry.name gift.name) refl)

  -- the state behind a row that stands
  step : (before : List TextRow) (row : TextRow) (l : Landed) → Says names before row (Ok l) → (state : State) → Firsts names before state.firsts
      → Firsts names (before ++ row ∷ []) (next_state state row.line l).firsts × ((next_state state row.line l).memory ≡ laid_gift names state.memory l.gift)
  step before row l says state f =
      let place : says.0.declared.id ≡ l.id = some_same (sym says.0.declared.place ∙ says.1) in (
        subst (λ j. Firsts names (before ++ row ∷ []) (slice_set state.firsts j (Some row.line))) place (firsts-more before row l.gift says.0 state.firsts f),
        sym (ap (laid_where state.memory l.gift) says.1),
      )

  -- ---- rows

  abbrev behind : List TextRow → Result State DataFault → Result (List Content) DataFault
  behind rs (Err fault) = Err fault
  behind rs (Ok next) = reading_from names next rs

  one_row : (before : List TextRow) (state : State) (r : TextRow) (rs : List TextRow) → Firsts names before state.firsts → reading_from names state (r ∷ rs) ≡ behind rs (goes_on state r.line (outcome names before r))
  one_row before state r rs f = ap (behind rs) (taken_is names before state r f)

  reading-found : (before : List TextRow) (state : State) (rows : List TextRow) (out : List Content) → Firsts names before state.firsts → reading_from names state rows ≡ Ok out
      → (gifts : List Gift) × (StandAll names before rows gifts × (out ≡ all_laid names state.memory gifts))
  reading-found before state [] out f e = ([], (tt, sym (ok_same e)))
  reading-found before state (r ∷ rs) out f e =
      by (outcome names before r) (says names before r) (sym (one_row before state r rs f) ∙ e) (λ next g k. reading-found (before ++ r ∷ []) next rs out g k)
    where
      by : (o : Result Landed DataFault) → Says names before r o → behind rs (goes_on state r.line o) ≡ Ok out
          → ((next : State) → Firsts names (before ++ r ∷ []) next.firsts → reading_from names next rs ≡ Ok out → (gifts : List Gift) × (StandAll names (before ++ r ∷ []) rs gifts × (out ≡ all_laid names next.memory gifts)))
          → (gifts : List Gift) × (StandAll names before (r ∷ rs) gifts × (out ≡ all_laid names state.memory gifts))
      by (Err fault) said h more = absurd (no_ok h)
      by (Ok l) said h more =
          let k = step before r l said state f in
          let m = more (next_state state r.line l) k.0 h in
          (l.gift ∷ m.0, ((said.0, m.1.0), m.1.1 ∙ ap (λ x. all_laid names x m.0) k.1))

  -- the first row that is not taken
  record Refused (before rows : List TextRow) (fault : DataFault) : Type 0 where
    pub front : List TextRow
    pub row : TextRow
    pub further : List TextRow
    pub gifts : List Gift
    pub rows_are : rows ≡ front ++ row ∷ further
    pub lawful_rows : StandAll names before front gifts
    pub wrong : IsWrong names (before ++ front) row fault

  reading-refused : (before : List TextRow) (state : State) (rows : List TextRow) (fault : DataFault) → Firsts names before state.firsts → reading_from names state rows ≡ Err fault → Refused before rows fault
  reading-refused before state [] fault f e = cc
  reading-refused before state (r ∷ rs) fault f e =
      by (outcome names before r) (says names before r) (sym (one_row before state r rs f) ∙ e) (λ next g k. reading-refused (before ++ r ∷ []) next rs fault g k)
    where
      by : (o : Result Landed DataFault) → Says names before r o → behind rs (goes_on state r.line o) ≡ Err fault
          → ((next : State) → Firsts names (before ++ r ∷ []) next.firsts → reading_from names next rs ≡ Err fault → Refused (before ++ r ∷ []) rs fault)
          → Refused before (r ∷ rs) fault
      by (Err other) said h more = record {
        front = [];
        row = r;
        further = rs;
        gifts = [];
        rows_are = refl;
        lawful_rows = tt;
        wrong = subst (λ b. IsWrong names b r fault) (sym (append-nil before)) (subst (IsWrong names before r) (err_same h) said);
      }
      by (Ok l) said h more =
          let k = step before r l said state f in
          let m = more (next_state state r.line l) k.0 h in
          record {
            front = r ∷ m.front;
            row = m.row;
            further = m.further;
            gifts = l.gift ∷ m.gifts;
            rows_are = ap (λ x. r ∷ x) m.rows_are;
            lawful_rows = (said.0, m.lawful_rows);
            wrong = subst (λ b. IsWrong names b m.row fault) (append_assoc before (r ∷ []) m.front) m.wrong;
          }

  -- ---- one answer

  gifts_same : (before rows : List TextRow) (g h : List Gift) → StandAll names before rows g → StandAll names before rows h → g ≡ h
  gifts_same before [] [] [] s t = refl
  gifts_same before [] [] (y ∷ h) s t = absurd t
  gifts_same before [] (x ∷ g) h s t = absurd s
  gifts_same before (r ∷ rs) [] h s t = absurd s
  gifts_same before (r ∷ rs) (x ∷ g) [] s t = absurd t
  gifts_same before (r ∷ rs) (x ∷ g) (y ∷ h) s t =
      let one : x ≡ y = some_same (sym (gift_of-only r.fields x s.0.gives) ∙ gift_of-only r.fields y t.0.gives) in
      let more : g ≡ h = gifts_same (before ++ r ∷ []) rs g h s.1 t.1 in
      λ i. one i ∷ more i

  -- a row that stands has no fault
  clash : (before : List TextRow) (row : TextRow) (gift : Gift) (fault : DataFault) → Stands names before row gift → IsWrong names before row fault → ⊥
  clash before row gift fault s w = no_ok (sym (wrong_outcome names before row fault w) ∙ stands_outcome names before row gift s)

  regrouped : (before : List TextRow) (r : TextRow) (front : List TextRow) (row : TextRow) (fault : DataFault) → IsWrong names (before ++ r ∷ front) row fault → IsWrong names ((before ++ r ∷ []) ++ front) row fault
  regrouped before r front row fault w = subst (λ b. IsWrong names b row fault) (sym (append_assoc before (r ∷ []) front)) w

  shown : (before : List TextRow) (row : TextRow) (fault : DataFault) → IsWrong names (before ++ []) row fault → IsWrong names before row fault
  shown before row fault w = subst (λ b. IsWrong names b row fault) (append-nil before) w

  faults_same : (before f g : List TextRow) (r s : TextRow) (x y : List TextRow) (gs hs : List Gift) (a b : DataFault) → f ++ r ∷ x ≡ g ++ s ∷ y
      → StandAll names before f gs → IsWrong names (before ++ f) r a → StandAll names before g hs → IsWrong names (before ++ g) s b → a ≡ b
  faults_same before [] [] r s x y gs hs a b e st w t v =
      let same : r ≡ s = cc in
      err_same (sym (wrong_outcome names before s a (subst (λ z. IsWrong names before z a) same (shown before r a w))) ∙ wrong_outcome names before s b (shown before s b v))
  faults_same before [] (z ∷ g) r s x y gs [] a b e st w t v = absurd t
  faults_same before [] (z ∷ g) r s x y gs (h ∷ hs) a b e st w t v =
      let same : z ≡ r = cc in
      absurd (clash before r h a (subst (λ q. Stands names before q h) same t.0) (shown before r a w))
  faults_same before (z ∷ f) [] r s x y [] hs a b e st w t v = absurd st
  faults_same before (z ∷ f) [] r s x y (h ∷ gs) hs a b e st w t v =
      let same : z ≡ s = cc in
      absurd (clash before s h b (subst (λ q. Stands names before q h) same st.0) (shown before s b v))
  faults_same before (z ∷ f) (q ∷ g) r s x y [] hs a b e st w t v = absurd st
  faults_same before (z ∷ f) (q ∷ g) r s x y (h ∷ gs) [] a b e st w t v = absurd t
  faults_same before (z ∷ f) (q ∷ g) r s x y (h ∷ gs) (k ∷ hs) a b e st w t v =
      let same : q ≡ z = cc in
      let rest : f ++ r ∷ x ≡ g ++ s ∷ y = cc in
      let t' = subst (λ p. StandAll names before (p ∷ g) (k ∷ hs)) same t in
      let v' = subst (λ p. IsWrong names (before ++ p ∷ g) s b) same v in
      faults_same (before ++ z ∷ []) f g r s x y gs hs a b rest st.1 (regrouped before z f r a w) t'.1 (regrouped before z g s b v')

  no_fault : (before f : List TextRow) (r : TextRow) (x : List TextRow) (gs : List Gift) (a : DataFault) → StandAll names before (f ++ r ∷ x) gs → IsWrong names (before ++ f) r a → ⊥
  no_fault before [] r x [] a st w = st
  no_fault before [] r x (g ∷ gs) a st w = clash before r g a st.0 (shown before r a w)
  no_fault before (z ∷ f) r x [] a st w = st
  no_fault before (z ∷ f) r x (g ∷ gs) a st w = no_fault (before ++ z ∷ []) f r x gs a st.1 (regrouped before z f r a w)

  pub one_memory : (bytes : List ℕ) (m n : List Content) → IsDataOf names bytes m → IsDataOf names bytes n → m ≡ n
  one_memory bytes m n h k = h.laid_over ∙ ap (memory_of names) (gifts_same [] (rows_of bytes) h.gifts k.gifts h.rows k.rows) ∙ sym k.laid_over

  pub one_fault : (bytes : List ℕ) (a b : DataFault) → IsFirstFault names bytes a → IsFirstFault names bytes b → a ≡ b
  one_fault bytes a b h k = faults_same [] h.before k.before h.row k.row h.behind k.behind h.gifts k.gifts a b (sym h.rows ∙ k.rows) h.lawful h.wrong k.lawful k.wrong

  pub not_both : (bytes : List ℕ) (m : List Content) (a : DataFault) → IsDataOf names bytes m → IsFirstFault names bytes a → ⊥
  not_both bytes m a h k = no_fault [] k.before k.row k.behind h.gifts a (subst (λ r. StandAll names [] r h.gifts) k.rows h.rows) k.wrong

  -- ---- a whole file

  start_firsts : Firsts names [] (start names).firsts
  start_firsts = (length-replicate {A = Option ℕ} (length names) None, λ id entry here. get_or-replicate {A = Option ℕ} (length names) id None None (slice_get_within names id entry here))

  pub reading_found : (bytes : List ℕ) (out : List Content) → reading names bytes ≡ Ok out → IsDataOf names bytes out
  reading_found bytes out e =
      let k = reading-found [] (start names) (rows_of bytes) out start_firsts e in
      record { gifts = k.0; rows = k.1.0; laid_over = k.1.1 ∙ all_laid-is names lawful (rows_of bytes) k.0 k.1.0 }

  pub reading_wrong : (bytes : List ℕ) (fault : DataFault) → reading names bytes ≡ Err fault → IsFirstFault names bytes fault
  reading_wrong bytes fault e =
      let k = reading-refused [] (start names) (rows_of bytes) fault start_firsts e in
      record { before = k.front; row = k.row; behind = k.further; gifts = k.gifts; rows = k.rows_are; lawful = k.lawful_rows; wrong = k.wrong }

  -- ---- what an answer comes to

  pub found : (bytes : List ℕ) (r : Result (List Content) DataFault) → Reads (reading names bytes) r → IfOk r (λ m. IsDataOf names bytes m)
  found bytes (Ok m) h = reading_found bytes m h
  found bytes (Err e) h = tt

  pub only : (bytes : List ℕ) (r : Result (List Content) DataFault) → Reads (reading names bytes) r → (m : List Content) → IsDataOf names bytes m → MatchResult r (λ n. n ≡ m) (λ e. e ≡ Memory)
  only bytes (Ok n) h m d = one_memory bytes n m (reading_found bytes n h) d
  only bytes (Err e) (inl h) m d = absurd (not_both bytes m e d (reading_wrong bytes e h))
  only bytes (Err e) (inr h) m d = h

  pub fault : (bytes : List ℕ) (r : Result (List Content) DataFault) → Reads (reading names bytes) r → IfErr r (λ e. IsFirstFault names bytes e ⊎ (e ≡ Memory))
  fault bytes (Ok m) h = tt
  fault bytes (Err e) (inl h) = inl (reading_wrong bytes e h)
  fault bytes (Err e) (inr h) = inr h

  pub only_fault : (bytes : List ℕ) (r : Result (List Content) DataFault) → Reads (reading names bytes) r → (f : DataFault) → IsFirstFault names bytes f → MatchResult r (λ _. ⊥) (λ e. (e ≡ f) ⊎ (e ≡ Memory))
  only_fault bytes (Ok m) h f w = not_both bytes m f (reading_found bytes m h) w
  only_fault bytes (Err e) (inl h) f w = inl (one_fault bytes e f (reading_wrong bytes e h) w)
  only_fault bytes (Err e) (inr h) f w = inr h

  pub some_answer : (bytes : List ℕ) → Answer names bytes
  some_answer bytes = by (reading names bytes) refl
    where
      by : (r : Result (List Content) DataFault) → reading names bytes ≡ r → Answer names bytes
      by (Ok m) e = gives m (reading_found bytes m e)
      by (Err f) e = wrong f (reading_wrong bytes f e)
