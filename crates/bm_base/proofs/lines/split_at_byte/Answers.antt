use Rattle.std.proofs.Common.{length-drop, ◌≡◌, ◌<◌, ◌≤◌, ◌+◌, ◌∙◌, sym, arith, length, ap, take, drop, ℕ, true, false}
use Rattle.std.specs.Prelude.{nat_lt}
use Rattle.std.proofs.lemmas.Bool.Decides.{nat_tests}
use Rattle.bm_base.specs.Lines.{front_of, behind_of}
use Rattle.std.proofs.Math.Seq.{take_all}
use Rattle.bm_base.proofs.LineTexts.{place-some, place-none, take-front, take-none, has_byte-length, drop-front, no_byte-behind}
use Rattle.bm_base.proofs.lines.split_at_byte.Goals as goal

pub returns-in-Some-clause-front : goal.returns-in-Some-clause-front
returns-in-Some-clause-front c =
    let at = place-some c.args.byte c.in-Some.end c.args.bytes.now (sym c.place_of.ensures.place ∙ c.in-Some.is) in
    ap (λ (n : ℕ). take n c.args.bytes.now) at.0 ∙ take-front c.args.byte c.args.bytes.now

pub returns-in-Some-clause-found : goal.returns-in-Some-clause-found
returns-in-Some-clause-found c =
    let at = place-some c.args.byte c.in-Some.end c.args.bytes.now (sym c.place_of.ensures.place ∙ c.in-Some.is) in
    let l : length (front_of c.args.byte c.args.bytes.now) < length c.args.bytes.now = at.1 in
    let t : nat_lt (length (front_of c.args.byte c.args.bytes.now)) (length c.args.bytes.now) ≡ true = grind (arith, nat_tests) in
    sym (has_byte-length c.args.byte c.args.bytes.now ∙ t)

pub returns-in-Some-clause-behind : goal.returns-in-Some-clause-behind
returns-in-Some-clause-behind c =
    let at = place-some c.args.byte c.in-Some.end c.args.bytes.now (sym c.place_of.ensures.place ∙ c.in-Some.is) in
    let e : drop (c.in-Some.end + 1) c.args.bytes.now ≡ behind_of c.args.byte c.args.bytes.now = ap (λ (n : ℕ). drop (n + 1) c.args.bytes.now) at.0 ∙ drop-front c.args.byte c.args.bytes.now at.1 in
    take_all _ (drop (c.in-Some.end + 1) c.args.bytes.now) (omega (arith, length-drop {A = ℕ})) ∙ e

pub returns-in-None-clause-front : goal.returns-in-None-clause-front
returns-in-None-clause-front c =
    let all = place-none c.args.byte c.args.bytes.now (sym c.place_of.ensures.place ∙ c.in-None.is) in
    sym (take-none c.args.byte c.args.bytes.now all)

pub returns-in-None-clause-found : goal.returns-in-None-clause-found
returns-in-None-clause-found c =
    let all : length c.args.bytes.now ≤ length (front_of c.args.byte c.args.bytes.now) = place-none c.args.byte c.args.bytes.now (sym c.place_of.ensures.place ∙ c.in-None.is) in
    let t : nat_lt (length (front_of c.args.byte c.args.bytes.now)) (length c.args.bytes.now) ≡ false = grind (arith, nat_tests) in
    sym (has_byte-length c.args.byte c.args.bytes.now ∙ t)

pub returns-in-None-clause-behind : goal.returns-in-None-clause-behind
returns-in-None-clause-behind c =
    let all : length c.args.bytes.now ≤ length (front_of c.args.byte c.args.bytes.now) = place-none c.args.byte c.args.bytes.now (sym c.place_of.ensures.place ∙ c.in-None.is) in
    let t : nat_lt (length (front_of c.args.byte c.args.bytes.now)) (length c.args.bytes.now) ≡ false = grind (arith, nat_tests) in
    sym (no_byte-behind c.args.byte c.args.bytes.now (has_byte-length c.args.byte c.args.bytes.now ∙ t))
