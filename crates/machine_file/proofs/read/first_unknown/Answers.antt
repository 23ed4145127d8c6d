use Rattle.std.proofs.Common.{◌≡◌, ◌∷◌, false, true, map, string_bytes, ap, sym, ◌∙◌}
use Rattle.std.specs.List.Sorted.{IsStrictlySortedBy}
use Rattle.std.specs.Map.Iter.{deref}
use Rattle.std.specs.String.{string_cmp}
use Rattle.std.proofs.lemmas.Map.Iter.{rest_more, rest_all}
use Rattle.machine_file.specs.Keys as keys
use Rattle.machine_file.proofs.KeyFacts.{keys_view, unknown_here, known_here, sorted_rest, unknown_none}
use Rattle.machine_file.proofs.read.first_unknown.Goals as goal

pub loop-key-init : goal.loop-key-init
loop-key-init c =
    let all = c.into_iter-key-iterator.ensures.into_iter_gives ∙ c.keys-key-items.ensures.rest in
    rw all (ap (keys.first_unknown (map (λ k. k.now) c.args.known.now)) (keys_view c.args.table.now.entries), c.keys-key-items.ensures.ordered)

pub returns-then-not-is_among : goal.returns-then-not-is_among
returns-then-not-is_among c =
    let known = map (λ k. k.now) c.args.known.now in
    let more = rest_more deref c.loop-key.key-iterator c.next.new.self c.next.result c.in-Some.key c.in-Some.is c.next.ensures.steps in
    let sorted : IsStrictlySortedBy string_cmp (c.in-Some.key.now ∷ c.next.new.self) = rw (← more) c.loop-key.invariant.1 in
    let unknown : keys.is_among known (string_bytes c.in-Some.key.now) ≡ false = rw (← c.as_str.ensures.value) (sym c.is_among.ensures ∙ c.if-not-is_among.true) in
    let here = unknown_here known c.in-Some.key.now c.next.new.self unknown sorted in
    rw c.as_str-then-not-is_among.ensures.value (sym (c.loop-key.invariant.0 ∙ rw more here))

pub loop-key-preserved : goal.loop-key-preserved
loop-key-preserved c =
    let known = map (λ k. k.now) c.args.known.now in
    let more = rest_more deref c.loop-key.key-iterator c.next.new.self c.next.result c.in-Some.key c.in-Some.is c.next.ensures.steps in
    let sorted : IsStrictlySortedBy string_cmp (c.in-Some.key.now ∷ c.next.new.self) = rw (← more) c.loop-key.invariant.1 in
    let among : keys.is_among known (string_bytes c.in-Some.key.now) ≡ true = rw (← c.as_str.ensures.value) (sym c.is_among.ensures ∙ c.if-not-is_among.false) in
    let here = known_here known (string_bytes c.in-Some.key.now) (map string_bytes c.next.new.self) among in
    (c.loop-key.invariant.0 ∙ rw more here, sorted_rest c.in-Some.key.now c.next.new.self sorted)

pub returns : goal.returns
returns c =
    let known = map (λ k. k.now) c.args.known.now in
    let all = rest_all deref c.loop-key.key-iterator c.next.new.self c.next.result c.in-None.is c.next.ensures.steps in
    sym (c.loop-key.invariant.0 ∙ rw all (unknown_none known))
