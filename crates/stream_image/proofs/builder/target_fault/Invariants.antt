use Rattle.std.proofs.Common.{◌≡◌, drop, map, length}
use Rattle.stream_image.specs.Refused.{target_from}
use Rattle.stream_image.proofs.builder.target_fault.Given as goal

abbrev pub invariant-loop-number : goal.invariant-loop-number
invariant-loop-number l = target_from (length (map (λ h. h.block) l.held)) l.number (map (λ h. h.block) (drop l.number l.held)) ≡ target_from (length (map (λ h. h.block) l.held)) 0 (map (λ h. h.block) l.held)
