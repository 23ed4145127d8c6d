use Rattle.std.proofs.Common.{◌≡◌, ◌<◌, ◌+◌, length, ℕ, sym, ap, ◌∙◌, Some, None, subst, arith, List, [], Option, ◌-◌, ◌^◌}
use Rattle.bm_base.specs.Lines.{LinesLeft, line_front, whole_lines, cut_line}
use Rattle.stream_file.specs.declared.draft.BlockDraft.{BlockDraft}
use Rattle.stream_file.specs.Fields.{BlockFields}
use Rattle.stream_file.specs.Draft as spec
use Rattle.stream_file.specs.Drafted.{drafted, head_drafted, with_block}
use Rattle.stream_file.specs.First.{IsFirstWrong}
use Rattle.stream_file.proofs.SoFar.{Sound}
use Rattle.stream_file.proofs.Theorems.{start_sound, reading_first}
use Rattle.stream_file.proofs.OneLine.{line_taken, line_refused, line_cut, lines_end, behind_short}
use Rattle.stream_file.proofs.BlocksRead.{line_after, still_builds, may_end, longer, read_as, read_short}
use Rattle.stream_file.proofs.reading.read.Goals as goal

pub returns-then-not-line : goal.returns-then-not-line
returns-then-not-line c =
    let e = c.in-Some.ensures.line in
    let at = c.loop-line.invariant in
    let stops = sym at.left ∙ line_cut c.loop-line.lines.count (drafted at.blocks c.loop-line.draft) c.loop-line.lines.rest (sym e.2 ∙ c.if-not-line.true) e.0 in
    subst (IsFirstWrong c.args.bytes.now) (sym e.3) (reading_first c.args.bytes.now (c.loop-line.lines.count + 1) stops)

pub loop-line-smaller : goal.loop-line-smaller
loop-line-smaller c =
    let e = c.in-Some.ensures.line in
    subst (λ (l : LinesLeft). length l.rest < length c.loop-line.lines.rest) (sym c.in-Some.ensures.rest) (behind_short 10 c.loop-line.lines.rest e.0)

pub loop-line-preserved : goal.loop-line-preserved
loop-line-preserved c =
    let e = c.in-Some.ensures.line in
    let at = c.loop-line.invariant in
    let bs : List BlockFields = at.blocks in
    let ended : Option BlockDraft = c.in-Ok.ended in
    let old : spec.Draft = drafted bs c.loop-line.draft in
    let new : spec.Draft = drafted (with_block bs ended) c.take_line.new.self in
    let taken : spec.take_line old (line_front c.loop-line.lines.rest) ≡ Some new = ap (spec.take_line old) (sym e.1) ∙ c.in-Ok.ensures bs at.builds.count in
    let left = line_taken c.loop-line.lines.count old c.loop-line.lines.rest new (sym e.2 ∙ c.if-not-line.false) taken in
    let after = line_after bs c.loop-line.draft c.take_line.new.self ended (line_front c.loop-line.lines.rest) at.sound taken in
    let counts : c.next.new.self.count ≡ c.loop-line.lines.count + 1 = ap (λ (l : LinesLeft). l.count) c.in-Some.ensures.rest in
    record {
      blocks = with_block bs ended;
      left = ap (λ (l : LinesLeft). spec.reading_from l.count new (whole_lines l.rest) (cut_line l.rest)) c.in-Some.ensures.rest ∙ left ∙ at.left;
      sound = after.sound;
      builds = c.with-built.ensures bs (still_builds bs c.loop-line.draft c.take_line.new.self ended c.loop-line.built after at.builds);
      below = omega (arith, longer bs ended, at.below, counts);
      counted = e.3 ∙ sym counts;
      few = c.in-Some.ensures.few;
    }

pub with-built-requires : goal.with-built-requires
with-built-requires c =
    let e = c.in-Some.ensures.line in
    let at = c.loop-line.invariant in
    let bs : List BlockFields = at.blocks in
    let ended : Option BlockDraft = c.in-Ok.ended in
    let old : spec.Draft = drafted bs c.loop-line.draft in
    let new : spec.Draft = drafted (with_block bs ended) c.take_line.new.self in
    let taken : spec.take_line old (line_front c.loop-line.lines.rest) ≡ Some new = ap (spec.take_line old) (sym e.1) ∙ c.in-Ok.ensures bs at.builds.count in
    let after = line_after bs c.loop-line.draft c.take_line.new.self ended (line_front c.loop-line.lines.rest) at.sound taken in
    may_end bs c.loop-line.draft c.take_line.new.self ended c.loop-line.built after at.builds (omega (arith, at.below, at.few))

pub returns-in-Err-Refused : goal.returns-in-Err-Refused
returns-in-Err-Refused c =
    let e = c.in-Some.ensures.line in
    let at = c.loop-line.invariant in
    let old : spec.Draft = drafted at.blocks c.loop-line.draft in
    let none : spec.take_line old (line_front c.loop-line.lines.rest) ≡ None = ap (spec.take_line old) (sym e.1) ∙ (rw c.in-Err-Refused.field-0-is at c.in-Err-Refused.ensures) at.blocks at.builds.count in
    let stops = sym at.left ∙ line_refused c.loop-line.lines.count old c.loop-line.lines.rest (sym e.2 ∙ c.if-not-line.false) none in
    subst (IsFirstWrong c.args.bytes.now) (sym e.3) (reading_first c.args.bytes.now (c.loop-line.lines.count + 1) stops)

pub loop-line-init : goal.loop-line-init
loop-line-init c = record {
  blocks = [];
  left = (λ i. spec.reading_from (c.new-lines.ensures i).count (c.new-draft.ensures i) (whole_lines (c.new-lines.ensures i).rest) (cut_line (c.new-lines.ensures i).rest));
  sound = subst Sound (sym c.new-draft.ensures) start_sound;
  builds = c.new-built.ensures (head_drafted c.new-draft.result);
  below = omega arith;
  counted = sym (ap (λ (l : LinesLeft). l.count) c.new-lines.ensures);
  few = subst (λ (l : LinesLeft). l.count + length l.rest < 2 ^ 32 - 1) (sym c.new-lines.ensures) (omega (arith, c.requires));
}

pub returns-then-is_done : goal.returns-then-is_done
returns-then-is_done c =
    let at = c.loop-line.invariant in
    let ends = sym at.left ∙ lines_end c.loop-line.lines.count (drafted at.blocks c.loop-line.draft) c.loop-line.lines.rest c.in_default.ensures.line in
    read_as c.args.bytes.now at.blocks c.loop-line.draft c.loop-line.built c.loop-line.lines.count ends (sym c.is_done.ensures ∙ c.if-is_done.true) at.builds

pub returns-else-is_done : goal.returns-else-is_done
returns-else-is_done c =
    let at = c.loop-line.invariant in
    let ends = sym at.left ∙ lines_end c.loop-line.lines.count (drafted at.blocks c.loop-line.draft) c.loop-line.lines.rest c.in_default.ensures.line in
    subst (λ (n : ℕ). IsFirstWrong c.args.bytes.now (n + 1)) (sym at.counted) (read_short c.args.bytes.now at.blocks c.loop-line.draft c.loop-line.lines.count ends (sym c.is_done.ensures ∙ c.if-is_done.false))
