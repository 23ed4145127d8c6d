use Rattle.std.proofs.Common.{◌≡◌, ℕ, sym, subst, ap, ◌∙◌, Option, Some, Result, Ok, Err, List}
use Rattle.std.proofs.lemmas.Result.{err_from_is_err_and}
use Rattle.stream_file.specs.declared.draft.Draft as code
use Rattle.stream_file.specs.declared.draft.BlockDraft.{BlockDraft}
use Rattle.stream_file.specs.declared.fault.StepFault.{StepFault}
use Rattle.stream_file.specs.declared.fault.StepFault.TheVariants.{Refused, Memory}
use Rattle.stream_file.specs.Fields.{BlockFields}
use Rattle.stream_file.specs.Draft as spec
use Rattle.stream_file.specs.declared.line.Line.{Line}
use Rattle.stream_file.specs.Shown.{row}
use Rattle.stream_file.specs.Drafted.{drafted, with_block, alone, Takes}
use Rattle.stream_file.proofs.draft.Draft.step.Goals as goal

-- a line that ends no block
alone_takes : (wanted : Option spec.Draft) (bs : List BlockFields) (new : code.Draft) (taken : Result (Unit {0}) StepFault) (result : Result (Option BlockDraft) StepFault) (other : Option spec.Draft) → wanted ≡ other → result ≡ alone taken → Takes other (λ _. drafted bs new) taken → Takes wanted (λ ended. drafted (with_block bs ended) new) result
alone_takes wanted bs new taken result other w e h = subst (Takes wanted (λ ended. drafted (with_block bs ended) new)) (sym e) (by taken (subst (λ (o : Option spec.Draft). Takes o (λ _. drafted bs new) taken) (sym w) h))
  where
    by : (r : Result (Unit {0}) StepFault) → Takes wanted (λ _. drafted bs new) r → Takes wanted (λ ended. drafted (with_block bs ended) new) (alone r)
    by (Ok x) k = k
    by (Err Refused) k = k
    by (Err Memory) k = k

-- a fault says the same of all that would have been taken
fault_takes : {A B : Type 0} (wanted other : Option spec.Draft) (now : A → spec.Draft) (later : B → spec.Draft) (fault : StepFault) → wanted ≡ other → Takes other now (Err fault) → Takes wanted later (Err fault)
fault_takes wanted other now later Refused w h = w ∙ h
fault_takes wanted other now later Memory w h = h

pub returns-in-Version : goal.returns-in-Version
returns-in-Version c = λ bs e. alone_takes (spec.step (drafted bs c.args.self.now) (row c.args.line)) bs c.take_version.new.self c.take_version.result c.alone.result (spec.take_version c.in-Version.version (drafted bs c.args.self.now)) (ap (λ (l : Line). spec.step (drafted bs c.args.self.now) (row l)) c.in-Version.is) c.alone.ensures (c.take_version.ensures bs)

pub returns-in-Processors : goal.returns-in-Processors
returns-in-Processors c = λ bs e. alone_takes (spec.step (drafted bs c.args.self.now) (row c.args.line)) bs c.take_processors.new.self c.take_processors.result c.alone-in-Processors.result (spec.take_processors c.in-Processors.count (drafted bs c.args.self.now)) (ap (λ (l : Line). spec.step (drafted bs c.args.self.now) (row l)) c.in-Processors.is) c.alone-in-Processors.ensures (c.take_processors.ensures bs)

pub returns-in-Barrier : goal.returns-in-Barrier
returns-in-Barrier c = λ bs e. alone_takes (spec.step (drafted bs c.args.self.now) (row c.args.line)) bs c.take_barrier.new.self c.take_barrier.result c.alone-in-Barrier.result (spec.take_barrier c.in-Barrier.delay (drafted bs c.args.self.now)) (ap (λ (l : Line). spec.step (drafted bs c.args.self.now) (row l)) c.in-Barrier.is) c.alone-in-Barrier.ensures (c.take_barrier.ensures bs)

pub returns-in-Times : goal.returns-in-Times
returns-in-Times c = λ bs e. alone_takes (spec.step (drafted bs c.args.self.now) (row c.args.line)) bs c.take_time.new.self c.take_time.result c.alone-in-Times.result (spec.take_time c.in-Times.class c.in-Times.time (drafted bs c.args.self.now)) (ap (λ (l : Line). spec.step (drafted bs c.args.self.now) (row l)) c.in-Times.is) c.alone-in-Times.ensures (c.take_time.ensures bs)

pub returns-in-Named : goal.returns-in-Named
returns-in-Named c = λ bs e. alone_takes (spec.step (drafted bs c.args.self.now) (row c.args.line)) bs c.take_name.new.self c.take_name.result c.alone-in-Named.result (spec.take_name (record { name = c.in-Named.name.now; kind = c.in-Named.kind }) (drafted bs c.args.self.now)) (ap (λ (l : Line). spec.step (drafted bs c.args.self.now) (row l)) c.in-Named.is) c.alone-in-Named.ensures (c.take_name.ensures bs)

pub returns-in-Does : goal.returns-in-Does
returns-in-Does c = λ bs e. alone_takes (spec.step (drafted bs c.args.self.now) (row c.args.line)) bs c.take_tuple.new.self c.take_tuple.result c.alone-in-Does.result (spec.take_tuple c.in-Does.tuple (drafted bs c.args.self.now)) (ap (λ (l : Line). spec.step (drafted bs c.args.self.now) (row l)) c.in-Does.is) c.alone-in-Does.ensures (c.take_tuple.ensures bs)

pub returns-in-Masks : goal.returns-in-Masks
returns-in-Masks c = λ bs e. alone_takes (spec.step (drafted bs c.args.self.now) (row c.args.line)) bs c.take_mask.new.self c.take_mask.result c.alone-in-Masks.result (spec.take_mask c.in-Masks.mask (drafted bs c.args.self.now)) (ap (λ (l : Line). spec.step (drafted bs c.args.self.now) (row l)) c.in-Masks.is) c.alone-in-Masks.ensures (subst (λ (m : ℕ). Takes (spec.take_mask m (drafted bs c.args.self.now)) (λ _. drafted bs c.take_mask.new.self) c.take_mask.result) c.of_number.ensures (c.take_mask.ensures bs))

pub returns-in-Streams : goal.returns-in-Streams
returns-in-Streams c = λ bs e. alone_takes (spec.step (drafted bs c.args.self.now) (row c.args.line)) bs c.take_stream.new.self c.take_stream.result c.alone-in-Streams.result (spec.take_stream c.in-Streams.processor c.in-Streams.items.now (drafted bs c.args.self.now)) (ap (λ (l : Line). spec.step (drafted bs c.args.self.now) (row l)) c.in-Streams.is) c.alone-in-Streams.ensures (c.take_stream.ensures bs)

pub returns-in-Ends : goal.returns-in-Ends
returns-in-Ends c = λ bs e. alone_takes (spec.step (drafted bs c.args.self.now) (row c.args.line)) bs c.take_end.new.self c.take_end.result c.alone-in-Ends.result (spec.take_end (drafted bs c.args.self.now)) (ap (λ (l : Line). spec.step (drafted bs c.args.self.now) (row l)) c.in-Ends.is) c.alone-in-Ends.ensures (c.take_end.ensures bs)

pub returns-in_err-take_next-in-Follows : goal.returns-in_err-take_next-in-Follows
returns-in_err-take_next-in-Follows c = λ bs e.
    let p = err_from_is_err_and c.from_residual.result c.from_residual.ensures.1 in
    rw (p.1, p.2) (fault_takes (spec.step (drafted bs c.args.self.now) (row c.args.line)) (spec.take_next c.in-Follows.next (drafted bs c.args.self.now)) (λ (b : BlockDraft). drafted (with_block bs (Some b)) c.take_next.new.self) (λ (ended : Option BlockDraft). drafted (with_block bs ended) c.take_next.new.self) c.in_err-take_next-in-Follows.field-0.0 (ap (λ (l : Line). spec.step (drafted bs c.args.self.now) (row l)) c.in-Follows.is) (c.in_err-take_next-in-Follows.ensures bs))
